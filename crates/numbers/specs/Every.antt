-- Claims over lists of cases, as document 01's marked cases are.
use Rattle.std.specs.Prelude.{List, [], ◌∷◌}

-- P holds of every case of a list, of any kind of case.
abbrev pub Every : {C : Type 0} → (C → Type 0) → List C → Type 0
Every P [] = Unit {0}
Every P (c ∷ cs) = P c × Every P cs
