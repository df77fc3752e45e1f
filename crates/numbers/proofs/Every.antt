-- Claims over lists of cases, for lists that hold several kinds of case.
use mathlib.Core.List.{List, [], ◌∷◌, ◌++◌, map}
use Rattle.numbers.specs.Every.{Every}

-- what follows from P of each case holds of each case
pub every : {C : Type 0} (P Q : C → Type 0) → ((c : C) → P c → Q c) → (cs : List C) → Every P cs → Every Q cs
every P Q h [] e = tt
every P Q h (c ∷ cs) e = (h c e.0, every P Q h cs e.1)

-- cases of one kind among others
pub every_map : {C D : Type 0} (kind : C → D) (P : D → Type 0) (cs : List C) → Every (λ c. P (kind c)) cs → Every P (map kind cs)
every_map kind P [] e = tt
every_map kind P (c ∷ cs) e = (e.0, every_map kind P cs e.1)

-- two lists as one
pub every_append : {C : Type 0} (P : C → Type 0) (cs ds : List C) → Every P cs → Every P ds → Every P (cs ++ ds)
every_append P [] ds e d = d
every_append P (c ∷ cs) ds e d = (e.0, every_append P cs ds e.1 d)
