-- The rows of numbers and bytes of what a release sheet states.
use Rattle.std.specs.Prelude.{ℕ, List, [], ◌∷◌, ◌++◌}
use Rattle.c_headers.specs.Rows.{bit_of}
use Rattle.release_values.specs.declared.Stated.{Stated}

-- Its numbers, behind the line of a refusal.
abbrev pub sheet_numbers : ℕ → Stated → List ℕ
sheet_numbers line v = line ∷ v.version ∷ v.timestamp ∷ v.auth_type ∷ bit_of v.has_hint ∷ []

-- Its bytes: the signature, and the hint behind it.
abbrev pub sheet_bytes : Stated → List ℕ
sheet_bytes v = v.signature ++ v.hint
