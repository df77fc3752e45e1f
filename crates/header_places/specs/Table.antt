-- Document 01, "The header": the table of tags, as data; with the bound of document 02, "Tags that must be understood".
use Rattle.std.specs.Prelude.{ℕ, List, [], ◌∷◌, map}
use Rattle.header_places.specs.declared.Row.{Row}
use Rattle.header_places.specs.declared.TagTable.{TagTable as CodeTable}

-- The types in rising order, the length that each type's value has, and how many of the rows, from the first on, are required. A type from
-- `critical` up has to be known (document 02 says "understood").
pub record TagTable : Type 0 where
  pub types : List ℕ
  pub lengths : List ℕ
  pub required : ℕ
  pub critical : ℕ

-- The bound is 8000 whatever the rows are.
abbrev pub table : List ℕ → List ℕ → ℕ → TagTable
table t n k = record { types = t; lengths = n; required = k; critical = 0x8000 }

-- The table that the code is handed, row by row.
abbrev pub types_of : List Row → List ℕ
types_of rows = map (λ (r : Row). r.kind) rows

abbrev pub lengths_of : List Row → List ℕ
lengths_of rows = map (λ (r : Row). r.length) rows

abbrev pub table_of : CodeTable → TagTable
table_of t = table (types_of t.rows) (lengths_of t.rows) t.required

-- The same rows with another bound, to say what the bound does.
abbrev pub bounded_by : ℕ → TagTable → TagTable
bounded_by b T = record { types = T.types; lengths = T.lengths; required = T.required; critical = b }

-- Version, timestamp, SHA-256 digest, signature, auth type; and the key hint, which is optional.
abbrev pub document_table : TagTable
document_table = table (0x0001 ∷ 0x0002 ∷ 0x0003 ∷ 0x0020 ∷ 0x0030 ∷ 0x1000 ∷ []) (4 ∷ 8 ∷ 32 ∷ 64 ∷ 2 ∷ 32 ∷ []) 5
