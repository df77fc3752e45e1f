-- Document 02, "Sealed headers": the sealed reader and the sealed writer.
use Rattle.std.specs.Prelude.{ℕ, suc, List, [], ◌∷◌, ◌++◌, true, false, cond, ltb, eqb, length, take, drop}
use Rattle.numbers.specs.Answer.{Answer, gives, refused, then}
use Rattle.header_reader.specs.declared.Header.{Header}
use Rattle.header_reader.specs.Reading.{read_header}
use Rattle.header_writer.specs.Writing.{header_bytes, Write, write}

-- The first place at which two strings of bytes of one length differ; where they do not, that length.
unfoldable pub first_difference : List ℕ → List ℕ → ℕ
first_difference [] b = 0
first_difference (x ∷ a) [] = 0
first_difference (x ∷ a) (y ∷ b) = elim (eqb x y) [ true ↦ suc (first_difference a b) | false ↦ 0 ]

-- What is told of a header that the reader takes with the values v, and that first differs from their written form at d (256: nowhere).
-- With a hint: 21 at d, or v where nothing differs. Without one: 21, at d if that is before 138, where the hint's tag would stand, and else
-- at 138.
abbrev pub sealing : Header → ℕ → Answer Header
sealing v d =
    cond v.has_hint
    (cond (ltb d 256) (refused 21 d) (gives v))
    (cond (ltb d 138) (refused 21 d) (refused 21 138))

-- The sealed reader: first what the ordinary reader says of the bytes s; then 21 by the written form of the values that it gives; else
-- these values.
unfoldable pub read_sealed : List ℕ → Answer Header
read_sealed s = then (read_header s) (λ v. sealing v (first_difference (take 256 s) (header_bytes v)))

-- The sealed writer: 16, then 3 for a size of 0, then 21 at 138 without a hint; all leave the output alone. Else its first 256 bytes are
-- the written form, and the rest stays.
unfoldable pub write_sealed : Header → List ℕ → Write
write_sealed v out =
    cond (ltb (length out) 256) (write (refused 16 0) out)
    (cond (eqb v.size 0) (write (refused 3 4) out)
    (cond v.has_hint (write (gives tt) (header_bytes v ++ drop 256 out)) (write (refused 21 138) out)))
