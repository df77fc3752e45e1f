-- What a C caller of `tainhosa_read_header`, `tainhosa_check_image`, `tainhosa_check_firmware`, `tainhosa_write_header` and of the sealed
-- profile's `tainhosa_read_sealed` and `tainhosa_write_sealed` gets.
use Rattle.std.specs.Prelude.{ℕ, cond, ◌&&◌, List, [], ◌∷◌, eqb, length}
use Rattle.numbers.specs.Answer.{Answer}
use Rattle.header_reader.specs.declared.Header.{Header}
use Rattle.header_reader.specs.Reading.{read_header, values_of}
use Rattle.header_writer.specs.Writing.{Write, write_header}
use Rattle.header_sealed.specs.Profile.{read_sealed, write_sealed}
use Rattle.image.specs.Check.{image_in, check_image}
use Rattle.numbers.specs.declared.Refused.{Refused}
use Rattle.numbers.specs.GivenBack.{refusal_of}
use Rattle.c_headers.specs.Rows.{header_numbers, bytes_of}

-- The answer, and the caller's two buffers as the call returns.
pub record Given : Type 0 where
  pub answer : ℕ
  pub numbers : List ℕ
  pub bytes : List ℕ

-- The call answers r and leaves the numbers n and the bytes b.
abbrev pub after_header : ℕ → List ℕ → List ℕ → Given
after_header r n b = record { answer = r; numbers = n; bytes = b }

-- A refusal or none, and a header's values, in buffers of 6 numbers and 128 bytes; else 1, and both stay as they were.
abbrev pub given : Refused → Header → List ℕ → List ℕ → Given
given x v n b =
    cond (eqb (length n) 6 && eqb (length b) 128)
    (after_header x.number (header_numbers x.place v) (bytes_of v))
    (after_header 1 n b)

-- 0 and the header's values, or a refusal, its place, and blank values.
abbrev pub laid_out : Answer Header → List ℕ → List ℕ → Given
laid_out a n b = given (refusal_of a) (values_of a) n b

-- "The header": what the reader says of the bytes s.
abbrev pub read_answer : List ℕ → List ℕ → List ℕ → Given
read_answer s n b = laid_out (read_header s) n b

-- Document 02, "Sealed headers": what the sealed reader says of the bytes s.
abbrev pub read_sealed_answer : List ℕ → List ℕ → List ℕ → Given
read_sealed_answer s n b = laid_out (read_sealed s) n b

-- "Image check": what it says of a partition l of this many sectors of this size.
abbrev pub check_answer : ℕ → ℕ → List ℕ → List ℕ → List ℕ → Given
check_answer sectors size l n b = laid_out (check_image sectors size l) n b

-- "Image check" without check 1: what it says of an image in the bytes l, which stand for the firmware sectors.
abbrev pub firmware_answer : List ℕ → List ℕ → List ℕ → Given
firmware_answer l n b = laid_out (image_in l) n b

-- The answer, and the output and the row as the call returns.
pub record Wrote : Type 0 where
  pub answer : ℕ
  pub out : List ℕ
  pub row : List ℕ

-- The call answers r and leaves the output and the row.
abbrev pub after_write : ℕ → List ℕ → List ℕ → Wrote
after_write r out row = record { answer = r; out = out; row = row }

-- 0, or a refusal; the row is its place, 0 where there is none.
abbrev pub wrote : Write → Wrote
wrote w = after_write (refusal_of w.answer).number w.bytes ((refusal_of w.answer).place ∷ [])

-- What a call that writes gives back, where it is lent k bytes of values b and a row of 1 number; else 1, and output and row stay as they
-- were.
abbrev pub wrote_from : ℕ → Write → List ℕ → List ℕ → List ℕ → Wrote
wrote_from k w out b row = cond (eqb (length b) k && eqb (length row) 1) (wrote w) (after_write 1 out row)

-- "The header": what the writer makes of the values, of which 128 bytes are lent.
abbrev pub write_answer : List ℕ → Header → List ℕ → List ℕ → Wrote
write_answer out v b row = wrote_from 128 (write_header v out) out b row

-- "Sealed headers": what the sealed writer makes of the values, of which 128 bytes are lent.
abbrev pub write_sealed_answer : List ℕ → Header → List ℕ → List ℕ → Wrote
write_sealed_answer out v b row = wrote_from 128 (write_sealed v out) out b row
