-- Release sheets byte by byte: by computing. Assumes nothing.
use mathlib.Core.Path.{◌≡◌, refl}
use Prim.Native.Nat.{ℕ, ◌<◌}
use mathlib.Core.List.{List, [], ◌∷◌}
use mathlib.Core.Bool.{Bool, true, ◌&&◌, true≢false}
use lib.Dec.{ltb, lit<}
use borrow.Author.Tests.{ltb-true}
use Rattle.numbers.specs.Every.{Every}
use Rattle.numbers.proofs.Tests.{first_of, second_of}
use Rattle.release_lines.specs.Search.{index_of}
use Rattle.release_digits.specs.Digits.{all_digits, number_from, all_hex, hex_bytes}
use Rattle.header_tags.specs.Bytes.{same}
use Rattle.release_lines.specs.Lines.{lines, row_named, line_of}
use Rattle.release_places.specs.Judging.{missing_row, judge, judged}
use Rattle.release_sheet.specs.Reading.{read_sheet}
use Rattle.release_claims.specs.Witness.{listed_values, largest_values, Witnesses}
use Rattle.release_claims.specs.ReadsBack.{Writable}

-- each entry is a byte, by a test
are_bytes : List ℕ → Bool
are_bytes [] = true
are_bytes (b ∷ l) = ltb b 256 && are_bytes l

bytes : (l : List ℕ) → are_bytes l ≡ true → Every (λ b. b < 256) l
unfolding are_bytes
bytes [] e = tt
bytes (b ∷ l) e = (ltb-true b 256 (first_of (ltb b 256) (are_bytes l) e), bytes l (second_of (ltb b 256) (are_bytes l) e))

listing_writable_lem : Writable listed_values
unfolding are_bytes
listing_writable_lem =
    record {
      statable = record { version = lit< tt; timestamp = lit< tt; auth_type = lit< tt; signature = refl; hint = refl; no_hint = λ e. refl };
      signature = bytes listed_values.signature refl;
      hint = bytes listed_values.hint refl;
    }

largest_writable_lem : Writable largest_values
unfolding are_bytes
largest_writable_lem =
    record {
      statable = record { version = lit< tt; timestamp = lit< tt; auth_type = lit< tt; signature = refl; hint = refl; no_hint = λ e. absurd (true≢false e) };
      signature = bytes largest_values.signature refl;
      hint = bytes largest_values.hint refl;
    }

pub witnesses : Witnesses
unfolding index_of all_digits number_from all_hex hex_bytes lines same row_named line_of missing_row judge judged read_sheet
witnesses =
    record {
      listing = refl;
      largest = refl;
      listing_writable = listing_writable_lem;
      largest_writable = largest_writable_lem;
      refusals = (refl, (refl, (refl, (refl, (refl, (refl, (refl, (refl, (refl, tt)))))))));
    }
