-- Document 01's examples of the listing. Assumes nothing.
use mathlib.Core.Path.{◌≡◌, refl, ap}
use Prim.Native.Nat.{ℕ, ◌≤◌}
use mathlib.Core.List.{List}
use native.Mathlib.Omega.{arith}
use mathlib.Core.Bool.{Bool, true, false}
use lib.Dec.{ltb}
use lib.ListN.{length, take}
use lib.Seq.{take-take, take_all, length-take-le}
use borrow.Author.Tests.{ltb-true, ltb-false, le-ltb}
use Rattle.header_tags.specs.Walk.{item_at, item_from, tags_from}
use Rattle.header_places.specs.Judging.{judge, row_of, places_in}
use Rattle.header_reader.specs.Reading.{tag_places, read_header}
use Rattle.header_reader.proofs.Answers.{short, by_places}
use Rattle.listing_lines.specs.Lines.{digits_within, decimal, fields, refusal}
use Rattle.listing.specs.Listing.{listing}
use Rattle.listing.specs.Examples.{ListsExample, MissingVersion, ListsBytes, TooShort, FirstBytesOnly}

pub lists_example : ListsExample
unfolding digits_within decimal fields
lists_example digest signature hint = refl

pub missing_version : MissingVersion
unfolding digits_within decimal refusal
missing_version = refl

pub lists_bytes : ListsBytes
unfolding read_header tag_places places_in judge row_of tags_from item_from item_at digits_within decimal fields refusal
lists_bytes = (refl, refl)

pub too_short : TooShort
unfolding digits_within decimal refusal
too_short s h = ap listing (by_places s (short s h))

-- a buffer and its first 256 bytes read alike
alike : (s : List ℕ) (b : Bool) → ltb (length s) 256 ≡ b → read_header (take 256 s) ≡ read_header s
unfolding read_header tag_places
alike s true e = ap read_header (take_all 256 s (omega (arith, ltb-true (length s) 256 e)))
alike s false e =
    let room : 256 ≤ length s = ltb-false (length s) 256 e in
    let p : ltb (length (take 256 s)) 256 ≡ false = le-ltb (length (take 256 s)) 256 (omega (arith, length-take-le 256 s room)) in
    rw (take-take 256 256 s (omega arith), p, e)

pub first_bytes_only : FirstBytesOnly
first_bytes_only s = ap listing (alike s (ltb (length s) 256) refl)
