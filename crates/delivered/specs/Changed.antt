-- Document 02, "The digest must cover the header": a release that is changed, with real digests. The premises of `image/EachChangeIsRefused`
-- can be met, and what it leaves open is then 9. Proved in proofs/.
use Rattle.std.specs.Prelude.{◌≡◌, List, ◌∷◌, ◌++◌, ℕ, set, replicate}
use Rattle.numbers.specs.Answer.{refused}
use Rattle.header_reader.specs.declared.Header.{Header}
use Rattle.header_writer.specs.Writing.{header_bytes}
use Rattle.image.specs.Check.{image_in}
use Rattle.image.specs.Changed.{StatesSame, Change}
use Rattle.delivered.specs.Witness.{header_stating, header_of}

-- The firmware sectors of version 7; and the same with another number in the byte at 12, the version's first, so that it says 9.
unfoldable pub release7 : List ℕ
release7 = header_bytes (header_of 7) ++ (7 ∷ replicate 255 0)

unfoldable pub says9 : List ℕ
says9 = set release7 12 9

-- What its header states: version 9, with the digest of version 7.
abbrev pub header9 : Header
header9 = header_stating 9 (header_of 7).digest

pub record VersionChanged : Type 0 where
  pub states : StatesSame release7 28 (header_of 7) says9 28 header9
  pub change : Change release7 28 (header_of 7) says9 28 header9
  pub nine : image_in says9 ≡ refused 9 256
