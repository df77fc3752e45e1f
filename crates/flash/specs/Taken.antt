-- Document 01, "The flash", and document 02, "More sectors": which geometries and lengths are taken. Proved in proofs/.
use Rattle.std.specs.Prelude.{◌≡◌, ◌↔◌, true, List, ℕ, ◌*◌, ◌%◌, ◌≤◌, length}
use Rattle.numbers.specs.Answer.{Answer, gives, refused}
use Rattle.flash.specs.declared.Geometry.{Geometry}
use Rattle.flash.specs.Sizes.{geometry, trailer_length, most_sectors, geometry_of}
use Rattle.flash.specs.Buffers.{Flash, fits, partition_of, flash_of}

-- The steps and the ends of S, and the ends of n, where n may be as much as `most`.
pub record UpTo (most n s : ℕ) : Type 0 where
  pub unit : s % 256 ≡ 0
  pub small : 256 ≤ s
  pub large : s ≤ 131072
  pub few : 2 ≤ n
  pub many : n ≤ most

-- The rules: n may be as much as `most_sectors`, and the trailer has to fit one sector.
pub record InRules (n s : ℕ) : Type 0 where
  pub counts : UpTo most_sectors n s
  pub trailer : trailer_length (geometry n s) ≤ s

-- The lengths with them: BOOT and UPDATE have n × S bytes, SWAP has S.
pub record LentRight (n s : ℕ) (f : Flash) : Type 0 where
  pub rules : InRules n s
  pub boot : length f.boot ≡ n * s
  pub update : length f.update ≡ n * s
  pub swap : length f.swap ≡ s

-- An answer is the geometry that was asked for exactly if P holds, and refusal 1 exactly if it does not.
pub record TakenIf (P : Type 0) (answer : Answer Geometry) (n s : ℕ) : Type 0 where
  pub taken : (answer ≡ gives (geometry n s)) ↔ P
  pub refusal : (answer ≡ refused 1 0) ↔ (P → ⊥)

-- So are the answers to a geometry alone, to one with a partition, and to one with the three buffers.
abbrev pub WhichAreTaken : Type 0
WhichAreTaken = (n s : ℕ) → TakenIf (InRules n s) (geometry_of n s) n s

abbrev pub WhichPartitions : Type 0
WhichPartitions = (n s : ℕ) (l : List ℕ) → TakenIf (InRules n s × (length l ≡ n * s)) (partition_of n s l) n s

abbrev pub WhichFlashes : Type 0
WhichFlashes = (n s : ℕ) (f : Flash) → TakenIf (LentRight n s f) (flash_of n s f) n s

-- The same of the test by which power-up, arm and confirm go.
abbrev pub WhichFit : Type 0
WhichFit = (n s : ℕ) (f : Flash) → (fits (geometry n s) f ≡ true) ↔ LentRight n s f

-- Every geometry of document 01, which stopped at 64 sectors and had no rule for the trailer, is still taken.
abbrev pub TakenBefore : Type 0
TakenBefore = (n s : ℕ) → UpTo 64 n s → InRules n s

-- Some are: the smallest, one whose S is no power of two, one whose trailer fills its sector, the most sectors of case 12, the largest.
abbrev pub SomeAreTaken : Type 0
SomeAreTaken = InRules 2 256 × InRules 3 768 × InRules 511 256 × InRules 512 512 × InRules 512 131072

-- Some are not: too many sectors in case 12, a sector of 384 bytes, one sector alone, a sector that is too large, and a trailer of one byte
-- too many.
pub record SomeAreRefused : Type 0 where
  pub many : InRules 513 512 → ⊥
  pub unit : InRules 512 384 → ⊥
  pub few : InRules 1 512 → ⊥
  pub large : InRules 2 131328 → ⊥
  pub trailer : InRules 512 256 → ⊥

-- Of the geometries within the other limits the trailer's rule refuses one, and it alone: 512 sectors of 256 bytes.
abbrev pub OnlyOneTooLong : Type 0
OnlyOneTooLong = (n s : ℕ) → UpTo most_sectors n s → (InRules n s → ⊥) ↔ ((n ≡ 512) × (s ≡ 256))

-- Document 02's own numbers: 512 sectors need 257 bytes of trailer, 511 need 256, whatever their size.
abbrev pub TrailersNeed : Type 0
TrailersNeed = (s : ℕ) → (trailer_length (geometry 512 s) ≡ 257) × (trailer_length (geometry 511 s) ≡ 256)
