-- Document 01, "The flash": a sector, and what a write to it leaves.
use Rattle.std.specs.Prelude.{◌≡◌, List, ◌++◌, ℕ, ◌+◌, ◌*◌, ◌≤◌, length, take, drop, replicate}
use Rattle.flash.specs.declared.Geometry.{Geometry}
use Rattle.flash.specs.declared.SectorNumber.{SectorNumber}
use Rattle.flash.specs.Sizes.{Limits, firmware, partition_size, most_sectors, largest_size}

abbrev pub sector_number : ℕ → SectorNumber
sector_number i = record { 0 = i }

-- the bytes of a partition of a checked geometry, which the functions on its sectors require
pub record Partition (g : Geometry) (l : List ℕ) : Type 0 where
  pub limits : Limits g
  pub whole : length l ≡ partition_size g

-- `at` is the byte offset of sector i, which ends within the partition; the partition has 64 MiB at most
pub record SectorAt (g : Geometry) (i at : ℕ) : Type 0 where
  pub is : at ≡ i * g.size
  pub within : at + g.size ≤ partition_size g
  pub small : partition_size g ≤ most_sectors * largest_size

-- the s bytes of l from place a on
unfoldable pub part : ℕ → ℕ → List ℕ → List ℕ
part a s l = take s (drop a l)

-- l with x written over its bytes from place a on
unfoldable pub patch : ℕ → List ℕ → List ℕ → List ℕ
patch a x l = take a l ++ x ++ drop (a + length x) l

-- sector i of the partition l
abbrev pub sector_of : Geometry → ℕ → List ℕ → List ℕ
sector_of g i l = part (i * g.size) g.size l

-- the partition l with x written over its sector i, and nothing else: an erase, a copy and a torn write differ in x alone
abbrev pub write_sector : Geometry → ℕ → List ℕ → List ℕ → List ℕ
write_sector g i x l = patch (i * g.size) x l

-- the bytes of the firmware sectors, which are all that an image may fill
abbrev pub firmware_of : Geometry → List ℕ → List ℕ
firmware_of g l = take (firmware g * g.size) l

-- an erased sector of s bytes: nothing but FF
unfoldable pub erased : ℕ → List ℕ
erased s = replicate s 0xFF
