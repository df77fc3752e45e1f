-- Document 01, "The flash": the geometry of a partition and its limits; document 02, "More sectors": as many as 512.
use Rattle.std.specs.Prelude.{◌≡◌, Bool, cond, ◌&&◌, ℕ, ◌+◌, ◌-◌, ◌*◌, ◌/◌, ◌%◌, ◌≤◌, leb, eqb, Option, Some, None}
use Rattle.numbers.specs.Answer.{Answer, gives, refused}
use Rattle.flash.specs.declared.Geometry.{Geometry}

-- n sectors of s bytes
abbrev pub geometry : ℕ → ℕ → Geometry
geometry n s = record { sectors = n; size = s }

-- 01's m, the number of firmware sectors. They come first; sector m, the last one, is the trailer sector
unfoldable pub firmware : Geometry → ℕ
firmware g = g.sectors - 1

-- the bytes of BOOT, and of UPDATE: n × S
abbrev pub partition_size : Geometry → ℕ
partition_size g = g.sectors * g.size

-- the bytes that a trailer needs: the status byte, and half a byte for each firmware sector, rounded up
abbrev pub trailer_length : Geometry → ℕ
trailer_length g = 1 + (firmware g + 1) / 2

-- the most sectors that a partition may have, and the most bytes that a sector may
abbrev pub most_sectors : ℕ
most_sectors = 512

abbrev pub largest_size : ℕ
largest_size = 131072

-- the limits: 2 to `most_sectors` sectors, of 256 to `largest_size` bytes in steps of 256, and the trailer fits one sector
unfoldable pub within_limits : Geometry → Bool
within_limits g =
    leb 2 g.sectors && leb g.sectors most_sectors && leb 256 g.size && leb g.size largest_size && eqb (g.size % 256) 0
    && leb (trailer_length g) g.size

-- the same as facts, which the functions on a checked geometry require
pub record Limits (g : Geometry) : Type 0 where
  pub few : 2 ≤ g.sectors
  pub many : g.sectors ≤ most_sectors
  pub small : 256 ≤ g.size
  pub large : g.size ≤ largest_size
  pub unit : g.size % 256 ≡ 0
  pub trailer : trailer_length g ≤ g.size

-- the geometry of n sectors of s bytes where the rules hold; what is outside them is refusal 1
abbrev pub geometry_where : Bool → ℕ → ℕ → Answer Geometry
geometry_where b n s = cond b (gives (geometry n s)) (refused 1 0)

unfoldable pub geometry_of : ℕ → ℕ → Answer Geometry
geometry_of n s = geometry_where (within_limits (geometry n s)) n s

-- what the code's answer says, for the contracts: no geometry is refusal 1
abbrev pub geometry_answer : Option Geometry → Answer Geometry
geometry_answer (Some g) = gives g
geometry_answer None = refused 1 0
