-- Document 01, "The flash": the three lent buffers and their lengths.
use Rattle.std.specs.Prelude.{◌≡◌, Bool, ◌&&◌, List, ℕ, length, eqb}
use Rattle.std.specs.Borrow.{Bor}
use Rattle.numbers.specs.Answer.{Answer}
use Rattle.flash.specs.declared.Geometry.{Geometry}
use Rattle.flash.specs.Sizes.{geometry, partition_size, within_limits, Limits, geometry_where}

-- BOOT, UPDATE and SWAP, as their bytes
pub record Flash : Type 0 where
  pub boot : List ℕ
  pub update : List ℕ
  pub swap : List ℕ

abbrev pub flash : List ℕ → List ℕ → List ℕ → Flash
flash b u s = record { boot = b; update = u; swap = s }

-- the three lent buffers as a call finds them, or as it leaves them: what the references to them hold
abbrev pub lent : Bor (List ℕ) → Bor (List ℕ) → Bor (List ℕ) → Flash
lent b u s = flash b.now u.now s.now

-- a geometry within the limits, and a partition of exactly n × S bytes
unfoldable pub partition_fits : Geometry → List ℕ → Bool
partition_fits g l = within_limits g && eqb (length l) (partition_size g)

-- the lengths of the three: two whole partitions, and one sector for SWAP
unfoldable pub fits : Geometry → Flash → Bool
fits g f = partition_fits g f.boot && eqb (length f.update) (partition_size g) && eqb (length f.swap) g.size

-- the same as facts, for functions on a checked flash
pub record Shaped (g : Geometry) (f : Flash) : Type 0 where
  pub limits : Limits g
  pub boot : length f.boot ≡ partition_size g
  pub update : length f.update ≡ partition_size g
  pub swap : length f.swap ≡ g.size

-- the check of one partition, and of the three buffers: any numbers n and s may be asked for
unfoldable pub partition_of : ℕ → ℕ → List ℕ → Answer Geometry
partition_of n s l = geometry_where (partition_fits (geometry n s) l) n s

unfoldable pub flash_of : ℕ → ℕ → Flash → Answer Geometry
flash_of n s f = geometry_where (fits (geometry n s) f) n s
