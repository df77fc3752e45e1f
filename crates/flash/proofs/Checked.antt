-- What the tests of a geometry and of the lengths say, as facts, and the other way round.
use mathlib.Core.Path.{◌≡◌, sym, ap, ◌∙◌}
use mathlib.Core.Bool.{true}
use mathlib.Core.List.{List}
use Prim.Native.Nat.{ℕ, suc, ◌+◌, ◌*◌, ◌≤◌, ◌<◌}
use native.Mathlib.Nat.{mul-le-mul, mul-le-mul_right, suc-mul, le_of_mul-le-mul_right}
use native.Mathlib.Omega.{arith}
use borrow.Author.Tests.{eqb-true, eq-eqb}
use Rattle.numbers.proofs.Tests.{both}
use Rattle.flash.specs.declared.Geometry.{Geometry}
use Rattle.flash.specs.Sizes.{firmware, partition_size, most_sectors, largest_size, within_limits, Limits}
use Rattle.flash.specs.Sectors.{Partition}
use Rattle.flash.specs.Buffers.{Flash, partition_fits, fits, Shaped}
use Rattle.flash.specs.Taken.{InRules}
use Rattle.flash.proofs.Taken.{tests_hold, rules_hold}

-- ---- a geometry

pub rules_limits : (g : Geometry) → InRules g.sectors g.size → Limits g
rules_limits g w =
    let c = w.counts in
    record { few = c.few; many = c.many; small = c.small; large = c.large; unit = c.unit; trailer = w.trailer }

pub limits_rules : (g : Geometry) → Limits g → InRules g.sectors g.size
limits_rules g G = record {
  counts = record { unit = G.unit; small = G.small; large = G.large; few = G.few; many = G.many };
  trailer = G.trailer;
}

pub limits_of : (g : Geometry) → within_limits g ≡ true → Limits g
limits_of g h = rules_limits g (rules_hold g h)

pub limits_within : (g : Geometry) → Limits g → within_limits g ≡ true
limits_within g G = tests_hold g (limits_rules g G)

-- n is m + 1
pub sectors_are : (g : Geometry) → Limits g → g.sectors ≡ suc (firmware g)
unfolding firmware
sectors_are g G = omega (arith, G.few)

pub some_firmware : (g : Geometry) → Limits g → 1 ≤ firmware g
unfolding firmware
some_firmware g G = omega (arith, G.few)

-- n × S is m × S + S
pub size_split : (g : Geometry) → Limits g → partition_size g ≡ firmware g * g.size + g.size
size_split g G = ap (λ (n : ℕ). n * g.size) (sectors_are g G) ∙ suc-mul (firmware g) g.size

pub size_small : (g : Geometry) → Limits g → partition_size g ≤ most_sectors * largest_size
size_small g G = mul-le-mul G.many G.large

-- sector i ends within the partition, before any later sector begins
pub sector_end : (s i j : ℕ) → i < j → i * s + s ≤ j * s
sector_end s i j h = rw suc-mul at (mul-le-mul_right {m = suc i} {n = j} s h)

-- ---- lengths

pub partition_of_lem : (g : Geometry) (l : List ℕ) → partition_fits g l ≡ true → Partition g l
unfolding partition_fits
partition_of_lem g l h = let t = both _ _ h in record { limits = limits_of g t.0; whole = eqb-true _ _ t.1 }

pub partition_fits_lem : (g : Geometry) (l : List ℕ) → Partition g l → partition_fits g l ≡ true
unfolding partition_fits
partition_fits_lem g l P = simp (limits_within g P.limits, eq-eqb _ _ P.whole)

pub shaped_of : (g : Geometry) (f : Flash) → fits g f ≡ true → Shaped g f
unfolding fits
shaped_of g f h =
    let s = both _ _ h in
    let u = both _ _ s.0 in
    let b : Partition g f.boot = partition_of_lem g f.boot u.0 in
    record { limits = b.limits; boot = b.whole; update = eqb-true _ _ u.1; swap = eqb-true _ _ s.1 }

pub boot_partition : (g : Geometry) (f : Flash) → Shaped g f → Partition g f.boot
boot_partition g f s = record { limits = s.limits; whole = s.boot }

pub update_partition : (g : Geometry) (f : Flash) → Shaped g f → Partition g f.update
update_partition g f s = record { limits = s.limits; whole = s.update }

pub shaped_fits : (g : Geometry) (f : Flash) → Shaped g f → fits g f ≡ true
unfolding fits
shaped_fits g f s = simp (partition_fits_lem g f.boot (boot_partition g f s), eq-eqb _ _ s.update, eq-eqb _ _ s.swap)

-- three buffers fit one geometry only
pub same_geometry : (g g' : Geometry) (f : Flash) → Shaped g f → Shaped g' f → g' ≡ g
same_geometry g g' f s s' = λ i. record { sectors = k i; size = e i }
  where
    e : g'.size ≡ g.size
    e = sym s'.swap ∙ s.swap

    l : g'.sectors * g.size ≡ g.sectors * g.size
    l = ap (λ (n : ℕ). g'.sectors * n) (sym e) ∙ sym s'.boot ∙ s.boot

    a : g'.sectors ≤ g.sectors
    a = le_of_mul-le-mul_right {k = g.size} (omega (arith, l)) (omega (arith, s.limits.small))

    b : g.sectors ≤ g'.sectors
    b = le_of_mul-le-mul_right {k = g.size} (omega (arith, l)) (omega (arith, s.limits.small))

    k : g'.sectors ≡ g.sectors
    k = omega (arith, a, b)
