-- What the check of a geometry answers, test by test.
use mathlib.Core.Path.{◌≡◌, refl, sym, ap, ◌∙◌}
use mathlib.Core.Logic.{◌≢◌}
use mathlib.Core.Bool.{Bool, true, false}
use mathlib.Core.List.{List}
use Prim.Native.Nat.{ℕ}
use native.Mathlib.Omega.{arith}
use lib.ListN.{length}
use Rattle.numbers.specs.Answer.{gives}
use Rattle.flash.specs.declared.Geometry.{Geometry}
use Rattle.std.specs.Prelude.{None}
use Rattle.flash.specs.Sizes.{geometry, partition_size, within_limits, Limits, geometry_answer, geometry_where, geometry_of}
use Rattle.flash.specs.Sectors.{Partition}
use Rattle.flash.specs.Buffers.{Flash, flash, partition_fits, fits, Shaped, partition_of, flash_of}
use Rattle.flash.proofs.Taken.{rules_hold, which_are_taken}
use Rattle.flash.proofs.Checked.{limits_rules, limits_of, partition_of_lem, shaped_of, shaped_fits}
use Rattle.flash.proofs.Lent.{which_partitions, which_flashes}

-- what is given is the geometry that was asked for, and the rules hold of it
record Given (b : Bool) (n s : ℕ) (g : Geometry) : Type 0 where
  pub holds : b ≡ true
  pub is : g ≡ geometry n s

given : (b : Bool) (n s : ℕ) (g : Geometry) → gives g ≡ geometry_where b n s → Given b n s g
given true n s g e = record { holds = refl; is = cc }
given false n s g e = absurd (let z : ◌≡◌ {A = ℕ} 0 1 = cc in omega arith)

not_given : (b : Bool) (n s : ℕ) → geometry_answer None ≡ geometry_where b n s → b ≡ false
not_given true n s e = absurd (let z : ◌≡◌ {A = ℕ} 0 1 = cc in omega arith)
not_given false n s e = refl

-- ---- a geometry alone

rules_given : (n s : ℕ) (g : Geometry) → gives g ≡ geometry_of n s → Given (within_limits (geometry n s)) n s g
unfolding geometry_of
rules_given n s g e = given (within_limits (geometry n s)) n s g e

pub limits_given : (n s : ℕ) (g : Geometry) → gives g ≡ geometry_of n s → Limits g
limits_given n s g e = let t = rules_given n s g e in rw t.is (limits_of (geometry n s) t.holds)

-- ---- with one partition

module _ (n s : ℕ) (l : List ℕ) where
  pub partition_outside : geometry_answer None ≡ geometry_of n s → geometry_answer None ≡ partition_of n s l
  partition_outside e = sym ((which_partitions n s l).refusal.1 (λ p. (which_are_taken n s).refusal.0 (sym e) p.0))

  module _ (g : Geometry) (e : gives g ≡ geometry_of n s) where
    pub partition_unequal : length l ≢ partition_size g → geometry_answer None ≡ partition_of n s l
    partition_unequal h = sym ((which_partitions n s l).refusal.1 (λ p. h (p.1 ∙ ap partition_size (sym (rules_given n s g e).is))))

    pub partition_equal : length l ≡ partition_size g → gives g ≡ partition_of n s l
    partition_equal h =
        let t = rules_given n s g e in
        ap gives t.is ∙ sym ((which_partitions n s l).taken.1 (rules_hold (geometry n s) t.holds, h ∙ ap partition_size t.is))

  pub partition_given : (g : Geometry) → gives g ≡ partition_of n s l → Partition g l
  unfolding partition_of
  partition_given g e =
      let t = given (partition_fits (geometry n s) l) n s g e in
      rw t.is (partition_of_lem (geometry n s) l t.holds)

-- ---- with the three buffers

module _ (n s : ℕ) (b u w : List ℕ) where
  pub flash_outside : geometry_answer None ≡ partition_of n s b → geometry_answer None ≡ flash_of n s (flash b u w)
  flash_outside e = sym ((which_flashes n s (flash b u w)).refusal.1 (λ p. (which_partitions n s b).refusal.0 (sym e) (p.rules, p.boot)))

  module _ (g : Geometry) (e : gives g ≡ partition_of n s b) where
    is_given : Given (partition_fits (geometry n s) b) n s g
    unfolding partition_of
    is_given = given (partition_fits (geometry n s) b) n s g e

    pub update_unequal : length u ≢ length b → geometry_answer None ≡ flash_of n s (flash b u w)
    update_unequal h = sym ((which_flashes n s (flash b u w)).refusal.1 (λ p. h (p.update ∙ sym p.boot)))

    pub swap_unequal : length w ≢ g.size → geometry_answer None ≡ flash_of n s (flash b u w)
    swap_unequal h = sym ((which_flashes n s (flash b u w)).refusal.1 (λ p. h (p.swap ∙ ap (λ (y : Geometry). y.size) (sym is_given.is))))

    pub flash_equal : length u ≡ length b → length w ≡ g.size → gives g ≡ flash_of n s (flash b u w)
    flash_equal h k =
        let P = partition_of_lem (geometry n s) b is_given.holds in
        ap gives is_given.is
        ∙ sym ((which_flashes n s (flash b u w)).taken.1 (record {
          rules = limits_rules (geometry n s) P.limits;
          boot = P.whole;
          update = h ∙ P.whole;
          swap = k ∙ ap (λ (y : Geometry). y.size) is_given.is;
        }))

pub flash_given_lem : (n s : ℕ) (f : Flash) (g : Geometry) → gives g ≡ flash_of n s f → Shaped g f
unfolding flash_of
flash_given_lem n s f g e =
    let t = given (fits (geometry n s) f) n s g e in
    rw t.is (shaped_of (geometry n s) f t.holds)

-- the geometry given is the one asked for, and the buffers fit it; where none is given, they do not
pub flash_asked : (n s : ℕ) (f : Flash) (g : Geometry) → gives g ≡ flash_of n s f → geometry n s ≡ g
unfolding flash_of
flash_asked n s f g e = sym (given (fits (geometry n s) f) n s g e).is

pub flash_fits : (n s : ℕ) (f : Flash) (g : Geometry) → gives g ≡ flash_of n s f → fits g f ≡ true
flash_fits n s f g e = shaped_fits g f (flash_given_lem n s f g e)

pub flash_unfit : (n s : ℕ) (f : Flash) → geometry_answer None ≡ flash_of n s f → fits (geometry n s) f ≡ false
unfolding flash_of
flash_unfit n s f e = not_given (fits (geometry n s) f) n s e
