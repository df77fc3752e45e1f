-- The scan of the flags for F only, sector by sector.
use mathlib.Core.Path.{◌≡◌, refl, ap}
use mathlib.Core.Bool.{Bool, ◌&&◌}
use mathlib.Core.List.{List}
use Prim.Native.Nat.{ℕ, zero, suc}
use native.Mathlib.Numerals.{add-one}
use Rattle.std.specs.Prelude.{Option, Some, None}
use Rattle.std.specs.Option.{option_eq}
use Rattle.std.specs.List.{list_all, range_with_len}
use Rattle.flash.specs.declared.Geometry.{Geometry}
use Rattle.flash_flags.specs.declared.Flag.{Flag}
use Rattle.flash_flags.specs.declared.Flag.TheVariants.{Untouched, Saved, Moved, Exchanged}
use Rattle.flash_flags.specs.contracts.FlagPartialEq.TheImpl.{eq-value}
use Rattle.flash_flags.specs.SectorFlags.{flag_at, flags_from, is_f, all_f}

-- what the code's `==` says of a flag
pub same_as_f : (v : Option Flag) → option_eq eq-value.it v (Some Untouched) ≡ is_f v
same_as_f (Some Untouched) = refl
same_as_f (Some Saved) = refl
same_as_f (Some Moved) = refl
same_as_f (Some Exchanged) = refl
same_as_f None = refl

-- the scan of k sectors from sector i on
pub all_f_listed : (g : Geometry) (u : List ℕ) (k i : ℕ) → list_all (λ j. is_f (flag_at g u j)) (range_with_len i k) ≡ all_f (flags_from g u k i)
unfolding all_f flags_from
all_f_listed g u zero i = refl
all_f_listed g u (suc k) i = ap (λ (b : Bool). is_f (flag_at g u i) && b) (rw add-one (all_f_listed g u k (suc i)))
