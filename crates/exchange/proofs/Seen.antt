-- What is claimed of a list by the rules holds by whatever is seen of its power-ups, where that is what the rules have.
use mathlib.Core.Path.{◌≡◌, sym, subst}
use mathlib.Core.Bool.{true}
use mathlib.Core.List.{List, map}
use Prim.Native.Nat.{ℕ, ◌≤◌, ◌<◌}
use native.Mathlib.Omega.{arith}
use Rattle.exchange.specs.Base.{Geometry}
use Rattle.exchange.specs.Base.{firmware, Flash, fits}
use Rattle.exchange.specs.Decision.{Check}
use Rattle.exchange.specs.Demand.{Exchange, Finished, InPlace, Ongoing, Event, Left, left, flash_after, EachSafe, AtFinish, Safe}
use Rattle.exchange.proofs.Along.{Same, same_after, same_sum, same_along}

-- the flash that is left
abbrev pub at : Left → Flash
at l = l.flash

module _ (check : Check) {E : Type 0} (see : Flash → E → Left) (ruled : E → Event) where
  pub safe_seen : (x : Exchange) (g : Geometry) (old f : Flash) (a : ℕ) (es : List E) → Same at see (left check) ruled f es
      → Safe check (left check) x g old f a (map ruled es) → Safe check see x g old f a es
  safe_seen x g old f a es same s = by (same_after at see (left check) ruled es f same)
    where
      by : flash_after see f es ≡ flash_after (left check) f (map ruled es) → Safe check see x g old f a es
      by e =
          let back = sym e in
          record {
            fit = subst (λ (y : Flash). fits g y ≡ true) back s.fit;
            in_place = subst (λ (y : Flash). ¬ Finished x g y → (i : ℕ) → i < firmware g → InPlace g old y i) back s.in_place;
            ongoing = subst (λ (y : Flash). ¬ Finished x g y → (b : ℕ) × (a ≤ b) × Ongoing check x g old y b) back s.ongoing;
            bounded = omega (arith, s.bounded, same_sum at see (left check) ruled (λ l. l.done) es f same, same_sum at see (left check) ruled (λ l. l.early) es f same);
            each = same_along at see (left check) ruled (EachSafe x g) es f same s.each;
            at_finish = subst (λ (y : Flash). Finished x g y → AtFinish x g old y) back s.at_finish;
          }
