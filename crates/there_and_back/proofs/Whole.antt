-- Every list of power-ups from an accepted update; by whatever is seen of them, where that is what the rules have.
use mathlib.Core.Path.{◌≡◌, sym, subst}
use mathlib.Core.Bool.{true}
use mathlib.Core.List.{List, map}
use native.Mathlib.Omega.{arith}
use Rattle.exchange.specs.Base.{Geometry, Flash, fits}
use Rattle.exchange.specs.Decision.{Check}
use Rattle.exchange.specs.Demand.{update, fallback, Finished, Event, Left, left, flash_after}
use Rattle.exchange.proofs.Seen.{at}
use Rattle.exchange.proofs.Along.{Same, same_after, same_sum, same_along}
use Rattle.there_and_back.specs.Journey.{GivenBack, OnTheWay, in_update, in_fallback, at_rest, EachThrough, Journey, EveryJourney}
use Rattle.there_and_back.proofs.Steps.{way_fits, at_start, Walked, walk}
use Rattle.there_and_back.proofs.Bound.{journey_within}

back_of : (check : Check) (g : Geometry) (f y : Flash) → OnTheWay check g f y → Finished update g y → Finished fallback g y → GivenBack g f y
back_of check g f y (in_update n a o) k l = absurd (n k)
back_of check g f y (in_fallback u n a o) k l = absurd (n l)
back_of check g f y (at_rest u r A) k l = A.given_back

pub every_journey : EveryJourney
every_journey check g f R s es h =
    let w : Walked check g f R s f es = walk check g f R s es f (at_start check g f R s) h in
    record {
      fit = way_fits check g f (flash_after (left check) f es) w.ends;
      ends = w.ends;
      bounded = journey_within check g f R s es h;
      each = w.each;
      given_back = back_of check g f (flash_after (left check) f es) w.ends;
    }

-- what is claimed of a list by the rules holds by whatever is seen of its power-ups, where that is what the rules have
module _ (check : Check) {E : Type 0} (see : Flash → E → Left) (ruled : E → Event) where
  pub journey_seen : (g : Geometry) (f : Flash) (es : List E) → Same at see (left check) ruled f es → Journey check (left check) g f (map ruled es) → Journey check see g f es
  journey_seen g f es same j = by (same_after at see (left check) ruled es f same)
    where
      by : flash_after see f es ≡ flash_after (left check) f (map ruled es) → Journey check see g f es
      by e =
          let back = sym e in
          record {
            fit = subst (λ (y : Flash). fits g y ≡ true) back j.fit;
            ends = subst (OnTheWay check g f) back j.ends;
            bounded = omega (arith, j.bounded, same_sum at see (left check) ruled (λ l. l.done) es f same, same_sum at see (left check) ruled (λ l. l.early) es f same);
            each = same_along at see (left check) ruled (EachThrough check g f) es f same j.each;
            given_back = subst (λ (y : Flash). Finished update g y → Finished fallback g y → GivenBack g f y) back j.given_back;
          }
