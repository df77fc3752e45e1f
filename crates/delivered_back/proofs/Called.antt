-- For each list that the rules allow from an accepted update there are calls that gave it, through the finishes and at rest too.
use mathlib.Core.Path.{◌≡◌, refl, sym, subst}
use mathlib.Core.List.{List}
use Rattle.flash.specs.declared.Geometry.{Geometry}
use Rattle.flash.specs.Buffers.{Flash}
use Rattle.exchange.specs.PowerUp.{runs, power_up}
use Rattle.exchange.specs.Along.{Along}
use Rattle.exchange.specs.Demand.{update, fallback, Starts, Event, untorn, left, flash_left, EndsAsAllowed}
use Rattle.exchange.proofs.Along.{along_part}
use Rattle.image.specs.Verdict.{check_of}
use Rattle.there_and_back.specs.Journey.{sides_changed, OnTheWay, in_update, in_fallback, at_rest, AllowedThrough}
use Rattle.there_and_back.proofs.Steps.{way_fits, at_start, step}
use Rattle.delivered.specs.Demand.{Happens}
use Rattle.delivered.proofs.Delivered.{reads_firmware}
use Rattle.delivered.proofs.Called.{Codable, ToldOn, told_by, told_underway, calls_all}
use Rattle.delivered_counts.proofs.Called.{counted_all}
use Rattle.delivered_counts.specs.Demand.{found_after, HandedOn}
use Rattle.delivered_back.specs.Witness.{EveryListThrough, EveryListCountedThrough}
use Rattle.delivered_back.proofs.Counted.{Anywhere}

module _ (g : Geometry) (f : Flash) (s : Starts check_of update g f) where
  -- wherever the list stands the code has an answer
  told : (y : Flash) → OnTheWay check_of g f y → ToldOn y
  unfolding left
  told y (in_update n a o) = told_underway update g f y a o n
  told y (in_fallback k n a o) = told_underway fallback g (sides_changed f) y a o n
  told y (at_rest k l A) = λ g' budget.
      told_by (λ o. o ≡ runs) (λ o e. subst Codable (sym e) refl) y g' budget (power_up check_of g' y budget)
      ((step check_of g f (reads_firmware g) s y (at_rest k l A) (untorn g' budget) tt).each.of_rest k l).answers

  goes_on : (y : Flash) (e : Event) → OnTheWay check_of g f y → Anywhere y → EndsAsAllowed check_of g y e → OnTheWay check_of g f (left check_of y e).flash
  goes_on y e w _ k = (step check_of g f (reads_firmware g) s y w e k).ends

  abbrev Through : List Event → Type 0
  Through es = Along (flash_left (left check_of)) (λ before e after. Anywhere before × EndsAsAllowed check_of g before e) f es

  anywhere : (es : List Event) → AllowedThrough check_of g f es → Through es
  anywhere es h =
      along_part (flash_left (left check_of)) (λ before e after. EndsAsAllowed check_of g before e) (λ before e after. Anywhere before × EndsAsAllowed check_of g before e) (λ y e k. (tt, k)) es
      f h

pub every_list_through : EveryListThrough
every_list_through g f s es h =
    calls_all g (OnTheWay check_of g f) Anywhere (λ y c. Happens g y c) (λ y w _. told g f s y w) (λ y c _ k. k) (goes_on g f s) es f
    (at_start check_of g f (reads_firmware g) s) (anywhere g f s es h)

pub every_list_counted_through : EveryListCountedThrough
every_list_counted_through g s starts long summed es room h =
    let c = counted_all g (OnTheWay check_of g s.flash) Anywhere (λ y w _. way_fits check_of g s.flash y w) (λ y w _. told g s.flash starts y w)
    (goes_on g s.flash starts) es s (at_start check_of g s.flash (reads_firmware g) starts) long summed room (anywhere g s.flash starts es h) in
    record {
      calls = c.calls;
      are = c.are;
      allows = along_part found_after (λ before e after. Unit {0} × HandedOn g before e) (λ before e after. HandedOn g before e) (λ t e k. k.1) c.calls s c.allows;
      leaves = c.leaves;
    }
