-- There and back, of calls of power_up_counted.
use mathlib.Core.Path.{◌≡◌, sym, subst}
use mathlib.Core.List.{List, ◌++◌, map}
use lib.ListN.{length}
use Rattle.flash.specs.declared.Geometry.{Geometry}
use Rattle.flash.specs.Buffers.{Flash}
use Rattle.exchange.specs.Along.{state_after}
use Rattle.exchange.specs.Demand.{update, fallback, Finished, Starts, left, flash_left, flash_after, EndsAsAllowed}
use Rattle.exchange.proofs.Along.{after_append, along_part, along_both}
use Rattle.image.specs.Verdict.{check_of}
use Rattle.there_and_back.specs.Journey.{GivenBack, Halfway, OnTheWay}
use Rattle.there_and_back.proofs.Halfway as rules
use Rattle.there_and_back.proofs.Steps.{way_fits, at_start, step}
use Rattle.there_and_back.proofs.Whole.{every_journey, journey_seen}
use Rattle.delivered.proofs.Delivered.{reads_firmware}
use Rattle.counts.specs.Row.{row_length}
use Rattle.delivered_counts.specs.Demand.{CountedEvent, counted_seen, Found, found_after, HandedOn, AllowedCounted, SafeCounted}
use Rattle.delivered_counts.specs.Witness.{ruled}
use Rattle.delivered_counts.proofs.Lists.{Read, read, counted_demand_3}
use Rattle.delivered_back.specs.ThereAndBack.{CountedHalves, CountedThrough, CountedJourney, EveryUpdateCountedBack}

-- nothing more is allowed of a power-up
abbrev pub Anywhere : Flash → Type 0
Anywhere y = Unit {0}

module _ (g : Geometry) (s : Found) (starts : Starts check_of update g s.flash) (long : length s.row ≡ row_length g) where
  journey : (es : List CountedEvent) → CountedThrough g s es → CountedJourney g s es
  journey es h =
      let R = reads_firmware g in
      let r : Read g (OnTheWay check_of g s.flash) Anywhere (λ y w _. way_fits check_of g s.flash y w) (λ y e w _ k. (step check_of g s.flash R starts y w e k).ends) s es
      = read g (OnTheWay check_of g s.flash) Anywhere (λ y w _. way_fits check_of g s.flash y w) (λ y e w _ k. (step check_of g s.flash R starts y w e k).ends) es s
      (at_start check_of g s.flash R starts) long
      (along_part found_after (λ before e after. HandedOn g before e) (λ before e after. Unit {0} × HandedOn g before e) (λ t e k. (tt, k)) es s h) in
      record {
        flash = journey_seen check_of counted_seen ruled g s.flash es r.same
            (every_journey check_of g s.flash R starts (map ruled es)
            (along_part (flash_left (left check_of)) (λ before e after. Unit {0} × EndsAsAllowed check_of g before e) (λ before e after. EndsAsAllowed check_of g before e)
            (λ y e k. k.1) (map ruled es) s.flash r.allowed));
        counts = r.counts;
      }

  -- the update's half, by demand 3
  first : (there : List CountedEvent) → AllowedCounted update g s there → SafeCounted update g s.flash 0 s there
  first there goes = counted_demand_3 update g s starts long there goes

  pub halfway : (there : List CountedEvent) → AllowedCounted update g s there → Finished update g (state_after found_after s there).flash
      → Halfway check_of g s.flash (state_after found_after s there).flash
  halfway there goes updated =
      let S = first there goes in
      subst (λ (y : Flash). Halfway check_of g s.flash y) (sym S.counts.same_flash)
      (rules.halfway check_of g s.flash (reads_firmware g) starts (flash_after counted_seen s.flash there) S.flash.fit
      (S.flash.at_finish (subst (λ (y : Flash). Finished update g y) S.counts.same_flash updated)))

  module _ (there back : List CountedEvent) (h : CountedHalves g s there back) where
    one_list_lem : CountedThrough g s (there ++ back)
    one_list_lem =
        along_both found_after (λ t. ¬ Finished update g t.flash) (λ t. ¬ Finished fallback g t.flash) (λ before e after. HandedOn g before e) there back s h.goes
        h.falls_back

    -- the fallback's half
    second : SafeCounted fallback g (state_after found_after s there).flash 0 (state_after found_after s there) back
    second = counted_demand_3 fallback g (state_after found_after s there) (halfway there h.goes h.updated).starts (first there h.goes).counts.same_length back h.falls_back

    line : GivenBack g s.flash (state_after found_after s (there ++ back)).flash
    line =
        let J = journey (there ++ back) one_list_lem in
        let same : state_after found_after s (there ++ back) ≡ state_after found_after (state_after found_after s there) back = after_append found_after there back s in
        let k : Finished fallback g (flash_after counted_seen (state_after found_after s there).flash back)
        = subst (λ (y : Flash). Finished fallback g y) second.counts.same_flash h.fallen_back in
        let at_end : (x : Flash → Type 0) → x (state_after found_after (state_after found_after s there) back).flash → x (flash_after counted_seen s.flash (there ++ back))
        = λ x q. subst x J.counts.same_flash (subst (λ (t : Found). x t.flash) (sym same) q) in
        subst (λ (y : Flash). GivenBack g s.flash y) (sym J.counts.same_flash)
        (J.flash.given_back
        (at_end (λ y. Finished update g y) (subst (λ (y : Flash). Finished update g y) (sym second.counts.same_flash) (second.flash.at_finish k).update_status))
        (at_end (λ y. Finished fallback g y) h.fallen_back))

pub every_update_counted_back : EveryUpdateCountedBack
every_update_counted_back g s starts long =
    record {
      line = line g s starts long;
      halfway = halfway g s starts long;
      one_list = one_list_lem g s starts long;
      bounded = λ there back h. (journey g s starts long (there ++ back) (one_list_lem g s starts long there back h)).flash.bounded;
      journey = journey g s starts long;
    }
