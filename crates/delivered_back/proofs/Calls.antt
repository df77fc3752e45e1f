-- There and back, of calls of power_up.
use mathlib.Core.Path.{sym, subst}
use mathlib.Core.List.{List, ◌++◌, map}
use native.Mathlib.Omega.{arith}
use Rattle.flash.specs.declared.Geometry.{Geometry}
use Rattle.flash.specs.Buffers.{Flash}
use Rattle.exchange.specs.Demand.{update, fallback, Finished, Starts, left, flash_left, flash_after, EndsAsAllowed, Safe}
use Rattle.exchange.proofs.Seen.{at}
use Rattle.exchange.proofs.Along.{after_append, along_both, same_allowed}
use Rattle.image.specs.Verdict.{check_of}
use Rattle.there_and_back.specs.Journey.{GivenBack, Halfway, Journey}
use Rattle.there_and_back.proofs.Halfway as rules
use Rattle.there_and_back.proofs.Whole.{every_journey, journey_seen}
use Rattle.delivered.specs.Demand.{CallEvent, Happens, seen, AllowedCalls}
use Rattle.delivered.specs.Witness.{ruled}
use Rattle.delivered.proofs.Delivered.{reads_firmware, happened, demand_3_delivered}
use Rattle.delivered_back.specs.ThereAndBack.{CallHalves, CallsThrough, EveryUpdateBack}

module _ (g : Geometry) (f : Flash) (s : Starts check_of update g f) where
  journey : (es : List CallEvent) → CallsThrough g f es → Journey check_of seen g f es
  journey es h =
      let r = same_allowed at seen (left check_of) ruled (λ y e. Happens g y e) (λ y e. EndsAsAllowed check_of g y e) (happened g) es f h in
      journey_seen check_of seen ruled g f es r.0 (every_journey check_of g f (reads_firmware g) s (map ruled es) r.1)

  pub halfway : (there : List CallEvent) → AllowedCalls update g f there → Finished update g (flash_after seen f there) → Halfway check_of g f (flash_after seen f there)
  halfway there goes updated =
      let S : Safe check_of seen update g f f 0 there = demand_3_delivered update g f s there goes in
      rules.halfway check_of g f (reads_firmware g) s (flash_after seen f there) S.fit (S.at_finish updated)

  module _ (there back : List CallEvent) (h : CallHalves g f there back) where
    one_list_lem : CallsThrough g f (there ++ back)
    one_list_lem =
        along_both (flash_left seen) (λ y. ¬ Finished update g y) (λ y. ¬ Finished fallback g y) (λ before e after. Happens g before e) there back f h.goes h.falls_back

    line : GivenBack g f (flash_after seen f (there ++ back))
    line =
        let S : Safe check_of seen fallback g (flash_after seen f there) (flash_after seen f there) 0 back
        = demand_3_delivered fallback g (flash_after seen f there) (halfway there h.goes h.updated).starts back h.falls_back in
        let same = sym (after_append (flash_left seen) there back f) in
        (journey (there ++ back) one_list_lem).given_back (subst (λ (y : Flash). Finished update g y) same (S.at_finish h.fallen_back).update_status)
        (subst (λ (y : Flash). Finished fallback g y) same h.fallen_back)

pub every_update_back : EveryUpdateBack
every_update_back g f s =
    record {
      line = line g f s;
      halfway = halfway g f s;
      one_list = one_list_lem g f s;
      bounded = λ there back h. omega (arith, (journey g f s (there ++ back) (one_list_lem g f s there back h)).bounded);
      journey = journey g f s;
    }
