-- The operations of both halves together: demand 3's bound of each, and none at rest.
use mathlib.Core.Path.{◌≡◌, sym, subst}
use mathlib.Core.Bool.{true}
use mathlib.Core.List.{List, [], ◌∷◌, ◌++◌}
use Prim.Native.Nat.{ℕ, ◌+◌, ◌*◌, ◌≤◌}
use native.Mathlib.Omega.{arith}
use Rattle.exchange.specs.Base.{Geometry, firmware, Flash, fits}
use Rattle.exchange.specs.Decision.{Check}
use Rattle.exchange.specs.Demand.{update, fallback, Finished, Starts, ReadsFirmware, Event, left, flash_left, EndsAsAllowed, Allowed, flash_after, completed, early_ends, AtFinish, most, Safe}
use Rattle.exchange.proofs.Along.{sum_append, never, splits, Split, split}
use Rattle.exchange.proofs.Whole.{demand_3, demand_3_ongoing}
use Rattle.there_and_back.specs.Journey.{most_there_and_back, sides_changed, OnTheWay, AllowedThrough}
use Rattle.there_and_back.proofs.Halfway.{finished?, falls}
use Rattle.there_and_back.proofs.Steps.{Stepped, step, given_back_lem, at_rest_lem}

module _ (check : Check) (g : Geometry) (f : Flash) (R : ReadsFirmware check g) (s : Starts check update g f) where
  -- no operation is left over a bound
  abbrev Within : ℕ → Flash → List Event → Type 0
  Within n y es = completed (left check) y es ≤ n + 2 * early_ends (left check) y es

  -- two lists that are one
  within_append : (n k all : ℕ) (ds es cs : List Event) (y : Flash) → ds ++ es ≡ cs → n + k ≤ all → Within n y ds → Within k (flash_after (left check) y ds) es
      → Within all y cs
  within_append n k all ds es cs y e q h i =
      subst (Within all y) e
      (omega (
        arith,
        q,
        h,
        i,
        sum_append (flash_left (left check)) (λ before e. (left check before e).done) ds es y,
        sum_append (flash_left (left check)) (λ before e. (left check before e).early) ds es y,
      ))

  -- at rest there is none, and it stays so
  rest_within : (es : List Event) (y : Flash) → OnTheWay check g f y → Finished update g y → Finished fallback g y → AllowedThrough check g y es → Within 0 y es
  rest_within [] y w k l h = omega arith
  rest_within (e ∷ es) y w k l h =
      let p : Stepped check g f R s y e = step check g f R s y w e h.0 in
      let r = p.each.of_rest k l in
      let z = rest_within es (flash_left (left check) y e) p.ends (subst (λ (x : Flash). Finished update g x) (sym r.same) k)
      (subst (λ (x : Flash). Finished fallback g x) (sym r.same) l) h.1 in
      omega (arith, r.none, z)

  -- the fallback, from the update's finish on
  back_within : (es : List Event) (y : Flash) → fits g y ≡ true → AtFinish update g f y → AllowedThrough check g y es
      → Within (most fallback (firmware g)) y es
  back_within es y fit A h =
      by (split (flash_left (left check)) (λ z. Finished fallback g z) (λ before e after. EndsAsAllowed check g before e) (finished? fallback g) es y h)
    where
      half : (ds : List Event) → Allowed check fallback g y ds → Safe check (left check) fallback g (sides_changed f) y 0 ds
      half ds a = demand_3_ongoing check fallback g (sides_changed f) y 0 R (falls check g f R s y fit A) ds a

      by : Split (flash_left (left check)) (λ z. Finished fallback g z) (λ before e after. EndsAsAllowed check g before e) y es → Within (most fallback (firmware g)) y es
      by (never a) = let b = (half es a).bounded in omega (arith, b)
      by (splits ds rs e a F r) =
          let S = half ds a in
          let B = given_back_lem check g f R s (flash_after (left check) y ds) (S.at_finish F) in
          within_append (most fallback (firmware g)) 0 (most fallback (firmware g)) ds rs es y e (omega arith) (omega (arith, S.bounded))
          (rest_within rs (flash_after (left check) y ds) (at_rest_lem check g f R s (flash_after (left check) y ds) S.fit B) B.update_status B.boot_status r)

  pub journey_within : (es : List Event) → AllowedThrough check g f es → Within (most_there_and_back (firmware g)) f es
  journey_within es h =
      by (split (flash_left (left check)) (λ z. Finished update g z) (λ before e after. EndsAsAllowed check g before e) (finished? update g) es f h)
    where
      by : Split (flash_left (left check)) (λ z. Finished update g z) (λ before e after. EndsAsAllowed check g before e) f es → Within (most_there_and_back (firmware g)) f es
      by (never a) = let b = (demand_3 check update g f R s es a).bounded in omega (arith, b)
      by (splits ds rs e a F r) =
          let S : Safe check (left check) update g f f 0 ds = demand_3 check update g f R s ds a in
          within_append (most update (firmware g)) (most fallback (firmware g)) (most_there_and_back (firmware g)) ds rs es f e (omega arith) (omega (arith, S.bounded))
          (back_within rs (flash_after (left check) f ds) S.fit (S.at_finish F) r)
