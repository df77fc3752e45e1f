-- The update's finish is where the fallback starts.
use mathlib.Core.Path.{◌≡◌, refl, ◌∙◌}
use mathlib.Core.Bool.{true}
use Prim.Native.Nat.{ℕ}
use native.Mathlib.Omega.{arith}
use Rattle.numbers.specs.Answer.{Answer, gives, refused}
use Rattle.exchange.specs.Base.{Geometry, BootStatus, BootNew, Testing, Success, UpdateStatus, UpdateNew, Updating}
use Rattle.exchange.specs.Base.{Flash, Shaped, fits, boot_status_at, update_status_at}
use Rattle.exchange.specs.Decision.{Check, Good}
use Rattle.exchange.specs.Demand.{Exchange, update, fallback, Underway, from_new, from_success, Finished, Starts, Ongoing, ReadsFirmware, AtFinish}
use Rattle.exchange.specs.RuledOut.{Newer}
use Rattle.flash.proofs.Checked.{shaped_of}
use Rattle.exchange.proofs.Accepted.{check_same, accepted}
use Rattle.exchange.proofs.Whole.{starts_ongoing}
use Rattle.exchange.proofs.RuledOut.{ruled_out}
use Rattle.there_and_back.specs.Journey.{Halfway, sides_changed}

-- whether a finish is past can be told
pub finished? : (x : Exchange) (g : Geometry) (y : Flash) → Dec (Finished x g y)
finished? update g y = by (update_status_at g y.update)
  where
    by : (u : Answer UpdateStatus) → Dec (u ≡ gives UpdateNew)
    by (gives UpdateNew) = yes refl
    by (gives Updating) = no (λ e. let z : ◌≡◌ {A = ℕ} 0 1 = cc in omega arith)
    by (refused n p) = no (λ e. let z : ◌≡◌ {A = ℕ} 0 1 = cc in omega arith)
finished? fallback g y = by (boot_status_at g y.boot)
  where
    by : (b : Answer BootStatus) → Dec (b ≡ gives Success)
    by (gives BootNew) = no (λ e. let z : ◌≡◌ {A = ℕ} 0 1 = cc in omega arith)
    by (gives Testing) = no (λ e. let z : ◌≡◌ {A = ℕ} 0 1 = cc in omega arith)
    by (gives Success) = yes refl
    by (refused n p) = no (λ e. let z : ◌≡◌ {A = ℕ} 0 1 = cc in omega arith)

-- a status that is read is read as one
pub on_test : (g : Geometry) (y : Flash) → boot_status_at g y.boot ≡ gives Testing → ¬ Finished fallback g y
on_test g y e f = let z : ◌≡◌ {A = ℕ} 0 1 = cc in omega arith

-- where an update is accepted it is not finished
pub not_yet : (check : Check) (g : Geometry) (f : Flash) → Starts check update g f → ¬ Finished update g f
not_yet check g f s = by (accepted check update g f s).both.statuses (accepted check update g f s).both.read_update
  where
    by : {b : BootStatus} {u : UpdateStatus} → Underway update b u → update_status_at g f.update ≡ gives u → ¬ Finished update g f
    by from_new e h = let z : ◌≡◌ {A = ℕ} 0 1 = cc in omega arith
    by from_success e h = let z : ◌≡◌ {A = ℕ} 0 1 = cc in omega arith

module _ (check : Check) (g : Geometry) (f : Flash) (R : ReadsFirmware check g) (s : Starts check update g f) where
  pub shaped : Shaped g f
  shaped = shaped_of g f (accepted check update g f s).fit

  -- BOOT is good where an update is accepted
  newer : Newer (check g f.update) (check g f.boot)
  newer = ruled_out.update_newer check g f s

  -- and so is what checks as it did
  pub as_good : (image : Answer ℕ) → image ≡ check g f.boot → Good image
  as_good image e = record { version = newer.old; good = e ∙ newer.boot_good }

  module _ (y : Flash) (fit : fits g y ≡ true) (A : AtFinish update g f y) where
    same : check g y.update ≡ check g f.boot
    same = check_same check g R y.update f.boot (shaped_of g y fit).update shaped.boot (λ i hi. (A.exchanged i hi).update_holds)

    pub halfway : Halfway check g f y
    halfway =
        let good : Good (check g y.update) = as_good (check g y.update) same in
        record {
          exchanged = A;
          starts = ruled_out.good_fallback_starts check g y (record { fit = fit; boot = A.boot_status; update = A.update_status; flags = A.flags }) good;
          same_as_boot = same;
          good = good;
        }

    -- the fallback of what the update exchanged stands at its start
    pub falls : Ongoing check fallback g (sides_changed f) y 0
    falls =
        let o : Ongoing check fallback g y y 0 = starts_ongoing check fallback g y halfway.starts in
        record {
          fit = fit;
          boot = o.boot;
          update = o.update;
          statuses = o.statuses;
          read_boot = o.read_boot;
          read_update = o.read_update;
          stands = record {
            within = o.stands.within;
            flags = o.stands.flags;
            in_place = λ i hi. record {
              flag = (o.stands.in_place i hi).flag;
              reads = (o.stands.in_place i hi).reads;
              old_boot = (o.stands.in_place i hi).old_boot ∙ (A.exchanged i hi).boot_holds;
              old_update = (o.stands.in_place i hi).old_update ∙ (A.exchanged i hi).update_holds;
            };
          };
          old_whole = shaped.boot;
          old_good = as_good (check g f.boot) refl;
          decided = o.decided;
        }
