-- Demand 3, whole.
use mathlib.Core.Path.{◌≡◌, refl, sym, ap, ◌∙◌, subst}
use mathlib.Core.Bool.{true}
use mathlib.Core.List.{List}
use Prim.Native.Nat.{ℕ, zero, suc, ◌+◌, ◌-◌, ◌*◌, ◌/◌, ◌%◌, ◌≤◌, ◌<◌}
use native.Mathlib.Decide.{dec_lt}
use native.Mathlib.Omega.{arith}
use lib.ListN.{length}
use Rattle.std.specs.Prelude.{Some}
use Rattle.numbers.specs.Answer.{gives, no_reason}
use Rattle.exchange.specs.Base.{Geometry, BootStatus, Testing, Success, UpdateStatus, Updating, Flag, Untouched, Exchanged, Leg, UpdateToSwap, BootToUpdate, SwapToBoot, AllF}
use Rattle.exchange.specs.Base.{firmware, partition_size, Limits, Flash, Shaped, fits, boot_status_at, update_status_at, moved, flags_at}
use Rattle.exchange.specs.declared.Area.{Area}
use Rattle.exchange.specs.Operations.{get, old_boot_in, old_update_in}
use Rattle.exchange.specs.Decision.{Check, Good, work, decide}
use Rattle.exchange.specs.PowerUp.{Outcome, refusal, cut, runs, runs_on_test, runs_fallen_back, power_up}
use Rattle.exchange.specs.Demand.{Exchange, job_of, Underway, from_new, from_success, from_testing, StatusesAt, in_legs, at_close, Finished, Stands, Starts, Ongoing, untorn, lost, Event, is_cut, left, flash_left, EndsAsAllowed, Allowed, flash_after, EachSafe, most, Safe, Demand3Ongoing, Demand3}
use Rattle.flash.proofs.Checked.{shaped_of, shaped_fits}
use Rattle.flash_flags.specs.SectorFlags.{leg_moves}
use Rattle.flash_flags.proofs.Moves.{moved_none, leg_below, AfterMoves, shown_none, moves_none}
use Rattle.exchange.proofs.Orders.{decide_by_reads}
use Rattle.exchange.proofs.Along.{Pays, along}
use Rattle.exchange.proofs.Accepted.{update_good_lem, Accepted, accepted}
use Rattle.exchange.proofs.Sound.{Sound, moved_end, crossed}
use Rattle.exchange.proofs.Stage.{Closing, erase_boot, write_testing, erase_update, write_success, closing, closing_left, Stage, in_leg_lem, at_last, at_end}
use Rattle.exchange.proofs.Walked.{closing_some}
use Rattle.exchange.proofs.Shows.{end_of, none_back, none_undone, in_place_lem, at_finish_lem}
use Rattle.exchange.proofs.Decided.{Decides, decided, shaped_at}
use Rattle.exchange.proofs.Played.{OldRuns, old_runs, Played, played}

-- what is left takes no longer than 01 allows
pub closing_most : {x : Exchange} {b : BootStatus} {u : UpdateStatus} (B : Underway x b u) (m : ℕ) → 9 * m + closing_left (closing B) ≤ most x m
closing_most from_new m = omega arith
closing_most from_success m = omega arith
closing_most from_testing m = omega arith

cut_small : (o : Outcome) → is_cut o ≤ 1
cut_small (refusal r) = omega arith
cut_small cut = omega arith
cut_small runs = omega arith
cut_small runs_on_test = omega arith
cut_small runs_fallen_back = omega arith

early_small : (check : Check) (f : Flash) (e : Event) → (left check f e).early ≤ 1
unfolding left
early_small check f (untorn g b) = cut_small (power_up check g f b).outcome
early_small check f (lost g b k t) = omega arith

-- the statuses while the closing operations run
closing_statuses : {x : Exchange} {b : BootStatus} {u : UpdateStatus} (m : ℕ) → Closing x b u → StatusesAt m x (3 * m) b u
closing_statuses m erase_boot = in_legs from_success
closing_statuses m write_testing = in_legs from_new
closing_statuses m erase_update = at_close refl
closing_statuses m write_success = in_legs from_testing

-- an exchange under way with r operations left, and how many moves are behind it
pub record Again (check : Check) (g : Geometry) (old : Flash) {x : Exchange} {b₀ : BootStatus} {u₀ : UpdateStatus} (B : Underway x b₀ u₀) (f : Flash) (r : ℕ) : Type 0 where
  pub moves : ℕ
  pub ongoing : Ongoing check x g old f moves
  pub most_left : r + 3 * moves ≤ 9 * firmware g + closing_left (closing B)
  pub least_left : 9 * firmware g + closing_left (closing B) < r + 3 * moves + 3

module _ (check : Check) (g : Geometry) (G : Limits g) (old : Flash) {x : Exchange} {b₀ : BootStatus} {u₀ : UpdateStatus} (B : Underway x b₀ u₀)
    (whole : length old.update ≡ partition_size g) (good : Good (check g old.update)) where
  -- every stage before the end is an exchange under way
  pub again : (f : Flash) (r : ℕ) → Stage (Decides check g B) g old B f 0 (suc r) → Again check g old B f (suc r)
  again f r (in_leg_lem i leg hi hp s d e₁ e₂ ready n) = record {
    moves = 3 * i + leg_moves leg;
    ongoing = record {
      fit = shaped_fits g f s.shaped;
      boot = b₀;
      update = u₀;
      statuses = in_legs B;
      read_boot = e₁;
      read_update = e₂;
      stands = record {
        within = omega (arith, leg_below leg);
        flags = s.moves;
        in_place = λ j hj. record { flag = moved (3 * i + leg_moves leg - 3 * j); reads = s.moves j hj; old_boot = s.boot_in j hj; old_update = s.update_in j hj };
      };
      old_whole = whole;
      old_good = good;
      decided = λ k. decided check g G old B f r (in_leg_lem i leg hi hp s d e₁ e₂ ready n);
    };
    most_left = omega arith;
    least_left = omega arith;
  }
  again f r (at_last b u c le s e₁ e₂ n z) = record {
    moves = 3 * firmware g;
    ongoing = record {
      fit = shaped_fits g f s.shaped;
      boot = b;
      update = u;
      statuses = closing_statuses (firmware g) c;
      read_boot = e₁;
      read_update = e₂;
      stands = record {
        within = omega arith;
        flags = λ j hj. s.flags0 j hj ∙ ap Some (sym (moved_end g G j hj));
        in_place = λ j hj. record { flag = Exchanged; reads = s.flags0 j hj; old_boot = s.update_is j hj; old_update = s.boot_is j hj };
      };
      old_whole = whole;
      old_good = good;
      decided = λ k. decided check g G old B f r (at_last b u c le s e₁ e₂ n z);
    };
    most_left = omega arith;
    least_left = omega (arith, closing_some (closing B));
  }
  again f r (at_end b u c y s e₁ e₂ n z) = absurd (omega arith)

  module _ (I : OldRuns check g old) (a : ℕ) (w : a ≤ 3 * firmware g) where
    -- what holds between two power-ups, with n operations left: no fewer moves than at the start are behind it
    abbrev Between : Flash → ℕ → Type 0
    Between y n = Stage (Decides check g B) g old B y 0 n × (n + 3 * a ≤ 9 * firmware g + closing_left (closing B))

    each : (f : Flash) (r : ℕ) (e : Event) → Between f r → (¬ Finished x g f) × EndsAsAllowed check g f e
        → Pays (flash_left (left check)) (λ y d z. (¬ Finished x g y) × EndsAsAllowed check g y d) (λ y d z. EachSafe x g y (left check y d)) Between
        (λ y d. (left check y d).done) (λ y d. (left check y d).early) 2 f r e
    each f zero e s h = absurd (h.0 (end_of g old B f 0 s.0))
    each f (suc r) e s h =
        let p : Played check g G old B I f (suc r) e = played check g G old B I f r e s.0 h.1 in
        let k : p.pays.rest ≤ suc r + 2 = omega (arith, p.pays.paid, early_small check f e) in
        record {
          rest = p.pays.rest;
          holds = (p.pays.stage, none_undone g old B f (flash_left (left check) f e) a r p.pays.rest w k s.1 s.0 p.pays.stage);
          paid = p.pays.paid;
          claim = record {
            moves_on = p.moves;
            no_flag_back = none_back g old B f (flash_left (left check) f e) r p.pays.rest k s.0 p.pays.stage;
            answers = p.says;
          };
        }

    goes_on : (f : Flash) (r : ℕ) → Between f r → ¬ Finished x g f → (b : ℕ) × (a ≤ b) × Ongoing check x g old f b
    goes_on f zero s e = absurd (e (end_of g old B f 0 s.0))
    goes_on f (suc r) s e = let v : Again check g old B f (suc r) = again f r s.0 in (v.moves, omega (arith, s.1, v.least_left), v.ongoing)

    safe : (f : Flash) (r : ℕ) → Between f r → (es : List Event) → Allowed check x g f es → Safe check (left check) x g old f a es
    safe f r s es h =
        let l = along (flash_left (left check)) (λ y d z. (¬ Finished x g y) × EndsAsAllowed check g y d) (λ y d z. EachSafe x g y (left check y d)) Between
        (λ y d. (left check y d).done) (λ y d. (left check y d).early) 2 each es f r s h in
        record {
          fit = shaped_fits g (flash_after (left check) f es) (shaped_at l.holds.0);
          in_place = in_place_lem g old B (flash_after (left check) f es) l.rest l.holds.0;
          ongoing = goes_on (flash_after (left check) f es) l.rest l.holds;
          bounded = omega (arith, l.paid, s.1, closing_most B (firmware g));
          each = l.claim;
          at_finish = at_finish_lem g old B (flash_after (left check) f es) l.rest l.holds.0;
        }

-- ---- where a list starts is a stage

-- the leg after a moves of three
pub leg_after : ℕ → Leg
leg_after zero = UpdateToSwap
leg_after (suc zero) = BootToUpdate
leg_after (suc (suc a)) = SwapToBoot

pub leg_after_lem : (a : ℕ) → a < 3 → leg_moves (leg_after a) ≡ a
unfolding leg_after
leg_after_lem zero h = refl
leg_after_lem (suc zero) h = refl
leg_after_lem (suc (suc zero)) h = refl
leg_after_lem (suc (suc (suc a))) h = absurd (omega arith)

-- each old sector is where its flag says
pub same_flag : (v w : Flag) → Some v ≡ Some w → v ≡ w
same_flag v w e = cc

placed : (g : Geometry) (old f : Flash) (a : ℕ) → Shaped g f → Stands g old f a → Sound g old a f
placed g old f a s h = record {
  shaped = s;
  moves = h.flags;
  boot_in = λ j hj. there j hj old_boot_in ∙ (h.in_place j hj).old_boot;
  update_in = λ j hj. there j hj old_update_in ∙ (h.in_place j hj).old_update;
}
  where
    there : (j : ℕ) (hj : j < firmware g) (in_area_lem : Flag → Area) → get g (in_area_lem (moved (a - 3 * j))) j f ≡ get g (in_area_lem (h.in_place j hj).flag) j f
    there j hj in_area_lem =
        ap (λ (v : Flag). get g (in_area_lem v) j f) (same_flag (moved (a - 3 * j)) (h.in_place j hj).flag (sym (h.flags j hj) ∙ (h.in_place j hj).reads))

-- a stage, with as many operations left as the moves behind it leave
pub record Begins (check : Check) (g : Geometry) (old : Flash) {x : Exchange} {b₀ : BootStatus} {u₀ : UpdateStatus} (B : Underway x b₀ u₀) (f : Flash) (a : ℕ) : Type 0 where
  pub left : ℕ
  pub stage : Stage (Decides check g B) g old B f 0 left
  pub counted : left + 3 * a ≡ 9 * firmware g + closing_left (closing B)

module _ (check : Check) (g : Geometry) (old f : Flash) (a : ℕ) {x : Exchange} {b₀ : BootStatus} {u₀ : UpdateStatus} (B : Underway x b₀ u₀) (fit : fits g f ≡ true)
    (e₁ : boot_status_at g f.boot ≡ gives b₀) (e₂ : update_status_at g f.update ≡ gives u₀) (h : Stands g old f a)
    (d : flags_at g f.update ≡ AllF → decide check g f ≡ work (job_of x) no_reason) where
  pub begins : Begins check g old B f a
  begins = by (dec_lt a (3 * firmware g))
    where
      s : Shaped g f
      s = shaped_of g f fit

      y : Sound g old a f
      y = placed g old f a s h

      decides : a ≡ 0 → Decides check g B f.boot f.update
      decides e =
          let k : flags_at g f.update ≡ AllF = shown_none g f.update (subst (λ (n : ℕ). AfterMoves g f.update n) e y.moves) in
          sym (decide_by_reads check g f b₀ u₀ AllF fit e₁ e₂ k) ∙ d k

      by : Dec (a < 3 * firmware g) → Begins check g old B f a
      by (yes l) =
          let e : a ≡ 3 * (a / 3) + leg_moves (leg_after (a % 3)) = omega (arith, leg_after_lem (a % 3) (omega arith)) in
          record {
            left = 9 * firmware g + closing_left (closing B) - 3 * a;
            stage = in_leg_lem (a / 3) (leg_after (a % 3)) (omega arith) (omega arith) (subst (λ (n : ℕ). Sound g old n f) e y) (λ z. decides (omega arith)) e₁ e₂
                (λ k. absurd (omega arith)) (omega arith);
            counted = omega arith;
          }
      by (no l) =
          let e : a ≡ 3 * firmware g = omega (arith, h.within) in
          record {
            left = closing_left (closing B);
            stage = at_last b₀ u₀ (closing B) (omega arith) (crossed g s.limits old f (subst (λ (n : ℕ). Sound g old n f) e y)) e₁ e₂ refl refl;
            counted = omega arith;
          }

-- all flags F is no move along
pub stands_first : (g : Geometry) (f : Flash) → flags_at g f.update ≡ AllF → Stands g f f 0
stands_first g f e =
    let z : (j : ℕ) → moved (0 - 3 * j) ≡ Untouched = λ j. moved_none (0 - 3 * j) (omega arith) in
    let m = moves_none g f.update e in
    record {
      within = omega arith;
      flags = m;
      in_place = λ i hi. record { flag = Untouched; reads = m i hi ∙ ap Some (z i); old_boot = refl; old_update = refl };
    }

pub starts_ongoing : (check : Check) (x : Exchange) (g : Geometry) (f : Flash) → Starts check x g f → Ongoing check x g f f 0
starts_ongoing check x g f s =
    let A : Accepted check x g f = accepted check x g f s in
    record {
      fit = A.fit;
      boot = A.both.boot;
      update = A.both.update;
      statuses = in_legs A.both.statuses;
      read_boot = A.both.read_boot;
      read_update = A.both.read_update;
      stands = stands_first g f s.flags_f;
      old_whole = (shaped_of g f A.fit).update;
      old_good = update_good_lem x (check g f.update) (check g f.boot) A.both.images;
      decided = λ k. s.decided;
    }

-- an exchange under way is a stage, with no more operations left than its moves leave
pub record StageOf (check : Check) (x : Exchange) (g : Geometry) (old f : Flash) (a : ℕ) : Type 0 where
  pub boot : BootStatus
  pub update : UpdateStatus
  pub under : Underway x boot update
  pub left : ℕ
  pub stage : Stage (Decides check g under) g old under f 0 left
  pub few : left + 3 * a ≤ 9 * firmware g + closing_left (closing under)

pub stage_of : (check : Check) (x : Exchange) (g : Geometry) (old f : Flash) (a : ℕ) → Ongoing check x g old f a → StageOf check x g old f a
stage_of check x g old f a o = by x o.boot o.update o.statuses o.read_boot o.read_update o.decided
  where
    s : Shaped g f
    s = shaped_of g f o.fit

    by : (y : Exchange) (b : BootStatus) (u : UpdateStatus) → StatusesAt (firmware g) y a b u → boot_status_at g f.boot ≡ gives b
        → update_status_at g f.update ≡ gives u → (flags_at g f.update ≡ AllF → decide check g f ≡ work (job_of y) no_reason)
        → StageOf check y g old f a
    by y b u (in_legs B) e₁ e₂ d =
        let v = begins check g old f a B o.fit e₁ e₂ o.stands d in
        record { boot = b; update = u; under = B; left = v.left; stage = v.stage; few = omega (arith, v.counted) }
    by y b u (at_close e) e₁ e₂ d =
        record {
          boot = Success;
          update = Updating;
          under = from_success;
          left = 1;
          stage = at_last Testing Updating erase_update (omega arith)
              (crossed g s.limits old f (subst (λ (n : ℕ). Sound g old n f) e (placed g old f a s o.stands))) e₁ e₂ refl refl;
          few = omega arith;
        }

pub demand_3_ongoing : Demand3Ongoing
demand_3_ongoing check x g old f a R o es h =
    let v : StageOf check x g old f a = stage_of check x g old f a o in
    safe check g (shaped_of g f o.fit).limits old v.under o.old_whole o.old_good (old_runs check g old R o.old_whole o.old_good) a o.stands.within f v.left
    (v.stage, v.few) es h

pub demand_3 : Demand3
demand_3 check x g f R s es h = demand_3_ongoing check x g f f 0 R (starts_ongoing check x g f s) es h
