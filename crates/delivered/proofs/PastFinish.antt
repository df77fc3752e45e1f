-- The list past the finish: an update of 21 operations, and a fallback of 19 more.
use mathlib.Core.Path.{◌≡◌, ap, ap₂, ◌∙◌}
use mathlib.Core.List.{List, [], ◌∷◌}
use Rattle.std.specs.Prelude.{None}
use Prim.Native.Nat.{ℕ, ◌+◌}
use native.Mathlib.Omega.{arith}
use lib.ListN.{get_or}
use Rattle.flash.specs.Buffers.{Flash}
use Rattle.flash_status.specs.declared.BootStatus.TheVariants.{Testing, Success}
use Rattle.flash_status.specs.declared.UpdateStatus.TheVariants.{New, Updating}
use Rattle.flash.proofs.Checked.{shaped_of}
use Rattle.exchange.proofs.Accepted.{check_same}
use Rattle.exchange.specs.PowerUp.{cut, runs_on_test, runs_fallen_back, power_up}
use Rattle.exchange.specs.Demand.{update, from_success, untorn, Starts, left, completed, early_ends, is_cut, AtFinish, Safe}
use Rattle.exchange.specs.Cases.{three, UpdateReady, FallbackReady, LeavesAs, Leaves, leaves, counts, last_outcome}
use Rattle.exchange.proofs.Whole.{demand_3}
use Rattle.exchange.proofs.RuledOut.{ruled_out}
use Rattle.exchange.proofs.Cases.{marked_exchange}
use Rattle.image.specs.Verdict.{check_of}
use Rattle.delivered.specs.PastFinish.{once_more, PastFinish, five_then_all, BoundReached}
use Rattle.delivered.proofs.Delivered.{reads_firmware}

-- a list of one power-up: its count
count_of : (f : Flash) (b : ℕ) (l : Leaves) → LeavesAs check_of f (b ∷ []) l → (power_up check_of three f b).count ≡ get_or l.counted 0 0
unfolding counts
count_of f b l h = ap (λ (k : List ℕ). get_or k 0 0) h.counted

cut_of : (f : Flash) (b : ℕ) (l : Leaves) → LeavesAs check_of f (b ∷ []) l → is_cut (power_up check_of three f b).outcome ≡ is_cut l.outcome
unfolding last_outcome
cut_of f b l h = ap is_cut h.outcome

module _ (f : Flash) (r : UpdateReady check_of f) where
  -- the cases 2 and 5, of budgets 21 and 100
  after_update : LeavesAs check_of f (21 ∷ []) (leaves (21 ∷ []) runs_on_test None Testing New)
  after_update = (marked_exchange check_of (reads_firmware three)).1.1.1.1.1.1.1.0 f r

  abbrev f₁ : Flash
  f₁ = (power_up check_of three f 21).flash

  starts : Starts check_of update three f
  starts =
      ruled_out.newer_starts check_of three f Success from_success (record { fit = r.fit; boot = r.boot_is; update = r.update_is; flags = r.flags_f })
      (record { new = r.new_version; old = r.old_version; update_good = r.update_good; boot_good = r.boot_good; newer = r.newer })

  safe : Safe check_of (left check_of) update three f f 0 (untorn three 21 ∷ [])
  safe =
      demand_3 check_of update three f (reads_firmware three) starts (untorn three 21 ∷ [])
      (((λ e. let z : ◌≡◌ {A = ℕ} 0 1 = let k = r.update_is in cc in absurd (omega arith)), tt), tt)

  finished : AtFinish update three f f₁
  unfolding left
  finished = safe.at_finish after_update.update_status

  -- UPDATE holds the old BOOT image, which is good
  ready : FallbackReady check_of f₁
  unfolding left
  ready = record {
    fit = safe.fit;
    boot_is = finished.boot_status;
    update_is = finished.update_status;
    flags_f = finished.flags;
    version = r.old_version;
    update_good =
        let s = shaped_of three f r.fit in
        let s₁ = shaped_of three f₁ safe.fit in
        check_same check_of three (reads_firmware three) f₁.update f.boot s₁.update s.boot (λ i h. (finished.exchanged i h).update_holds) ∙ r.boot_good;
  }

  after_fallback : LeavesAs check_of f₁ (100 ∷ []) (leaves (19 ∷ []) runs_fallen_back None Success New)
  after_fallback = (marked_exchange check_of (reads_firmware three)).1.1.1.1.1.1.1.1.1.1.1.0 f₁ ready

  pub all_done : completed (left check_of) f once_more ≡ 40
  unfolding left
  all_done = ap₂ (λ (x y : ℕ). x + (y + 0)) (count_of f 21 _ after_update) (count_of f₁ 100 _ after_fallback)

  pub none_early : early_ends (left check_of) f once_more ≡ 0
  unfolding left
  none_early = ap₂ (λ (x y : ℕ). x + (y + 0)) (cut_of f 21 _ after_update) (cut_of f₁ 100 _ after_fallback)

pub past_finish : PastFinish
past_finish f r = omega (arith, all_done f r, none_early f r)

-- ---- the bound is reached

-- two power-ups: their counts, and the last outcome
counts_of : (f : Flash) (b c : ℕ) (l : Leaves) → LeavesAs check_of f (b ∷ c ∷ []) l
    → ((power_up check_of three f b).count ≡ get_or l.counted 0 0) × ((power_up check_of three (power_up check_of three f b).flash c).count ≡ get_or l.counted 1 0)
unfolding counts
counts_of f b c l h = (ap (λ (k : List ℕ). get_or k 0 0) h.counted, ap (λ (k : List ℕ). get_or k 1 0) h.counted)

last_of : (f : Flash) (b c : ℕ) (l : Leaves) → LeavesAs check_of f (b ∷ c ∷ []) l
    → is_cut (power_up check_of three (power_up check_of three f b).flash c).outcome ≡ is_cut l.outcome
unfolding last_outcome
last_of f b c l h = ap is_cut h.outcome

module _ (f : Flash) (r : UpdateReady check_of f) where
  -- case 3: a budget of 5, and then 100
  first_cut : LeavesAs check_of f (5 ∷ []) (leaves (5 ∷ []) cut None Success Updating)
  first_cut = (marked_exchange check_of (reads_firmware three)).1.1.1.1.1.1.1.1.0 f r

  both : LeavesAs check_of f (5 ∷ 100 ∷ []) (leaves (5 ∷ 18 ∷ []) runs_on_test None Testing New)
  both = (marked_exchange check_of (reads_firmware three)).1.1.1.1.1.1.1.1.1.0 f r

  done_23 : completed (left check_of) f five_then_all ≡ 23
  unfolding left
  done_23 = ap₂ (λ (x y : ℕ). x + (y + 0)) (counts_of f 5 100 _ both).0 (counts_of f 5 100 _ both).1

  one_early : early_ends (left check_of) f five_then_all ≡ 1
  unfolding left
  one_early = ap₂ (λ (x y : ℕ). x + (y + 0)) (cut_of f 5 _ first_cut) (last_of f 5 100 _ both)

fallback_19 : (f : Flash) → FallbackReady check_of f → completed (left check_of) f (untorn three 100 ∷ []) ≡ 19
unfolding left
fallback_19 f r =
    ap (λ (x : ℕ). x + 0) (count_of f 100 _ ((marked_exchange check_of (reads_firmware three)).1.1.1.1.1.1.1.1.1.1.1.0 f r))

pub bound_reached : BoundReached
bound_reached = record {
  of_update = λ f r. omega (arith, done_23 f r, one_early f r);
  one_end = one_early;
  of_fallback = λ f r. omega (arith, fallback_19 f r);
}
