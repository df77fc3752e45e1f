-- Demand 3 from the mended state; lost flags are found again; a second mending changes nothing.
use mathlib.Core.Path.{◌≡◌, sym, ap, ◌∙◌, subst}
use mathlib.Core.Bool.{true}
use mathlib.Core.List.{List}
use Prim.Native.Nat.{ℕ, ◌+◌, ◌-◌, ◌*◌, ◌≤◌, ◌<◌}
use native.Mathlib.Omega.{arith}
use Rattle.std.specs.Prelude.{Some}
use Rattle.numbers.specs.Answer.{Answer, gives, no_reason}
use Rattle.flash.specs.declared.Geometry.{Geometry}
use Rattle.flash.specs.Sizes.{firmware}
use Rattle.flash.specs.Buffers.{Flash, flash, Shaped, fits}
use Rattle.flash_status.specs.declared.BootStatus.{BootStatus}
use Rattle.flash_status.specs.declared.BootStatus.TheVariants.{Testing}
use Rattle.flash_status.specs.declared.UpdateStatus.{UpdateStatus}
use Rattle.flash_status.specs.declared.UpdateStatus.TheVariants.{Updating}
use Rattle.flash_status.specs.StatusBytes.{boot_status_at, update_status_at}
use Rattle.flash_flags.specs.declared.Flag.{Flag}
use Rattle.flash_flags.specs.declared.Flag.TheVariants.{Untouched}
use Rattle.flash_flags.specs.declared.Flags.TheVariants.{AllF}
use Rattle.flash_flags.specs.SectorFlags.{moved, flags_at}
use Rattle.exchange.specs.declared.Area.TheVariants.{Update}
use Rattle.exchange.specs.Operations.{get, old_boot_in, old_update_in}
use Rattle.exchange.specs.Decision.{Check}
use Rattle.exchange.specs.Order.{Run, run}
use Rattle.exchange.specs.PowerUp.{PowerUp, power_up}
use Rattle.exchange.specs.Demand.{update, job_of, Underway, from_new, from_success, StatusesAt, in_legs, at_close, Starts, Ongoing, ReadsFirmware, left, flash_after}
use Rattle.exchange.specs.RuledOut.{Newer}
use Rattle.flash.proofs.Checked.{shaped_of, shaped_fits}
use Rattle.flash_flags.proofs.Shown.{each_F}
use Rattle.exchange.proofs.Orders.{decide_by_reads}
use Rattle.exchange.proofs.Accepted.{check_same, Accepted, accepted, begun}
use Rattle.exchange.proofs.Runs.{power_up_works}
use Rattle.exchange.proofs.Stage.{erase_boot, write_testing, erase_update, closing_left, closing, Stage, in_leg_lem, at_last, at_end}
use Rattle.exchange.proofs.Walked.{walked}
use Rattle.exchange.proofs.Decided.{Decides}
use Rattle.exchange.proofs.Whole.{same_flag, Begins, begins, starts_ongoing, demand_3_ongoing, demand_3}
use Rattle.exchange.proofs.Reached.{stages_reached}
use Rattle.mending.specs.declared.Mark.{Mark}
use Rattle.mending.specs.Marks.{Among, flag_under, moves_of, marks}
use Rattle.mending.specs.OldImages.{old_flash, Fits, fits_mark}
use Rattle.mending.specs.Mending.{first_fitting, found, set_flags, changed, given, Mend, mending}
use Rattle.mending.specs.Mended.{ShownByTable, MendedOngoing, MendedSafe, FirstToFit, MayMend, ButFlags, OnlyFlags, ReadAs, GivesMark, SpoiledMends, StagesMend, MendsOnce}
use Rattle.mending.proofs.Order.{flag_moved, moves_within, After, mark_after, Gives, some_given}
use Rattle.mending.proofs.Images.{shown_by_tables, fits_true, but_shaped, but_get, but_fits}
use Rattle.mending.proofs.Written.{set_again, none_changed}
use Rattle.mending.proofs.Found.{found_by, found_mark, mend_found, mend_by, with_flags, flash_left_lem, may_shaped, writes, but_status, but_may, same_found, gives_first}

-- ---- demand 3 from the mended state

module _ (check : Check) (g : Geometry) (f : Flash) (k : Mark) (R : ReadsFirmware check g) (M : MayMend g f) (N : Fits check g f k) (A : Among (firmware g) k) where
  mended_ongoing : Ongoing check update g (old_flash g k f) (with_flags g k f) (moves_of (firmware g) k)
  mended_ongoing = record {
    fit = fit;
    boot = M.boot;
    update = Updating;
    statuses = in_legs M.statuses;
    read_boot = M.read_boot;
    read_update = reads;
    stands = record {
      within = moves_within (firmware g) k A;
      flags = λ i h. O.written i h ∙ ap Some (flag_moved (firmware g) k i h);
      in_place = λ i h. record {
        flag = flag_under k i;
        reads = O.written i h;
        old_boot = but_get g f (with_flags g k f) S O.rest (old_boot_in (flag_under k i)) i h ∙ sym (T.boot i h);
        old_update = but_get g f (with_flags g k f) S O.rest (old_update_in (flag_under k i)) i h ∙ sym (T.update i h);
      };
    };
    old_whole = T.shaped.update;
    old_good = record { version = N.new; good = N.update_good };
    decided = λ z.
        decide_by_reads check g (with_flags g k f) M.boot Updating AllF fit M.read_boot reads z
        ∙ begun M.statuses (check g (with_flags g k f).update) (check g (with_flags g k f).boot) (newer z);
  }
    where
      S : Shaped g f
      S = may_shaped M

      T : ShownByTable g k f
      T = shown_by_tables g k f S

      O : OnlyFlags g f (with_flags g k f) k
      O = writes g f k M

      S' : Shaped g (with_flags g k f)
      S' = but_shaped g f (with_flags g k f) S O.rest

      fit : fits g (with_flags g k f) ≡ true
      fit = shaped_fits g (with_flags g k f) S'

      reads : update_status_at g (with_flags g k f).update ≡ gives Updating
      reads = but_status g f (with_flags g k f) O.rest S.limits ∙ M.read_update

      -- all flags F: the old images stand where they are
      untouched : flags_at g (with_flags g k f).update ≡ AllF → (i : ℕ) → i < firmware g → flag_under k i ≡ Untouched
      untouched z i h = same_flag (flag_under k i) Untouched (sym (O.written i h) ∙ each_F g (with_flags g k f).update z i h)

      newer : flags_at g (with_flags g k f).update ≡ AllF → Newer (check g (with_flags g k f).update) (check g (with_flags g k f).boot)
      newer z = record {
        new = N.new;
        old = N.old;
        update_good =
            check_same check g R (with_flags g k f).update (old_flash g k f).update S'.update T.shaped.update
            (λ i h. but_get g f (with_flags g k f) S O.rest Update i h ∙ sym (ap (λ (v : Flag). get g (old_update_in v) i f) (untouched z i h)) ∙ sym (T.update i h))
            ∙ N.update_good;
        boot_good =
            check_same check g R f.boot (old_flash g k f).boot S.boot T.shaped.boot
            (λ i h. sym (ap (λ (v : Flag). get g (old_boot_in v) i f) (untouched z i h)) ∙ sym (T.boot i h))
            ∙ N.boot_good;
        newer = N.newer;
      }

pub mended_under_way : MendedOngoing
mended_under_way check g f k n R e =
    let q : found check g f ≡ gives k = mend_found check g f k n e in
    let F : FirstToFit check g f k = (gives_first check g f k n e).1 in
    subst (λ (y : Flash). Ongoing check update g (old_flash g k f) y (moves_of (firmware g) k)) (sym (flash_left_lem check g f k q))
    (mended_ongoing check g f k R (found_mark check g f k q).may F.fit F.among)

pub mended_safe : MendedSafe
mended_safe check g f k n R e es h =
    demand_3_ongoing check update g (old_flash g k f) (mending check g f).flash (moves_of (firmware g) k) R (mended_under_way check g f k n R e) es h

-- ---- what is gained

-- BOOT's status is still one of the legs
ongoing_may : (check : Check) (g : Geometry) (old f : Flash) (a : ℕ) → Ongoing check update g old f a → (boot_status_at g f.boot ≡ gives Testing → a ≡ 3 * firmware g → ⊥) → MayMend g f
ongoing_may check g old f a o h = by o.boot o.update o.statuses o.read_boot o.read_update
  where
    by : (b : BootStatus) (u : UpdateStatus) → StatusesAt (firmware g) update a b u → boot_status_at g f.boot ≡ gives b → update_status_at g f.update ≡ gives u → MayMend g f
    by b u (in_legs from_new) e₁ e₂ = record { fit = o.fit; boot = b; statuses = from_new; read_boot = e₁; read_update = e₂ }
    by b u (in_legs from_success) e₁ e₂ = record { fit = o.fit; boot = b; statuses = from_success; read_boot = e₁; read_update = e₂ }
    by b u (at_close e) e₁ e₂ = absurd (h e₁ e)

not_testing : {b : BootStatus} {u : UpdateStatus} → Underway update b u → (r : Answer BootStatus) → r ≡ gives b → r ≡ gives Testing → ⊥
not_testing from_new r e t = let z : ◌≡◌ {A = ℕ} 0 1 = cc in omega arith
not_testing from_success r e t = let z : ◌≡◌ {A = ℕ} 0 1 = cc in omega arith

-- an update of what `old` holds is under way at f, and f' is the same but for its flag bytes
module _ (check : Check) (g : Geometry) (old f f' : Flash) (a : ℕ) (R : ReadsFirmware check g) (O : Shaped g old) (N : Newer (check g old.update) (check g old.boot))
    (o : Ongoing check update g old f a) (legs : boot_status_at g f.boot ≡ gives Testing → a ≡ 3 * firmware g → ⊥) (E : ButFlags g f f') where
  S : Shaped g f
  S = shaped_of g f o.fit

  T : (k : Mark) → ShownByTable g k f
  T k = shown_by_tables g k f S

  -- the mark that the flags show fits
  true_mark : (k : Mark) → ReadAs g f k → Fits check g f k
  true_mark k r = record {
    new = N.new;
    old = N.old;
    update_good =
        check_same check g R (old_flash g k f).update old.update (T k).shaped.update O.update
        (λ i h. (T k).update i h ∙ ap (λ (v : Flag). get g (old_update_in v) i f) (flag i h) ∙ (o.stands.in_place i h).old_update)
        ∙ N.update_good;
    boot_good =
        check_same check g R (old_flash g k f).boot old.boot (T k).shaped.boot O.boot
        (λ i h. (T k).boot i h ∙ ap (λ (v : Flag). get g (old_boot_in v) i f) (flag i h) ∙ (o.stands.in_place i h).old_boot)
        ∙ N.boot_good;
    newer = N.newer;
  }
    where
      flag : (i : ℕ) (h : i < firmware g) → flag_under k i ≡ (o.stands.in_place i h).flag
      flag i h = same_flag (flag_under k i) (o.stands.in_place i h).flag (sym (r i h) ∙ (o.stands.in_place i h).reads)

  -- so it does with other flag bytes, and one is given
  ongoing_mends : GivesMark check g f f'
  ongoing_mends = record {
    gave = given r.mark (changed g f'.update (set_flags g r.mark f'.update));
    answers = ap (λ (z : Mend). z.answer) (mend_by check g f' (gives r.mark) (found_by check g f' (but_may g f f' E (ongoing_may check g old f a o legs)) ∙ r.gave));
    lost = w.mark;
    among = w.among;
    shown = shown;
    not_later = r.not_later;
  }
    where
      w : After (firmware g) a
      w = mark_after (firmware g) a o.stands.within

      shown : ReadAs g f w.mark
      shown i h =
          o.stands.flags i h ∙ ap (λ (b : ℕ). Some (moved (b - 3 * i))) (sym w.moves) ∙ ap Some (sym (flag_moved (firmware g) w.mark i h))

      r : Gives (fits_mark check g f') (firmware g) w.mark (first_fitting (fits_mark check g f') (marks (firmware g)))
      r = some_given (fits_mark check g f') (firmware g) w.mark w.among (but_fits g f f' S E check R w.mark ∙ fits_true check g f w.mark (true_mark w.mark shown))

pub spoiled_mends : SpoiledMends
spoiled_mends check g f₀ es b f R s h n U e E =
    let A : Accepted check update g f₀ = accepted check update g f₀ s in
    let y = (demand_3 check update g f₀ R s es h).ongoing n in
    ongoing_mends check g f₀ (flash_after (left check) f₀ es) f y.0 R (shaped_of g f₀ A.fit) A.both.images y.2
    (λ t q. not_testing U (boot_status_at g (flash_after (left check) f₀ es).boot) e t) E

-- an update has two operations or more to close it
closing_two : {b : BootStatus} {u : UpdateStatus} (B : Underway update b u) → 2 ≤ closing_left (closing B)
closing_two from_new = omega arith
closing_two from_success = omega arith

-- none of them is among the first 9m, so BOOT is not yet TESTING
not_closing : (check : Check) (g : Geometry) (f₀ : Flash) (a : ℕ) → Starts check update g f₀ → a ≤ 3 * firmware g
    → boot_status_at g (power_up check g f₀ (3 * a)).flash.boot ≡ gives Testing → ⊥
not_closing check g f₀ a s h =
    subst (λ (y : PowerUp). boot_status_at g y.flash.boot ≡ gives Testing → ⊥) (sym (power_up_works check g f₀ (3 * a) (job_of update) no_reason s.decided))
    (from A.both.statuses (begins check g f₀ f₀ 0 A.both.statuses A.fit A.both.read_boot A.both.read_update o.stands o.decided))
  where
    A : Accepted check update g f₀
    A = accepted check update g f₀ s

    o : Ongoing check update g f₀ f₀ 0
    o = starts_ongoing check update g f₀ s

    by : {b₀ : BootStatus} {u₀ : UpdateStatus} (B : Underway update b₀ u₀) (f : Flash) (p r : ℕ)
        → r + 3 * a ≡ 9 * firmware g + closing_left (closing B) → Stage (Decides check g B) g f₀ B f p r → boot_status_at g f.boot ≡ gives Testing → ⊥
    by B f p r e (in_leg_lem i leg hi hp y d e₁ e₂ ready n) = not_testing B (boot_status_at g f.boot) e₁
    by B f p r e (at_last b u erase_boot le y e₁ e₂ n z) = not_testing from_success (boot_status_at g f.boot) e₁
    by B f p r e (at_last b u write_testing le y e₁ e₂ n z) = not_testing from_new (boot_status_at g f.boot) e₁
    by B f p r e (at_last b u erase_update le y e₁ e₂ n z) = absurd (omega (arith, closing_two B))
    by B f p r e (at_end b u c y k e₁ e₂ n z) = absurd (omega (arith, closing_two B))

    from : {b : BootStatus} {u : UpdateStatus} (B : Underway update b u) → Begins check g f₀ B f₀ 0
        → boot_status_at g (run (job_of update) g (3 * a) 0 f₀).flash.boot ≡ gives Testing → ⊥
    from B b =
        let w : Run = run (job_of update) g (3 * a) 0 f₀ in
        let v = walked g (shaped_of g f₀ A.fit).limits f₀ B (3 * a) f₀ 0 b.left b.stage in
        by B w.flash w.phase (b.left - w.count) (omega (arith, b.counted, v.counted)) v.stage

pub stages_mend : StagesMend
stages_mend check g f₀ a f R s h E =
    let A : Accepted check update g f₀ = accepted check update g f₀ s in
    ongoing_mends check g f₀ (power_up check g f₀ (3 * a)).flash f a R (shaped_of g f₀ A.fit) A.both.images (stages_reached check update g f₀ s a h)
    (λ t q. not_closing check g f₀ a s h t) E

pub mends_once : MendsOnce
mends_once check g f k n R e =
    subst (λ (y : Flash). mending check g y ≡ record { answer = gives (given k 0); flash = y }) (sym (flash_left_lem check g f k q))
    (mend_by check g (with_flags g k f) (gives k) (same_found check g f (with_flags g k f) R O.rest ∙ q)
    ∙ ap (λ (u : List ℕ). record { answer = gives (given k (changed g (set_flags g k f.update) u)); flash = flash f.boot u f.swap }) again
    ∙ ap (λ (c : ℕ). record { answer = gives (given k c); flash = with_flags g k f }) (none_changed g (set_flags g k f.update)))
  where
    q : found check g f ≡ gives k
    q = mend_found check g f k n e

    M : MayMend g f
    M = (found_mark check g f k q).may

    O : OnlyFlags g f (with_flags g k f) k
    O = writes g f k M

    S' : Shaped g (with_flags g k f)
    S' = but_shaped g f (with_flags g k f) (may_shaped M) O.rest

    again : set_flags g k (set_flags g k f.update) ≡ set_flags g k f.update
    again = set_again g S'.limits k (set_flags g k f.update) S'.update O.written
