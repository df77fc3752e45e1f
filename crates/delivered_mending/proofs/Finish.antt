-- From every mended state calls of `power_up` come to the finish, and one that nothing disturbs takes as many operations as the bound allows. Assumes
-- nothing.
use mathlib.Core.Path.{◌≡◌, refl, sym, ap, ap₂, ◌∙◌, subst}
use mathlib.Core.Bool.{Bool, true, false, cond}
use mathlib.Core.List.{List, [], ◌∷◌}
use Prim.Native.Nat.{ℕ, zero, suc, ◌+◌, ◌-◌, ◌*◌, ◌≤◌, ◌<◌, min}
use native.Mathlib.Omega.{arith}
use lib.ListN.{length}
use Rattle.std.specs.Prelude.{Option}
use Rattle.numbers.specs.Answer.{gives}
use Rattle.flash.specs.declared.Geometry.{Geometry}
use Rattle.flash.specs.Sizes.{geometry, firmware, Limits}
use Rattle.flash.specs.Sectors.{sector_number}
use Rattle.flash.specs.Buffers.{Flash, Shaped}
use Rattle.flash_status.specs.declared.BootStatus.{BootStatus}
use Rattle.flash_status.specs.declared.BootStatus.TheVariants.{Testing, Success}
use Rattle.flash_status.specs.declared.UpdateStatus.TheVariants.{Updating}
use Rattle.flash_status.specs.StatusBytes.{boot_status_at, update_status_of, update_status_at}
use Rattle.flash_flags.specs.declared.Leg.{Leg}
use Rattle.flash_flags.specs.declared.Flags.TheVariants.{All0}
use Rattle.flash_flags.proofs.Laws.{status_flag}
use Rattle.flash_flags.proofs.Moves.{shown_leg}
use Rattle.exchange.specs.declared.Operation.{Operation}
use Rattle.exchange.specs.declared.Job.TheVariants.{Update}
use Rattle.exchange.specs.declared.Operation.TheVariants.{WriteFlag, EraseBootTrailer, WriteBootStatus}
use Rattle.exchange.specs.Operations.{target, next_flag, leg_operation, perform}
use Rattle.exchange.specs.Order.{next_operation, Run, run}
use Rattle.exchange.specs.Decision.{Check}
use Rattle.exchange.specs.PowerUp.{PowerUp, power_up}
use Rattle.exchange.specs.LostPower.{Torn, perform_torn, tear_next}
use Rattle.exchange.specs.Demand.{update, Underway, from_new, from_success, Finished, Ongoing, Event, untorn, lost, left, most}
use Rattle.exchange.proofs.Orders.{next_by_reads}
use Rattle.exchange.proofs.Sound.{put_update_status}
use Rattle.exchange.proofs.Stage.{erase_boot, write_testing, erase_update, Stage, in_leg_lem, at_last, at_end, closing, closing_left, next_leg, all_0}
use Rattle.exchange.proofs.Walked.{Walked, walked}
use Rattle.exchange.proofs.Shows.{unfinished}
use Rattle.exchange.proofs.Decided.{Decides}
use Rattle.exchange.proofs.Played.{OldRuns, old_runs, works, next_in_lem, Played, played}
use Rattle.exchange.proofs.Whole.{closing_most, Begins, begins}
use Rattle.exchange.proofs.Reached.{no_sectors, Ends, last}
use Rattle.image.specs.Verdict.{check_of}
use Rattle.mending.specs.declared.Mark.{Mark}
use Rattle.mending.specs.Marks.{moves_of}
use Rattle.mending.specs.OldImages.{old_flash}
use Rattle.mending.proofs.Found.{may_shaped, but_status}
use Rattle.mend.specs.Delivered.{mended_with, MendDelivers}
use Rattle.delivered.specs.Demand.{AllowedCalls}
use Rattle.delivered.specs.Witness.{Called}
use Rattle.delivered.proofs.Delivered.{reads_firmware}
use Rattle.delivered.proofs.Called.{every_list_called}
use Rattle.delivered_mending.specs.Asked.{left_by, MarkWritten}
use Rattle.delivered_mending.specs.Called.{broken_off, FinishCalled, MendedFinishes, MendedBoundReached}
use Rattle.delivered_mending.proofs.Asked.{as_asked}
use Rattle.delivered_mending.proofs.Whole.{call_under_way}

-- ---- a torn operation that is not the last one leaves UPDATE UPDATING

abbrev Stays : Geometry → Flash → Type 0
Stays g f = update_status_at g f.update ≡ gives Updating

-- old or new
either : (g : Geometry) (b : Bool) (new old : Flash) → Stays g new → Stays g old → Stays g (cond b new old)
either g true new old a b = a
either g false new old a b = b

module _ (g : Geometry) (G : Limits g) (t : Torn) (T : length t.bytes ≡ g.size) where
  torn_leg : (leg : Leg) (p i : ℕ) (f : Flash) → i < firmware g → Shaped g f → Stays g f → Stays g (perform_torn g t (leg_operation leg p (sector_number i)) f)
  torn_leg leg zero i f hi s e = put_update_status g G (target leg) i t.bytes f T s hi ∙ e
  torn_leg leg (suc zero) i f hi s e = put_update_status g G (target leg) i t.bytes f T s hi ∙ e
  torn_leg leg (suc (suc p)) i f hi s e =
      either g t.new (perform g (WriteFlag (sector_number i) (next_flag leg)) f) f (ap update_status_of (status_flag g G f.update s.update i (next_flag leg) hi) ∙ e) e

  module _ {D : List ℕ → List ℕ → Type 0} (old : Flash) {b₀ : BootStatus} (B : Underway update b₀ Updating) where
    torn_next : (f : Flash) (p r : ℕ) → Stage D g old B f p (suc (suc r)) → Stays g (tear_next g t (next_operation Update g p f) f)
    torn_next f p r (in_leg_lem i leg hi hp s d e₁ e₂ ready n) =
        subst (λ (o : Option Operation). Stays g (tear_next g t o f)) (sym (next_leg g update b₀ Updating B p i leg f e₁ e₂ (shown_leg g f.update i leg hi s.moves)))
        (torn_leg leg p i f hi s.shaped e₂)
    torn_next f p r (at_last b u erase_boot le s e₁ e₂ n z) =
        subst (λ (o : Option Operation). Stays g (tear_next g t o f)) (sym (next_by_reads Update g p f b u All0 e₁ e₂ (all_0 g G old f s)))
        (either g t.new (perform g EraseBootTrailer f) f e₂ e₂)
    torn_next f p r (at_last b u write_testing le s e₁ e₂ n z) =
        subst (λ (o : Option Operation). Stays g (tear_next g t o f)) (sym (next_by_reads Update g p f b u All0 e₁ e₂ (all_0 g G old f s)))
        (either g t.new (perform g (WriteBootStatus Testing) f) f e₂ e₂)
    torn_next f p r (at_last b u erase_update le s e₁ e₂ n z) = absurd (omega arith)
    torn_next f p r (at_end b u c y s e₁ e₂ n z) = absurd (omega arith)

stays_unfinished : (g : Geometry) (f : Flash) → Stays g f → ¬ Finished update g f
stays_unfinished g f e h = let z : ◌≡◌ {A = ℕ} 0 1 = cc in omega arith

-- ---- the list

module _ (check : Check) (g : Geometry) (G : Limits g) (old : Flash) {b₀ : BootStatus} (B : Underway update b₀ Updating) (I : OldRuns check g old) where
  module _ (f : Flash) (r : ℕ) (s : Stage (Decides check g B) g old B f 0 (suc r)) where
    -- how many operations a power-up counts
    counts : (budget : ℕ) → (power_up check g f budget).count ≡ min budget (suc r)
    counts budget = ap (λ (a : PowerUp). a.count) (works check g G old B I f r s budget) ∙ (walked g G old B budget f 0 (suc r) s).counted

    after_loss : (j : ℕ) (t : Torn) → length t.bytes ≡ g.size → (budget : ℕ) → j + 2 ≤ suc r → ¬ Finished update g (left check f (lost g budget j t)).flash
    unfolding left
    after_loss j t T budget h =
        subst (λ (y : Flash). ¬ Finished update g y)
        (sym (ap₂ (λ (o : Option Operation) (a : PowerUp). tear_next g t o a.flash) (next_in_lem check g G old B I f r s j) (works check g G old B I f r s j)))
        (by (run Update g j 0 f) (walked g G old B j f 0 (suc r) s))
      where
        by : (w : Run) → Walked (Decides check g B) g old B (suc r) j w → ¬ Finished update g (tear_next g t (next_operation Update g w.phase w.flash) w.flash)
        by w v =
            let e : suc r - w.count ≡ suc (suc (suc r - j - 2)) = omega (arith, v.counted) in
            stays_unfinished g (tear_next g t (next_operation Update g w.phase w.flash) w.flash)
            (torn_next g G t T old B w.flash w.phase (suc r - j - 2)
            (subst (λ (n : ℕ). Stage (Decides check g B) g old B w.flash w.phase n) e v.stage))

    broken_off_lem : (j : ℕ) (t : Torn) → length t.bytes ≡ g.size → (budget : ℕ) → j + 2 ≤ suc r → suc r + 2 ≤ budget → Ends check g G old B I f (broken_off g j t budget)
    unfolding left
    broken_off_lem j t T budget h k = record { allowed = ((n, tt), rest.allowed); finished = rest.finished }
      where
        n : ¬ Finished update g f
        n = unfinished g old B f 0 r s

        lose : Event
        lose = lost g budget j t

        end : Event
        end = untorn g budget

        within : j ≤ (power_up check g f budget).count
        within = omega (arith, counts budget)

        p : Played check g G old B I f (suc r) lose
        p = played check g G old B I f r lose s (within, T)

        ends : Ends check g G old B I (left check f lose).flash (end ∷ [])
        ends = last check g G old B I (left check f lose).flash p.pays.rest budget p.pays.stage (after_loss j t T budget h) (omega (arith, p.pays.paid))

        both : Ends check g G old B I f (lose ∷ end ∷ [])
        both = record { allowed = ((n, (within, T)), ends.allowed); finished = ends.finished }

        rest : Ends check g G old B I (left check f (untorn (geometry 0 0) budget)).flash (lose ∷ end ∷ [])
        rest = subst (λ (a : PowerUp). Ends check g G old B I a.flash (lose ∷ end ∷ [])) (sym (no_sectors check f budget)) both

-- ---- from the mended state

-- an update has two operations or three to close it
closing_two : {b : BootStatus} (B : Underway update b Updating) → 2 ≤ closing_left (closing B)
closing_two from_new = omega arith
closing_two from_success = omega arith

-- a stage with some operation left, as many as a moves leave
record Begun (g : Geometry) (old f : Flash) {b : BootStatus} (B : Underway update b Updating) (a : ℕ) : Type 0 where
  more : ℕ
  stage : Stage (Decides check_of g B) g old B f 0 (suc more)
  counted : suc more + 3 * a ≡ 9 * firmware g + closing_left (closing B)

begun : (g : Geometry) (old f : Flash) {b : BootStatus} (B : Underway update b Updating) (a : ℕ) → a ≤ 3 * firmware g → Begins check_of g old B f a
    → Begun g old f B a
begun g old f B a h v =
    let e : v.left ≡ suc (v.left - 1) = omega (arith, v.counted, closing_two B) in
    record {
      more = v.left - 1;
      stage = subst (λ (i : ℕ). Stage (Decides check_of g B) g old B f 0 i) e v.stage;
      counted = omega (arith, v.counted, closing_two B);
    }

module _ (n s : ℕ) (f : Flash) (k : Mark) (bytes : ℕ) (u : List ℕ) (d : MendDelivers n s f (mended_with k bytes) u) where
  abbrev g : Geometry
  g = geometry n s

  abbrev old : Flash
  old = old_flash g k f

  abbrev moves : ℕ
  moves = moves_of (firmware g) k

  W : MarkWritten g f k bytes (left_by f u)
  W = (as_asked n s f (mended_with k bytes) u d).written k bytes refl

  G : Limits g
  G = (may_shaped W.may).limits

  o : Ongoing check_of update g old (left_by f u) moves
  o = call_under_way n s f k bytes u d

  I : OldRuns check_of g old
  I = old_runs check_of g old (reads_firmware g) o.old_whole o.old_good

  stands_at : {b : BootStatus} (B : Underway update b Updating) → boot_status_at g f.boot ≡ gives b → Begun g old (left_by f u) B moves
  stands_at B e =
      begun g old (left_by f u) B moves o.stands.within
      (begins check_of g old (left_by f u) moves B o.fit e (but_status g f (left_by f u) W.flags.rest G ∙ W.may.read_update) o.stands o.decided)

  comes_to_finish : (j : ℕ) → j + 3 * moves ≤ 9 * firmware g → (t : Torn) → length t.bytes ≡ s → (budget : ℕ) → most update (firmware g) + 2 ≤ budget
      → FinishCalled g (left_by f u) (broken_off g j t budget)
  comes_to_finish j h t T budget l = by (stands_at W.may.statuses W.may.read_boot)
    where
      as_calls : Ends check_of g G old W.may.statuses I (left_by f u) (broken_off g j t budget) → Called (AllowedCalls update g (left_by f u)) (left_by f u) (broken_off g j t budget)
          → FinishCalled g (left_by f u) (broken_off g j t budget)
      as_calls e c = record { called = c; finished = subst (λ (y : Flash). Finished update g y) (sym c.leaves) e.finished }

      by : Begun g old (left_by f u) W.may.statuses moves → FinishCalled g (left_by f u) (broken_off g j t budget)
      by v =
          let e : Ends check_of g G old W.may.statuses I (left_by f u) (broken_off g j t budget)
          = broken_off_lem check_of g G old W.may.statuses I (left_by f u) v.more v.stage j t T budget (omega (arith, v.counted, closing_two W.may.statuses))
          (omega (arith, v.counted, closing_most W.may.statuses (firmware g))) in
          as_calls e (every_list_called update g old (left_by f u) moves o (broken_off g j t budget) e.allowed)

  -- the count of a power-up that nothing disturbs
  all_counted_lem : boot_status_at g f.boot ≡ gives Success → (budget : ℕ) → most update (firmware g) ≤ budget
      → (power_up check_of g (left_by f u) budget).count + 3 * moves ≡ most update (firmware g)
  all_counted_lem e budget l = by (stands_at from_success e)
    where
      by : Begun g old (left_by f u) from_success moves → (power_up check_of g (left_by f u) budget).count + 3 * moves ≡ most update (firmware g)
      by v = omega (arith, v.counted, counts check_of g G old from_success I (left_by f u) v.more v.stage budget)

pub mended_finishes : MendedFinishes
mended_finishes n s f k bytes u d j h t T budget l = comes_to_finish n s f k bytes u d j (omega arith) t T budget l

pub mended_bound_reached : MendedBoundReached
mended_bound_reached n s f k bytes u d e budget l answer f' D = omega (arith, ap (λ (p : PowerUp). p.count) D, all_counted_lem n s f k bytes u d e budget l)
