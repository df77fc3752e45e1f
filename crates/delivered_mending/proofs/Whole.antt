-- Demand 3 from the mended state, and what is gained: no update under way is turned away. Assumes nothing.
use mathlib.Core.Path.{◌≡◌, refl, sym, ap, ◌∙◌, subst}
use mathlib.Core.List.{List, map}
use Prim.Native.Nat.{ℕ}
use native.Mathlib.Omega.{arith}
use Rattle.numbers.specs.Answer.{gives}
use Rattle.flash.specs.declared.Geometry.{Geometry}
use Rattle.flash.specs.Sizes.{geometry, firmware}
use Rattle.flash.specs.Buffers.{Flash}
use Rattle.flash_status.specs.StatusBytes.{boot_status_at}
use Rattle.exchange.specs.Demand.{update, Finished, Ongoing, left, EndsAsAllowed, Allowed, flash_after}
use Rattle.exchange.proofs.Along.{same_allowed, same_after}
use Rattle.image.specs.Verdict.{check_of}
use Rattle.mending.specs.declared.Mark.{Mark}
use Rattle.mending.specs.Marks.{moves_of}
use Rattle.mending.specs.OldImages.{old_flash}
use Rattle.mending.specs.Mending.{given, Mend, mending}
use Rattle.mending.specs.Mended.{MayMend, ButFlags, mark_of, ReadAs, GivesMark}
use Rattle.mending.proofs.Found.{but_status, may_shaped, flags_not_read}
use Rattle.mending.proofs.Whole.{mended_under_way, mends_once, spoiled_mends}
use Rattle.mend.specs.Delivered.{mended_with, MendDelivers}
use Rattle.delivered.specs.Demand.{CallEvent, Happens, seen, AllowedCalls}
use Rattle.delivered.specs.Witness.{ruled}
use Rattle.exchange.proofs.Seen.{at}
use Rattle.delivered.proofs.Delivered.{reads_firmware, as_ruled, demand_3_ongoing_delivered}
use Rattle.delivered_mending.specs.Asked.{left_by, FlagsHaveNoSay, MendedOnce}
use Rattle.delivered_mending.specs.Demand.{Demand3Mended}
use Rattle.delivered_mending.specs.Spoiled.{GaveMark, SpoiledCallMends}
use Rattle.delivered_mending.proofs.Asked.{answer_is, flash_is, ruled_answer, coded_answer}

-- ---- demand 3 from the mended state

-- the mended flash is an update under way, of the images that the mark shows
pub call_under_way : (n s : ℕ) (f : Flash) (k : Mark) (bytes : ℕ) (u : List ℕ) → MendDelivers n s f (mended_with k bytes) u
    → Ongoing check_of update (geometry n s) (old_flash (geometry n s) k f) (left_by f u) (moves_of (firmware (geometry n s)) k)
call_under_way n s f k bytes u d =
    subst (λ (y : Flash). Ongoing check_of update (geometry n s) (old_flash (geometry n s) k f) y (moves_of (firmware (geometry n s)) k))
    (sym (flash_is n s f (mended_with k bytes) u d))
    (mended_under_way check_of (geometry n s) f k bytes (reads_firmware (geometry n s)) (ruled_answer n s f (mended_with k bytes) u d (mended_with k bytes) refl))

pub demand_3_mended : Demand3Mended
demand_3_mended n s f k bytes u d es h =
    demand_3_ongoing_delivered update (geometry n s) (old_flash (geometry n s) k f) (left_by f u) (moves_of (firmware (geometry n s)) k)
    (call_under_way n s f k bytes u d) es h

-- ---- flag bytes, and flags that are mended

pub flags_have_no_say : FlagsHaveNoSay
flags_have_no_say n s f f' E a a' u u' d d' =
    ap mark_of (answer_is n s f' a' u' d') ∙ flags_not_read check_of (geometry n s) f f' (reads_firmware (geometry n s)) E
    ∙ sym (ap mark_of (answer_is n s f a u d))

pub mended_once : MendedOnce
mended_once n s f k bytes u d a u' d' =
    let e : left_by f u ≡ (mending check_of (geometry n s) f).flash = flash_is n s f (mended_with k bytes) u d in
    let q : mending check_of (geometry n s) (left_by f u) ≡ record { answer = gives (given k 0); flash = left_by f u } =
    subst (λ (y : Flash). mending check_of (geometry n s) y ≡ record { answer = gives (given k 0); flash = y }) (sym e)
    (mends_once check_of (geometry n s) f k bytes (reads_firmware (geometry n s)) (ruled_answer n s f (mended_with k bytes) u d (mended_with k bytes) refl)) in (
      coded_answer n s (left_by f u) a u' d' (mended_with k 0) (ap (λ (r : Mend). r.answer) q),
      ap (λ (y : Flash). y.update) (flash_is n s (left_by f u) a u' d' ∙ ap (λ (r : Mend). r.flash) q),
    )

-- ---- lost flags

-- the list, as the rules have it
record AsRuled (g : Geometry) (f₀ : Flash) (es : List CallEvent) : Type 0 where
  allowed : Allowed check_of update g f₀ (map ruled es)
  leaves : flash_after seen f₀ es ≡ flash_after (left check_of) f₀ (map ruled es)

list_as_ruled : (g : Geometry) (f₀ : Flash) (es : List CallEvent) → AllowedCalls update g f₀ es → AsRuled g f₀ es
list_as_ruled g f₀ es h =
    let r = same_allowed at seen (left check_of) ruled (λ before e. (¬ Finished update g before) × Happens g before e)
    (λ before e. (¬ Finished update g before) × EndsAsAllowed check_of g before e) (as_ruled update g) es f₀ h in
    record { allowed = r.1; leaves = same_after at seen (left check_of) ruled es f₀ r.0 }

-- a flash that may mend is no finished one, nor was it before its flags were lost
module _ (g : Geometry) (whole f : Flash) (E : ButFlags g whole f) (M : MayMend g f) where
  not_finished : ¬ Finished update g whole
  not_finished h =
      let e = but_status g whole f E (may_shaped M).limits in
      let m = M.read_update in
      let z : ◌≡◌ {A = ℕ} 0 1 = cc in
      omega arith

  was_boot : boot_status_at g whole.boot ≡ gives M.boot
  was_boot = ap (boot_status_at g) (sym E.boot) ∙ M.read_boot

pub spoiled_call_mends : SpoiledCallMends
spoiled_call_mends n s f₀ starts es h f E M answer u d = by (list_as_ruled (geometry n s) f₀ es h)
  where
    gave : (whole : Flash) → flash_after seen f₀ es ≡ whole → GivesMark check_of (geometry n s) whole f → GaveMark (geometry n s) (flash_after seen f₀ es) answer
    gave whole e w = record {
      mark = w.gave.mark;
      bytes = w.gave.bytes;
      answers = coded_answer n s f answer u d (mended_with w.gave.mark w.gave.bytes) w.answers;
      lost = w.lost;
      among = w.among;
      shown = subst (λ (y : Flash). ReadAs (geometry n s) y w.lost) (sym e) w.shown;
      not_later = w.not_later;
    }

    by : AsRuled (geometry n s) f₀ es → GaveMark (geometry n s) (flash_after seen f₀ es) answer
    by r =
        let whole : Flash = flash_after (left check_of) f₀ (map ruled es) in
        let E' : ButFlags (geometry n s) whole f = subst (λ (y : Flash). ButFlags (geometry n s) y f) r.leaves E in
        gave whole r.leaves
        (spoiled_mends check_of (geometry n s) f₀ (map ruled es) M.boot f (reads_firmware (geometry n s)) starts r.allowed
        (not_finished (geometry n s) whole f E' M) M.statuses (was_boot (geometry n s) whole f E' M) E')
