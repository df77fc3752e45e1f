-- What the rules of arm and confirm rule out.
use mathlib.Core.Path.{◌≡◌, refl, sym, ap, ◌∙◌, subst}
use mathlib.Core.Logic.{◌≢◌}
use mathlib.Core.Bool.{Bool, true, false, cond}
use mathlib.Core.List.{List}
use Prim.Native.Nat.{ℕ}
use native.Mathlib.Omega.{arith}
use Rattle.numbers.specs.Answer.{Answer, gives, refused}
use Rattle.exchange.specs.Base.{Geometry, BootStatus, BootNew, Testing, Success, UpdateStatus, UpdateNew, Updating, Flags, Malformed, AllF, At, All0}
use Rattle.exchange.specs.Base.{firmware, erased, Flash, Shaped, fits, status_byte, boot_byte, boot_status_of, boot_status_at, update_byte, update_status_of, update_status_at, flag_of, flag_byte, half, flag_at, flags_from, flags, all_f, past_zeros, flags_shown, flags_at}
use Rattle.flash.specs.Sizes.{within_limits}
use Rattle.flash.specs.Buffers.{partition_fits}
use Rattle.exchange.specs.declared.Area.TheVariants.{Update}
use Rattle.exchange.specs.declared.Operation.{Operation}
use Rattle.exchange.specs.declared.Operation.TheVariants.{EraseUpdateTrailer, WriteBootStatus, WriteUpdateStatus}
use Rattle.exchange.specs.Operations.{perform}
use Rattle.exchange.specs.Commands.{Command, command, with_statuses, checked, may_arm, arm_operations, arm_command, confirm_flags, may_confirm, confirm_operations, confirm_command}
use Rattle.exchange.specs.RuledOut.{Reads}
use Rattle.exchange.specs.CommandsRuledOut.{done_with, TimeToArm, over_new, over_success, TimeToConfirm, on_test, Armable, ArmNumber, outside_rules, status_not_allowed, wrong_time, ConfirmNumber, as_arm, flags_not_well_formed, RefusedAs, CommandsRuledOut, CommandsMet}
use Rattle.flash.proofs.Checked.{shaped_of, shaped_fits}
use Rattle.flash.proofs.Laws.{length_erased}
use Rattle.flash_status.proofs.Ten.{boot_refused, update_refused}
use Rattle.flash_flags.proofs.Laws.{boot_written, update_written, flags_erased, flags_status, length_status}
use Rattle.exchange.proofs.Sound.{put_shaped}

-- ---- the two rules by the statuses and the flags

arm_wrong_time_lem : (b : BootStatus) (u : UpdateStatus) → ¬ TimeToArm b u → may_arm b u ≡ refused 14 0
arm_wrong_time_lem BootNew UpdateNew k = absurd (k over_new)
arm_wrong_time_lem Success UpdateNew k = absurd (k over_success)
arm_wrong_time_lem Testing UpdateNew k = refl
arm_wrong_time_lem BootNew Updating k = refl
arm_wrong_time_lem Success Updating k = refl
arm_wrong_time_lem Testing Updating k = refl

arm_in_time : (b : BootStatus) (u : UpdateStatus) → TimeToArm b u → may_arm b u ≡ gives tt
arm_in_time b u over_new = refl
arm_in_time b u over_success = refl

confirm_wrong_time_lem : (v : Flags) (b : BootStatus) (u : UpdateStatus) → ¬ TimeToConfirm b u → may_confirm v b u ≡ refused 14 0
confirm_wrong_time_lem v Testing UpdateNew k = absurd (k on_test)
confirm_wrong_time_lem v BootNew UpdateNew k = refl
confirm_wrong_time_lem v Success UpdateNew k = refl
confirm_wrong_time_lem v BootNew Updating k = refl
confirm_wrong_time_lem v Success Updating k = refl
confirm_wrong_time_lem v Testing Updating k = refl

confirm_malformed_lem : may_confirm Malformed Testing UpdateNew ≡ refused 11 0
confirm_malformed_lem = refl

confirm_under_way_lem : (v : Flags) → v ≢ Malformed → v ≢ AllF → may_confirm v Testing UpdateNew ≡ refused 14 0
confirm_under_way_lem Malformed h k = absurd (h refl)
confirm_under_way_lem AllF h k = absurd (k refl)
confirm_under_way_lem (At i leg) h k = refl
confirm_under_way_lem All0 h k = refl

confirm_in_time : may_confirm AllF Testing UpdateNew ≡ gives tt
confirm_in_time = refl

-- ---- the checks, by what is read

module _ (g : Geometry) (f : Flash) where
  by_reads : (rest : BootStatus → UpdateStatus → Answer (Unit {0})) {b : BootStatus} {u : UpdateStatus} {v : Flags} → Reads g f b u v → checked g f rest ≡ rest b u
  by_reads rest r = rw (r.fit, r.boot, r.update) refl

  pub by_outside : (rest : BootStatus → UpdateStatus → Answer (Unit {0})) → fits g f ≡ false → checked g f rest ≡ refused 1 0
  by_outside rest e = rw e refl

  boot_ten : (n p : ℕ) → boot_status_at g f.boot ≡ refused n p → boot_status_at g f.boot ≡ refused 10 0
  boot_ten n p e = e ∙ sym (boot_refused (status_byte g f.boot) n p e)

  update_ten : (n p : ℕ) → update_status_at g f.update ≡ refused n p → update_status_at g f.update ≡ refused 10 0
  update_ten n p e = e ∙ sym (update_refused (status_byte g f.update) n p e)

  pub by_boot : (rest : BootStatus → UpdateStatus → Answer (Unit {0})) (n p : ℕ) → fits g f ≡ true → boot_status_at g f.boot ≡ refused n p → checked g f rest ≡ refused 10 0
  by_boot rest n p e h = rw (e, boot_ten n p h) refl

  pub by_update : (rest : BootStatus → UpdateStatus → Answer (Unit {0})) (n p : ℕ) → fits g f ≡ true → update_status_at g f.update ≡ refused n p → checked g f rest ≡ refused 10 0
  by_update rest n p e h = rw (e, update_ten n p h) (by (boot_status_at g f.boot) refl)
    where
      by : (bs : Answer BootStatus) → boot_status_at g f.boot ≡ bs → with_statuses bs (refused 10 0) rest ≡ refused 10 0
      by (gives b) q = refl
      by (refused n' p') q = ap (λ (x : Answer BootStatus). with_statuses x (refused 10 0) rest) (sym q ∙ boot_ten n' p' q)

-- ---- and what was read, by what the checks answer

pub record Passed (g : Geometry) (f : Flash) (rest : BootStatus → UpdateStatus → Answer (Unit {0})) : Type 0 where
  pub boot : BootStatus
  pub update : UpdateStatus
  pub reads : Reads g f boot update (flags_at g f.update)
  pub granted : rest boot update ≡ gives tt

-- a refusal's number is one of these, and its place is 0
pub record Listed (Number : ℕ → Type 0) (n p : ℕ) : Type 0 where
  pub number : Number n
  pub place : p ≡ 0

pub listed : (Number : ℕ → Type 0) {m n p : ℕ} → Number m → m ≡ n → p ≡ 0 → Listed Number n p
listed Number x e h = record { number = subst Number e x; place = h }

module _ (g : Geometry) (f : Flash) (rest : BootStatus → UpdateStatus → Answer (Unit {0})) where
  pub passed : checked g f rest ≡ gives tt → Passed g f rest
  passed e = by (fits g f) (boot_status_at g f.boot) (update_status_at g f.update) refl refl refl e
    where
      by : (t : Bool) (bs : Answer BootStatus) (us : Answer UpdateStatus) → fits g f ≡ t → boot_status_at g f.boot ≡ bs → update_status_at g f.update ≡ us
          → cond t (with_statuses bs us rest) (refused 1 0) ≡ gives tt → Passed g f rest
      by true (gives b) (gives u) e e₁ e₂ h =
          record { boot = b; update = u; reads = record { fit = e; boot = e₁; update = e₂; flags = refl }; granted = h }
      by true (gives b) (refused n p) e e₁ e₂ h = absurd (let z : ◌≡◌ {A = ℕ} 0 1 = cc in omega arith)
      by true (refused n p) us e e₁ e₂ h = absurd (let z : ◌≡◌ {A = ℕ} 0 1 = cc in omega arith)
      by false bs us e e₁ e₂ h = absurd (let z : ◌≡◌ {A = ℕ} 0 1 = cc in omega arith)

  pub not_passed : (Number : ℕ → Type 0) → Number 1 → Number 10 → ((b : BootStatus) (u : UpdateStatus) (n p : ℕ) → rest b u ≡ refused n p → Listed Number n p)
      → (n p : ℕ) → checked g f rest ≡ refused n p → Listed Number n p
  not_passed Number one ten later n p e = by (fits g f) (boot_status_at g f.boot) (update_status_at g f.update) refl refl e
    where
      by : (t : Bool) (bs : Answer BootStatus) (us : Answer UpdateStatus) → boot_status_at g f.boot ≡ bs → update_status_at g f.update ≡ us
          → cond t (with_statuses bs us rest) (refused 1 0) ≡ refused n p → Listed Number n p
      by true (gives b) (gives u) e₁ e₂ h = later b u n p h
      by true (gives b) (refused n' p') e₁ e₂ h = let q = update_refused (status_byte g f.update) n' p' e₂ in listed Number ten (cc) (cc)
      by true (refused n' p') us e₁ e₂ h = let q = boot_refused (status_byte g f.boot) n' p' e₁ in listed Number ten (cc) (cc)
      by false bs us e₁ e₂ h = listed Number one (cc) (cc)

-- ---- a command, by what its checks answer

module _ (g : Geometry) (os : List Operation) (f : Flash) where
  command_gives : (n : ℕ) (a : Answer (Unit {0})) → (command g os a f).answer ≡ gives n → a ≡ gives tt
  command_gives n (gives t) e = refl
  command_gives n (refused m p) e = absurd (let z : ◌≡◌ {A = ℕ} 0 1 = cc in omega arith)

  command_refused : (Number : ℕ → Type 0) (n p : ℕ) (a : Answer (Unit {0})) → (a ≡ refused n p → Listed Number n p) → (command g os a f).answer ≡ refused n p
      → RefusedAs Number n p f (command g os a f)
  command_refused Number n p (gives t) h e = absurd (let z : ◌≡◌ {A = ℕ} 0 1 = cc in omega arith)
  command_refused Number n p (refused m q) h e = let l = h (let z : m ≡ n = cc in let y : q ≡ p = cc in rw (z, y) refl) in record { number = l.number; place = l.place; same = refl }

-- ---- arm

module _ (g : Geometry) (f : Flash) where
  arm_by : {a : Answer (Unit {0})} → checked g f may_arm ≡ a → arm_command g f ≡ command g arm_operations a f
  unfolding arm_command
  arm_by e = ap (λ (a : Answer (Unit {0})). command g arm_operations a f) e

  arm_done_lem : (b : BootStatus) (u : UpdateStatus) (v : Flags) → Reads g f b u v → TimeToArm b u
      → arm_command g f ≡ done_with 2 (perform g (WriteUpdateStatus Updating) (perform g EraseUpdateTrailer f))
  arm_done_lem b u v r t = arm_by (by_reads g f may_arm r ∙ arm_in_time b u t)

  armable : Passed g f may_arm → Armable g f
  armable k = by k.boot k.update k.reads k.granted
    where
      by : (b : BootStatus) (u : UpdateStatus) → Reads g f b u (flags_at g f.update) → may_arm b u ≡ gives tt → Armable g f
      by BootNew UpdateNew r e = record { boot = BootNew; update = UpdateNew; flags = flags_at g f.update; reads = r; time = over_new }
      by Success UpdateNew r e = record { boot = Success; update = UpdateNew; flags = flags_at g f.update; reads = r; time = over_success }
      by Testing UpdateNew r e = absurd (let z : ◌≡◌ {A = ℕ} 0 1 = cc in omega arith)
      by BootNew Updating r e = absurd (let z : ◌≡◌ {A = ℕ} 0 1 = cc in omega arith)
      by Success Updating r e = absurd (let z : ◌≡◌ {A = ℕ} 0 1 = cc in omega arith)
      by Testing Updating r e = absurd (let z : ◌≡◌ {A = ℕ} 0 1 = cc in omega arith)

  arm_only_then_lem : (n : ℕ) → (arm_command g f).answer ≡ gives n → Armable g f
  unfolding arm_command
  arm_only_then_lem n e = armable (passed g f may_arm (command_gives g arm_operations f n (checked g f may_arm) e))

  arm_reads_lem : (b : BootStatus) (u : UpdateStatus) (v : Flags) → Reads g f b u v → TimeToArm b u → Reads g (arm_command g f).flash b Updating AllF
  arm_reads_lem b u v r t = subst (λ (c : Command). Reads g c.flash b Updating AllF) (sym (arm_done_lem b u v r t)) left
    where
      s : Shaped g f
      s = shaped_of g f r.fit

      f₁ : Flash
      f₁ = perform g EraseUpdateTrailer f

      s₁ : Shaped g f₁
      s₁ = put_shaped g s.limits Update (firmware g) (erased g.size) f (omega arith) (length_erased g.size) s

      left : Reads g (perform g (WriteUpdateStatus Updating) f₁) b Updating AllF
      left = record {
        fit = shaped_fits g (perform g (WriteUpdateStatus Updating) f₁) (record {
          limits = s.limits;
          boot = s.boot;
          update = length_status g s.limits f₁.update s₁.update (update_byte Updating) ∙ s₁.update;
          swap = s.swap;
        });
        boot = r.boot;
        update = update_written g s.limits f₁.update s₁.update Updating;
        flags = flags_status g s.limits f₁.update s₁.update (update_byte Updating) ∙ flags_erased g s.limits f.update s.update;
      }

  arm_later : (b : BootStatus) (u : UpdateStatus) (n p : ℕ) → may_arm b u ≡ refused n p → Listed ArmNumber n p
  arm_later BootNew UpdateNew n p e = absurd (let z : ◌≡◌ {A = ℕ} 0 1 = cc in omega arith)
  arm_later Success UpdateNew n p e = absurd (let z : ◌≡◌ {A = ℕ} 0 1 = cc in omega arith)
  arm_later Testing UpdateNew n p e = listed ArmNumber wrong_time (cc) (cc)
  arm_later BootNew Updating n p e = listed ArmNumber wrong_time (cc) (cc)
  arm_later Success Updating n p e = listed ArmNumber wrong_time (cc) (cc)
  arm_later Testing Updating n p e = listed ArmNumber wrong_time (cc) (cc)

  arm_refused_lem : (n p : ℕ) → (arm_command g f).answer ≡ refused n p → RefusedAs ArmNumber n p f (arm_command g f)
  unfolding arm_command
  arm_refused_lem n p e =
      command_refused g arm_operations f ArmNumber n p (checked g f may_arm) (not_passed g f may_arm ArmNumber outside_rules status_not_allowed arm_later n p) e

-- ---- confirm

module _ (g : Geometry) (f : Flash) where
  confirm_by : {a : Answer (Unit {0})} → checked g f (may_confirm (flags_at g f.update)) ≡ a → confirm_command g f ≡ command g confirm_operations a f
  unfolding confirm_command
  confirm_by e = ap (λ (a : Answer (Unit {0})). command g confirm_operations a f) e

  confirm_by_reads : {a : Answer (Unit {0})} (b : BootStatus) (u : UpdateStatus) (v : Flags) → Reads g f b u v → may_confirm v b u ≡ a
      → confirm_command g f ≡ command g confirm_operations a f
  confirm_by_reads b u v r e =
      confirm_by (by_reads g f (may_confirm (flags_at g f.update)) r ∙ ap (λ (x : Flags). may_confirm x b u) r.flags ∙ e)

  confirm_done_lem : Reads g f Testing UpdateNew AllF → confirm_command g f ≡ done_with 1 (perform g (WriteBootStatus Success) f)
  confirm_done_lem r = confirm_by_reads Testing UpdateNew AllF r confirm_in_time

  confirmable : Passed g f (may_confirm (flags_at g f.update)) → Reads g f Testing UpdateNew AllF
  confirmable k = by k.boot k.update (flags_at g f.update) k.reads k.granted
    where
      by : (b : BootStatus) (u : UpdateStatus) (v : Flags) → Reads g f b u v → may_confirm v b u ≡ gives tt → Reads g f Testing UpdateNew AllF
      by Testing UpdateNew AllF r e = r
      by Testing UpdateNew Malformed r e = absurd (let z : ◌≡◌ {A = ℕ} 0 1 = cc in omega arith)
      by Testing UpdateNew (At i leg) r e = absurd (let z : ◌≡◌ {A = ℕ} 0 1 = cc in omega arith)
      by Testing UpdateNew All0 r e = absurd (let z : ◌≡◌ {A = ℕ} 0 1 = cc in omega arith)
      by BootNew UpdateNew v r e = absurd (let z : ◌≡◌ {A = ℕ} 0 1 = cc in omega arith)
      by Success UpdateNew v r e = absurd (let z : ◌≡◌ {A = ℕ} 0 1 = cc in omega arith)
      by BootNew Updating v r e = absurd (let z : ◌≡◌ {A = ℕ} 0 1 = cc in omega arith)
      by Success Updating v r e = absurd (let z : ◌≡◌ {A = ℕ} 0 1 = cc in omega arith)
      by Testing Updating v r e = absurd (let z : ◌≡◌ {A = ℕ} 0 1 = cc in omega arith)

  confirm_only_then_lem : (n : ℕ) → (confirm_command g f).answer ≡ gives n → Reads g f Testing UpdateNew AllF
  unfolding confirm_command
  confirm_only_then_lem n e =
      confirmable (passed g f (may_confirm (flags_at g f.update)) (command_gives g confirm_operations f n (checked g f (may_confirm (flags_at g f.update))) e))

  confirm_reads_lem : Reads g f Testing UpdateNew AllF → Reads g (confirm_command g f).flash Success UpdateNew AllF
  confirm_reads_lem r = subst (λ (c : Command). Reads g c.flash Success UpdateNew AllF) (sym (confirm_done_lem r)) left
    where
      s : Shaped g f
      s = shaped_of g f r.fit

      left : Reads g (perform g (WriteBootStatus Success) f) Success UpdateNew AllF
      left = record {
        fit = shaped_fits g (perform g (WriteBootStatus Success) f) (record {
          limits = s.limits;
          boot = length_status g s.limits f.boot s.boot (boot_byte Success) ∙ s.boot;
          update = s.update;
          swap = s.swap;
        });
        boot = boot_written g s.limits f.boot s.boot Success;
        update = r.update;
        flags = r.flags;
      }

  flags_later : (v : Flags) (n p : ℕ) → confirm_flags v ≡ refused n p → Listed ConfirmNumber n p
  flags_later Malformed n p e = listed ConfirmNumber flags_not_well_formed (cc) (cc)
  flags_later AllF n p e = absurd (let z : ◌≡◌ {A = ℕ} 0 1 = cc in omega arith)
  flags_later (At i leg) n p e = listed ConfirmNumber (as_arm wrong_time) (cc) (cc)
  flags_later All0 n p e = listed ConfirmNumber (as_arm wrong_time) (cc) (cc)

  confirm_later : (v : Flags) (b : BootStatus) (u : UpdateStatus) (n p : ℕ) → may_confirm v b u ≡ refused n p → Listed ConfirmNumber n p
  confirm_later v Testing UpdateNew n p e = flags_later v n p e
  confirm_later v BootNew UpdateNew n p e = listed ConfirmNumber (as_arm wrong_time) (cc) (cc)
  confirm_later v Success UpdateNew n p e = listed ConfirmNumber (as_arm wrong_time) (cc) (cc)
  confirm_later v BootNew Updating n p e = listed ConfirmNumber (as_arm wrong_time) (cc) (cc)
  confirm_later v Success Updating n p e = listed ConfirmNumber (as_arm wrong_time) (cc) (cc)
  confirm_later v Testing Updating n p e = listed ConfirmNumber (as_arm wrong_time) (cc) (cc)

  confirm_refused_lem : (n p : ℕ) → (confirm_command g f).answer ≡ refused n p → RefusedAs ConfirmNumber n p f (confirm_command g f)
  unfolding confirm_command
  confirm_refused_lem n p e =
      command_refused g confirm_operations f ConfirmNumber n p (checked g f (may_confirm (flags_at g f.update)))
      (not_passed g f (may_confirm (flags_at g f.update)) ConfirmNumber (as_arm outside_rules) (as_arm status_not_allowed) (confirm_later (flags_at g f.update)) n p) e

-- ---- all of it

pub commands_ruled_out : CommandsRuledOut
commands_ruled_out = record {
  arm_done = arm_done_lem;
  arm_only_then = arm_only_then_lem;
  arm_wrong_time = λ g f b u v r t. arm_by g f (by_reads g f may_arm r ∙ arm_wrong_time_lem b u t);
  arm_reads = arm_reads_lem;
  confirm_done = confirm_done_lem;
  confirm_only_then = confirm_only_then_lem;
  confirm_malformed = λ g f r. confirm_by_reads g f Testing UpdateNew Malformed r confirm_malformed_lem;
  confirm_under_way = λ g f v r h k. confirm_by_reads g f Testing UpdateNew v r (confirm_under_way_lem v h k);
  confirm_wrong_time = λ g f b u v r t. confirm_by_reads g f b u v r (confirm_wrong_time_lem v b u t);
  confirm_reads = confirm_reads_lem;
  arm_outside = λ g f e. arm_by g f (by_outside g f may_arm e);
  confirm_outside = λ g f e. confirm_by g f (by_outside g f (may_confirm (flags_at g f.update)) e);
  arm_boot = λ g f n p e h. arm_by g f (by_boot g f may_arm n p e h);
  arm_update = λ g f n p e h. arm_by g f (by_update g f may_arm n p e h);
  confirm_boot = λ g f n p e h. confirm_by g f (by_boot g f (may_confirm (flags_at g f.update)) n p e h);
  confirm_update = λ g f n p e h. confirm_by g f (by_update g f (may_confirm (flags_at g f.update)) n p e h);
  arm_refused = arm_refused_lem;
  confirm_refused = confirm_refused_lem;
}

-- ---- the witnesses

pub commands_met : CommandsMet
unfolding fits partition_fits within_limits firmware status_byte boot_status_of update_status_of flags_at flags_shown flags flags_from flag_at flag_byte half flag_of all_f past_zeros
commands_met = record {
  arm = record { fit = refl; boot = refl; update = refl; flags = refl };
  confirm = record { fit = refl; boot = refl; update = refl; flags = refl };
  malformed = record { fit = refl; boot = refl; update = refl; flags = refl };
  under_way = record { fit = refl; boot = refl; update = refl; flags = refl };
}
