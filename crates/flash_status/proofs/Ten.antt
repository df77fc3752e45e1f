-- A status byte that is not allowed is refusal 10, and no other.
use mathlib.Core.Path.{◌≡◌}
use mathlib.Core.Bool.{Bool, true, false, cond}
use Prim.Native.Nat.{ℕ}
use native.Mathlib.Omega.{arith}
use lib.Dec.{eqb}
use Rattle.numbers.specs.Answer.{Answer, gives, refused}
use Rattle.flash_status.specs.declared.BootStatus.{BootStatus}
use Rattle.flash_status.specs.declared.BootStatus.TheVariants.{New as BootNew, Testing, Success}
use Rattle.flash_status.specs.declared.UpdateStatus.{UpdateStatus}
use Rattle.flash_status.specs.declared.UpdateStatus.TheVariants.{New as UpdateNew, Updating}
use Rattle.flash_status.specs.StatusBytes.{boot_byte, boot_status_of, update_byte, update_status_of}

-- a refusal comes from behind the value that is given
behind : {A : Type 0} (b : Bool) (a : A) (rest : Answer A) (n p : ℕ) → cond b (gives a) rest ≡ refused n p → rest ≡ refused n p
behind true a rest n p e = absurd (let z : ◌≡◌ {A = ℕ} 0 1 = cc in omega arith)
behind false a rest n p e = e

pub boot_refused : (c n p : ℕ) → boot_status_of c ≡ refused n p → ◌≡◌ {A = Answer BootStatus} (refused 10 0) (refused n p)
unfolding boot_status_of
boot_refused c n p e =
    behind (eqb c (boot_byte Success)) Success _ n p (behind (eqb c (boot_byte Testing)) Testing _ n p (behind (eqb c (boot_byte BootNew)) BootNew _ n p e))

pub update_refused : (c n p : ℕ) → update_status_of c ≡ refused n p → ◌≡◌ {A = Answer UpdateStatus} (refused 10 0) (refused n p)
unfolding update_status_of
update_refused c n p e = behind (eqb c (update_byte Updating)) Updating _ n p (behind (eqb c (update_byte UpdateNew)) UpdateNew _ n p e)
