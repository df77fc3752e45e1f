-- What is next, and what is decided, by what is read of the flash.
use mathlib.Core.Path.{◌≡◌, refl}
use mathlib.Core.Bool.{true}
use Prim.Native.Nat.{ℕ}
use Rattle.numbers.specs.Answer.{gives}
use Rattle.exchange.specs.Base.{Geometry, BootStatus, UpdateStatus, Flags}
use Rattle.exchange.specs.Base.{Flash, fits, boot_status_at, update_status_at, flags_at}
use Rattle.exchange.specs.declared.Job.{Job}
use Rattle.exchange.specs.Order.{ordered, next_operation}
use Rattle.exchange.specs.Decision.{Check, decide_by, decide}

pub next_by_reads : (job : Job) (g : Geometry) (p : ℕ) (f : Flash) (b : BootStatus) (u : UpdateStatus) (v : Flags)
    → boot_status_at g f.boot ≡ gives b → update_status_at g f.update ≡ gives u → flags_at g f.update ≡ v → next_operation job g p f ≡ ordered job p b u v
unfolding next_operation
next_by_reads job g p f b u v e₁ e₂ e₃ = rw (e₁, e₂, e₃) refl

pub decide_by_reads : (check : Check) (g : Geometry) (f : Flash) (b : BootStatus) (u : UpdateStatus) (v : Flags) → fits g f ≡ true
    → boot_status_at g f.boot ≡ gives b → update_status_at g f.update ≡ gives u → flags_at g f.update ≡ v
    → decide check g f ≡ decide_by b u v (check g f.update) (check g f.boot)
unfolding decide
decide_by_reads check g f b u v e e₁ e₂ e₃ = rw (e, e₁, e₂, e₃) refl
