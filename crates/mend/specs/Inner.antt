-- What the functions of this crate answer.
use Rattle.std.specs.Prelude.{List, ℕ, Result, Ok, Err}
use Rattle.numbers.specs.Answer.{Answer, gives, refused, then}
use Rattle.numbers.specs.declared.MendRefusal.{MendRefusal}
use Rattle.numbers.specs.GivenBack.{mend_number}
use Rattle.flash.specs.declared.Geometry.{Geometry}
use Rattle.flash.specs.Sizes.{firmware}
use Rattle.flash.specs.Buffers.{Flash}
use Rattle.flash_status.specs.StatusBytes.{boot_status_at, update_status_at}
use Rattle.exchange.specs.Commands.{with_statuses}
use Rattle.image.specs.Verdict.{check_of}
use Rattle.mending.specs.declared.Mark.{Mark}
use Rattle.mending.specs.Marks.{marks}
use Rattle.mending.specs.OldImages.{fits_mark}
use Rattle.mending.specs.Mending.{first_fitting, may_mend, Mend, with_mark}

-- what the checks before the marks answer; a refusal is at no place
abbrev pub code_answer : {A : Type 0} → Result A MendRefusal → Answer A
code_answer (Ok a) = gives a
code_answer (Err r) = refused (mend_number r) 0

-- those checks on buffers of the right lengths
abbrev pub permit_at : Geometry → List ℕ → List ℕ → Answer (Unit {0})
permit_at g boot update = with_statuses (boot_status_at g boot) (update_status_at g update) may_mend

-- the first mark that fits
abbrev pub first_mark : Geometry → Flash → Answer Mark
first_mark g f = first_fitting (fits_mark check_of g f) (marks (firmware g))

-- mending where the checks gave leave, or not
abbrev pub mend_after : Geometry → Flash → Answer (Unit {0}) → Mend
mend_after g f p = with_mark g f (then p (λ t. first_mark g f))
