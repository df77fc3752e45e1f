-- Document 02, "Mend lost flags": the mending tool.
use Rattle.std.specs.Prelude.{Bool, cond, List, [], ◌∷◌, ℕ, zero, suc, ◌+◌, ◌*◌, ◌/◌, get_or, eqb}
use Rattle.numbers.specs.Answer.{Answer, gives, refused, then}
use Rattle.flash.specs.declared.Geometry.{Geometry}
use Rattle.flash.specs.Sizes.{firmware}
use Rattle.flash.specs.Buffers.{Flash, flash}
use Rattle.flash_status.specs.declared.BootStatus.{BootStatus}
use Rattle.flash_status.specs.declared.BootStatus.TheVariants.{New as BootNew, Testing, Success}
use Rattle.flash_status.specs.declared.UpdateStatus.{UpdateStatus}
use Rattle.flash_status.specs.declared.UpdateStatus.TheVariants.{New as UpdateNew, Updating}
use Rattle.flash_flags.specs.SectorFlags.{flag_byte, set_flag}
use Rattle.exchange.specs.Decision.{Check}
use Rattle.exchange.specs.Commands.{checked}
use Rattle.mending.specs.declared.Mark.{Mark}
use Rattle.mending.specs.Marks.{flag_under, marks}
use Rattle.mending.specs.OldImages.{fits_mark}

-- "the first fitting mark": of a list of marks, in its order; 17 if none fits.
unfoldable pub first_fitting : (Mark → Bool) → List Mark → Answer Mark
first_fitting fit [] = refused 17 0
first_fitting fit (k ∷ ks) = cond (fit k) (gives k) (first_fitting fit ks)

-- "14 for another status pair": UPDATE has to be UPDATING, and BOOT NEW or SUCCESS.
abbrev pub may_mend : BootStatus → UpdateStatus → Answer (Unit {0})
may_mend BootNew Updating = gives tt
may_mend Success Updating = gives tt
may_mend Testing Updating = refused 14 0
may_mend BootNew UpdateNew = refused 14 0
may_mend Success UpdateNew = refused 14 0
may_mend Testing UpdateNew = refused 14 0

-- "Refusals: 1, 10, 14 .., then new 17": the mark that is found. The flags are not looked at.
unfoldable pub found : Check → Geometry → Flash → Answer Mark
found check g f = then (checked g f may_mend) (λ t. first_fitting (fits_mark check g f) (marks (firmware g)))

-- "writes the flags of the .. mark": UPDATE's bytes u with the flags of the first n sectors set, each in its half byte; and with those of
-- all firmware sectors.
unfoldable pub set_flags_to : Geometry → Mark → ℕ → List ℕ → List ℕ
set_flags_to g k zero u = u
set_flags_to g k (suc n) u = set_flag g n (flag_under k n) (set_flags_to g k n u)

abbrev pub set_flags : Geometry → Mark → List ℕ → List ℕ
set_flags g k u = set_flags_to g k (firmware g) u

-- "how many flag bytes now differ from before": of the first n flag bytes, that of sectors 0 and 1 first; and of all, which are m / 2
-- rounded up. The status byte is none of them.
abbrev pub differs : ℕ → ℕ → ℕ
differs a b = cond (eqb a b) 0 1

unfoldable pub differing : Geometry → List ℕ → List ℕ → ℕ → ℕ
differing g u v zero = 0
differing g u v (suc n) = differing g u v n + differs (get_or u (flag_byte g (2 * n)) 0) (get_or v (flag_byte g (2 * n)) 0)

abbrev pub changed : Geometry → List ℕ → List ℕ → ℕ
changed g u v = differing g u v ((firmware g + 1) / 2)

-- "answers with that mark and how many flag bytes now differ".
pub record Given : Type 0 where
  pub mark : Mark
  pub bytes : ℕ

abbrev pub given : Mark → ℕ → Given
given k n = record { mark = k; bytes = n }

-- What the tool answers, and the flash that it leaves.
pub record Mend : Type 0 where
  pub answer : Answer Given
  pub flash : Flash

-- "Nothing else is touched"; a refusal changes nothing.
abbrev pub with_mark : Geometry → Flash → Answer Mark → Mend
with_mark g f (gives k) =
    record { answer = gives (given k (changed g f.update (set_flags g k f.update))); flash = flash f.boot (set_flags g k f.update) f.swap }
with_mark g f (refused n p) = record { answer = refused n p; flash = f }

-- The mending tool, whole.
unfoldable pub mending : Check → Geometry → Flash → Mend
mending check g f = with_mark g f (found check g f)
