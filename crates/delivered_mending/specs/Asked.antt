-- Document 02, "Mend lost flags", of the delivered call: what a call of `mend` gives that gave what its contract says (`MendDelivers`). The
-- image check is the delivered one, `check_of`; the rules of marks and old images are those of `mending`.
use Rattle.std.specs.Prelude.{◌≡◌, ◌↔◌, true, false, List, ℕ, Err}
use Rattle.numbers.specs.Answer.{gives}
use Rattle.numbers.specs.declared.MendRefusal.{MendRefusal}
use Rattle.numbers.specs.declared.MendRefusal.TheVariants.{OutsideRules, StatusNotAllowed, WrongTime, NoMarkFits}
use Rattle.flash.specs.declared.Geometry.{Geometry}
use Rattle.flash.specs.Sizes.{geometry, firmware, partition_size}
use Rattle.flash.specs.Buffers.{Flash, flash, fits}
use Rattle.flash_status.specs.declared.BootStatus.{BootStatus}
use Rattle.flash_status.specs.declared.UpdateStatus.{UpdateStatus}
use Rattle.flash_status.specs.StatusBytes.{boot_status_at, update_status_at}
use Rattle.exchange.specs.Demand.{update, Underway}
use Rattle.exchange.specs.RuledOut.{StatusBad}
use Rattle.image.specs.Verdict.{check_of}
use Rattle.mending.specs.declared.Mark.{Mark}
use Rattle.mending.specs.Marks.{Among}
use Rattle.mending.specs.OldImages.{Fits}
use Rattle.mending.specs.Mended.{MayMend, FirstToFit, NoneFits, OnlyFlags, bytes_differing, ButFlags, mark_of}
use Rattle.mend.specs.Delivered.{MendAnswer, mended_with, mend_of, MendDelivers}

-- The flash after a call that was lent f and left UPDATE's bytes u: BOOT and SWAP are lent for reading.
abbrev pub left_by : Flash → List ℕ → Flash
left_by f u = flash f.boot u f.swap

-- "14 for another status pair": both status bytes are allowed where they stand, but they are not UPDATE's UPDATING beside BOOT's NEW or SUCCESS.
pub record OtherPair (g : Geometry) (f : Flash) : Type 0 where
  pub fit : fits g f ≡ true
  pub boot_is : BootStatus
  pub update_is : UpdateStatus
  pub read_boot : boot_status_at g f.boot ≡ gives boot_is
  pub read_update : update_status_at g f.update ≡ gives update_is
  pub other : ¬ Underway update boot_is update_is

-- "The tool writes the flags of the first fitting mark and answers with that mark and how many flag bytes now differ from before; an unused half
-- byte stays. Nothing else is touched." f' is the flash afterwards.
pub record MarkWritten (g : Geometry) (f : Flash) (k : Mark) (bytes : ℕ) (f' : Flash) : Type 0 where
  -- "while UPDATE still says UPDATING and BOOT is NEW or SUCCESS"
  pub may : MayMend g f
  -- k fits, and no mark before it does
  pub first : FirstToFit check_of g f k
  -- the flags read as those of k; no other byte is changed, and no unused half byte
  pub flags : OnlyFlags g f f' k
  -- of all bytes of UPDATE, so many differ
  pub counted : bytes ≡ bytes_differing f.update f'.update (partition_size g)

-- All that the request says of one call, which was lent the flash f, answered so and left UPDATE's bytes u.
pub record MendsAsAsked (g : Geometry) (f : Flash) (answer : MendAnswer) (u : List ℕ) : Type 0 where
  -- an answer with a mark
  pub written : (k : Mark) (bytes : ℕ) → answer ≡ mended_with k bytes → MarkWritten g f k bytes (left_by f u)
  -- it comes wherever some mark fits
  pub where_one_fits : MayMend g f → (j : Mark) → Among (firmware g) j → Fits check_of g f j → (k : Mark) × (bytes : ℕ) × (answer ≡ mended_with k bytes)
  -- "Refusals: 1, 10, 14 for another status pair": each one exactly there
  pub one : (answer ≡ Err OutsideRules) ↔ (fits g f ≡ false)
  pub ten : (answer ≡ Err StatusNotAllowed) ↔ ((fits g f ≡ true) × StatusBad g f)
  pub fourteen : (answer ≡ Err WrongTime) ↔ OtherPair g f
  -- "then new 17, exactly if no mark fits"
  pub seventeen : (answer ≡ Err NoMarkFits) ↔ (MayMend g f × NoneFits check_of g f)
  -- a refusal changes no byte
  pub unchanged : (r : MendRefusal) → answer ≡ Err r → u ≡ f.update

-- For every call: any numbers of sectors and of bytes, any flash.
abbrev pub EveryCallAsAsked : Type 0
EveryCallAsAsked =
    (n s : ℕ) (f : Flash) (answer : MendAnswer) (u : List ℕ) → MendDelivers n s f answer u → MendsAsAsked (geometry n s) f answer u

-- The flags are not looked at: two calls on flashes that differ in their flag bytes alone give the same mark, or the same refusal.
abbrev pub FlagsHaveNoSay : Type 0
FlagsHaveNoSay =
    (n s : ℕ) (f f' : Flash) → ButFlags (geometry n s) f f' → (a a' : MendAnswer) (u u' : List ℕ) → MendDelivers n s f a u → MendDelivers n s f' a' u'
    → mark_of (mend_of a') ≡ mark_of (mend_of a)

-- What one call has mended, another finds mended: the same mark, no byte that differs, none that changes.
abbrev pub MendedOnce : Type 0
MendedOnce =
    (n s : ℕ) (f : Flash) (k : Mark) (bytes : ℕ) (u : List ℕ) → MendDelivers n s f (mended_with k bytes) u → (a : MendAnswer) (u' : List ℕ)
    → MendDelivers n s (left_by f u) a u' → (a ≡ mended_with k 0) × (u' ≡ u)
