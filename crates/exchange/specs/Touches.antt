-- Document 01, "The flash" and "Power-up": what each single operation leaves, done or torn, and that it touches nothing else. So that the
-- definitions of an operation are held by more than their own words.
use Rattle.std.specs.Prelude.{◌≡◌, ◌≢◌, ◌⊎◌, true, false, List, ℕ, ◌≤◌, ◌<◌, length, get_or, Some}
use Rattle.flash_status.specs.StatusBytes.{status_place}
use Rattle.exchange.specs.Base.{Geometry, BootStatus, UpdateStatus, Flag, Leg}
use Rattle.exchange.specs.Base.{Flash, Shaped, firmware, sector_number, erased, boot_byte, update_byte, flag_byte, half, flag_at}
use Rattle.exchange.specs.declared.Area.{Area}
use Rattle.exchange.specs.declared.Area.TheVariants.{Boot, Update, Swap}
use Rattle.exchange.specs.declared.Operation.{Operation}
use Rattle.exchange.specs.declared.Operation.TheVariants.{Erase, Copy, WriteFlag, EraseBootTrailer, EraseUpdateTrailer, WriteBootStatus, WriteUpdateStatus}
use Rattle.exchange.specs.Operations.{source, target, get, perform}
use Rattle.exchange.specs.LostPower.{Torn, perform_torn}

-- Sector j of the area a is another one than sector i of the area d. SWAP is one sector, whatever its number.
abbrev pub Other : Area → ℕ → Area → ℕ → Type 0
Other d i a j = (d ≢ a) ⊎ ((d ≢ Swap) × (j ≢ i))

-- From f to f': sector i of the area d is x, and every other sector of every area, trailers too, is as it was.
pub record WritesSector (g : Geometry) (f : Flash) (d : Area) (i : ℕ) (x : List ℕ) (f' : Flash) : Type 0 where
  pub shaped : Shaped g f'
  pub there : get g d i f' ≡ x
  pub others : (a : Area) (j : ℕ) → Other d i a j → get g a j f' ≡ get g a j f

-- From f to f': sector i's flag is v, and its half byte alone has changed, of UPDATE. For odd m the half behind the last flag is half m.
pub record WritesFlag (g : Geometry) (f : Flash) (i : ℕ) (v : Flag) (f' : Flash) : Type 0 where
  pub there : flag_at g f'.update i ≡ Some v
  pub halves : (j : ℕ) → j ≤ firmware g → j ≢ i → half j (get_or f'.update (flag_byte g j) 0) ≡ half j (get_or f.update (flag_byte g j) 0)
  pub bytes : (p : ℕ) → p ≢ flag_byte g i → get_or f'.update p 0 ≡ get_or f.update p 0
  pub extent : length f'.update ≡ length f.update
  pub boot : f'.boot ≡ f.boot
  pub swap : f'.swap ≡ f.swap

-- From l to l': the last byte is b, and no other byte has changed.
pub record WritesLast (g : Geometry) (l : List ℕ) (b : ℕ) (l' : List ℕ) : Type 0 where
  pub there : get_or l' (status_place g) 0 ≡ b
  pub bytes : (p : ℕ) → p ≢ status_place g → get_or l' p 0 ≡ get_or l p 0
  pub extent : length l' ≡ length l

-- Torn, these leave the old or the new bytes; the others, an erase of or a copy to a firmware or SWAP sector, any bytes.
abbrev pub AllOrNothing : Operation → Type 0
AllOrNothing (Erase a i) = ⊥
AllOrNothing (Copy leg i) = ⊥
AllOrNothing (WriteFlag i v) = Unit {0}
AllOrNothing EraseBootTrailer = Unit {0}
AllOrNothing EraseUpdateTrailer = Unit {0}
AllOrNothing (WriteBootStatus v) = Unit {0}
AllOrNothing (WriteUpdateStatus v) = Unit {0}

pub record Touches : Type 0 where
  -- an erase sets a sector to FF, a copy writes one sector over another
  pub erases : (g : Geometry) (f : Flash) (a : Area) (i : ℕ) → Shaped g f → i < firmware g → WritesSector g f a i (erased g.size) (perform g (Erase a (sector_number i)) f)
  pub copies : (g : Geometry) (f : Flash) (leg : Leg) (i : ℕ) → Shaped g f → i < firmware g
      → WritesSector g f (target leg) i (get g (source leg) i f) (perform g (Copy leg (sector_number i)) f)
  -- the trailer sectors, whole
  pub boot_trailer : (g : Geometry) (f : Flash) → Shaped g f → WritesSector g f Boot (firmware g) (erased g.size) (perform g EraseBootTrailer f)
  pub update_trailer : (g : Geometry) (f : Flash) → Shaped g f → WritesSector g f Update (firmware g) (erased g.size) (perform g EraseUpdateTrailer f)
  -- a flag, a status byte
  pub flag : (g : Geometry) (f : Flash) (i : ℕ) (v : Flag) → Shaped g f → i < firmware g → WritesFlag g f i v (perform g (WriteFlag (sector_number i) v) f)
  pub boot_status : (g : Geometry) (f : Flash) (v : BootStatus) → Shaped g f → WritesLast g f.boot (boot_byte v) (perform g (WriteBootStatus v) f).boot
  pub update_status : (g : Geometry) (f : Flash) (v : UpdateStatus) → Shaped g f → WritesLast g f.update (update_byte v) (perform g (WriteUpdateStatus v) f).update
  -- torn: any bytes of a sector's length, in that sector
  pub torn_erase : (g : Geometry) (f : Flash) (t : Torn) (a : Area) (i : ℕ) → Shaped g f → i < firmware g → length t.bytes ≡ g.size
      → WritesSector g f a i t.bytes (perform_torn g t (Erase a (sector_number i)) f)
  pub torn_copy : (g : Geometry) (f : Flash) (t : Torn) (leg : Leg) (i : ℕ) → Shaped g f → i < firmware g → length t.bytes ≡ g.size
      → WritesSector g f (target leg) i t.bytes (perform_torn g t (Copy leg (sector_number i)) f)
  -- or all old or all new bytes
  pub torn_new : (g : Geometry) (f : Flash) (t : Torn) (o : Operation) → AllOrNothing o → t.new ≡ true → perform_torn g t o f ≡ perform g o f
  pub torn_old : (g : Geometry) (f : Flash) (t : Torn) (o : Operation) → AllOrNothing o → t.new ≡ false → perform_torn g t o f ≡ f
