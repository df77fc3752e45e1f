-- What is claimed of mending, for every image check. Each statement is proved in proofs/.
use Rattle.std.specs.Prelude.{◌≡◌, ◌≢◌, ◌↔◌, ◌⊎◌, true, false, List, ℕ, zero, suc, ◌+◌, ◌*◌, ◌≤◌, ◌<◌, length, get_or, Some}
use Rattle.numbers.specs.Answer.{Answer, gives, refused, then}
use Rattle.flash.specs.declared.Geometry.{Geometry}
use Rattle.flash.specs.Sizes.{firmware, partition_size}
use Rattle.flash.specs.Sectors.{sector_number}
use Rattle.flash.specs.Buffers.{Flash, fits, Shaped}
use Rattle.flash_status.specs.declared.BootStatus.{BootStatus}
use Rattle.flash_status.specs.declared.UpdateStatus.{UpdateStatus}
use Rattle.flash_status.specs.declared.UpdateStatus.TheVariants.{Updating}
use Rattle.flash_status.specs.StatusBytes.{boot_status_at, update_status_at}
use Rattle.flash_flags.specs.declared.Flag.TheVariants.{Untouched, Exchanged}
use Rattle.flash_flags.specs.declared.Leg.TheVariants.{UpdateToSwap}
use Rattle.flash_flags.specs.SectorFlags.{flag_rank, flag_byte, half, flag_at}
use Rattle.exchange.specs.declared.Area.TheVariants.{Boot, Update}
use Rattle.exchange.specs.Operations.{get, old_boot_in, old_update_in}
use Rattle.exchange.specs.Decision.{Check}
use Rattle.exchange.specs.PowerUp.{power_up}
use Rattle.exchange.specs.Demand.{update, Underway, Finished, Starts, Ongoing, ReadsFirmware, Event, Allowed, left, flash_after, Safe}
use Rattle.exchange.specs.RuledOut.{StatusBad}
use Rattle.exchange.specs.CommandsRuledOut.{ArmNumber}
use Rattle.mending.specs.declared.Mark.{Mark}
use Rattle.mending.specs.declared.Mark.TheVariants.{At}
use Rattle.mending.specs.Marks.{Among, flag_under, moves_of, marks, sector_named, flag_named}
use Rattle.mending.specs.OldImages.{old_flash, Fits}
use Rattle.mending.specs.Mending.{differs, Given, given, mending}

-- ---- the marks

-- The order of the list of marks, from outside: a mark with a moves behind it stands at place a; there are three for each firmware sector,
-- and one more.
pub record MarksInOrder : Type 0 where
  pub how_many : (m : ℕ) → length (marks m) ≡ 3 * m + 1
  pub each : (m : ℕ) (k : Mark) → Among m k → get_or (marks m) (moves_of m k) (At (sector_number m) UpdateToSwap) ≡ k

-- A mark's name, in document 02's words: 0 before the sector that is named; there the flag that is named, which is F, 7 or 3; F after it. Only
-- all 0 has no such sector, and is named m and 0. So no two marks have the same name.
pub record NamesTell (m : ℕ) (k : Mark) : Type 0 where
  pub before : (i : ℕ) → i < sector_named m k → flag_under k i ≡ Exchanged
  pub there : sector_named m k < m → (flag_under k (sector_named m k) ≡ flag_named k) × (flag_named k ≢ Exchanged)
  pub behind : (i : ℕ) → sector_named m k < i → i < m → flag_under k i ≡ Untouched
  pub none : m ≤ sector_named m k → (sector_named m k ≡ m) × (flag_named k ≡ Exchanged)

abbrev pub NamesTellAll : Type 0
NamesTellAll = (m : ℕ) (k : Mark) → Among m k → NamesTell m k

-- "ordered by sector, then F, 7, 3, with all 0 last": the mark j comes before k.
abbrev pub Before : ℕ → Mark → Mark → Type 0
Before m j k =
    (sector_named m j < sector_named m k) ⊎ ((sector_named m j ≡ sector_named m k) × (flag_rank (flag_named j) < flag_rank (flag_named k)))

-- "every move that the mended flags have behind them": those of the first n sectors' flags under a mark.
unfoldable pub moves_behind : Mark → ℕ → ℕ
moves_behind k zero = 0
moves_behind k (suc n) = moves_behind k n + flag_rank (flag_under k n)

abbrev pub MovesOfFlags : Type 0
MovesOfFlags = (m : ℕ) (k : Mark) → Among m k → moves_of m k ≡ moves_behind k m

-- ---- the old images

-- The old images are those of 01's table of places: each firmware sector stands where the table has it for the mark's flag.
pub record ShownByTable (g : Geometry) (k : Mark) (f : Flash) : Type 0 where
  pub shaped : Shaped g (old_flash g k f)
  pub boot : (i : ℕ) → i < firmware g → get g Boot i (old_flash g k f) ≡ get g (old_boot_in (flag_under k i)) i f
  pub update : (i : ℕ) → i < firmware g → get g Update i (old_flash g k f) ≡ get g (old_update_in (flag_under k i)) i f

abbrev pub ShownByTables : Type 0
ShownByTables = (g : Geometry) (k : Mark) (f : Flash) → Shaped g f → ShownByTable g k f

-- ---- which mark, and which refusal

-- Where nothing is refused before the marks are looked at: lengths within the rules, UPDATE UPDATING, and BOOT NEW or SUCCESS.
pub record MayMend (g : Geometry) (f : Flash) : Type 0 where
  pub fit : fits g f ≡ true
  pub boot : BootStatus
  pub statuses : Underway update boot Updating
  pub read_boot : boot_status_at g f.boot ≡ gives boot
  pub read_update : update_status_at g f.update ≡ gives Updating

-- The mark k fits, and no mark before it does.
pub record FirstToFit (check : Check) (g : Geometry) (f : Flash) (k : Mark) : Type 0 where
  pub among : Among (firmware g) k
  pub fit : Fits check g f k
  pub first : (j : Mark) → Among (firmware g) j → Before (firmware g) j k → ¬ Fits check g f j

-- The mark that is given is the first that fits.
abbrev pub GivesFirst : Type 0
GivesFirst =
    (check : Check) (g : Geometry) (f : Flash) (k : Mark) (n : ℕ) → (mending check g f).answer ≡ gives (given k n)
    → MayMend g f × FirstToFit check g f k

-- Where nothing is refused before and some mark fits, a mark is given.
abbrev pub GivesIfFits : Type 0
GivesIfFits =
    (check : Check) (g : Geometry) (f : Flash) (j : Mark) → MayMend g f → Among (firmware g) j → Fits check g f j
    → (r : Given) × ((mending check g f).answer ≡ gives r)

abbrev pub NoneFits : Check → Geometry → Flash → Type 0
NoneFits check g f = (j : Mark) → Among (firmware g) j → ¬ Fits check g f j

-- "17, exactly if no mark fits".
abbrev pub SeventeenIfNone : Type 0
SeventeenIfNone = (check : Check) (g : Geometry) (f : Flash) → ((mending check g f).answer ≡ refused 17 0) ↔ (MayMend g f × NoneFits check g f)

-- The other refusals, in their order, whatever the marks are: 1 for lengths outside the rules; then 10 for a status byte that is not
-- allowed there; then 14 for another status pair.
pub record MendRefusedFirst (check : Check) (g : Geometry) (f : Flash) : Type 0 where
  pub outside : fits g f ≡ false → (mending check g f).answer ≡ refused 1 0
  pub status : fits g f ≡ true → StatusBad g f → (mending check g f).answer ≡ refused 10 0
  pub pair : fits g f ≡ true → (b : BootStatus) (u : UpdateStatus) → boot_status_at g f.boot ≡ gives b → update_status_at g f.update ≡ gives u
      → ¬ Underway update b u → (mending check g f).answer ≡ refused 14 0

abbrev pub RefusesInOrder : Type 0
RefusesInOrder = (check : Check) (g : Geometry) (f : Flash) → MendRefusedFirst check g f

-- The numbers that mending gives: those of arm, which are 1, 10 and 14, and 17. The flags are not looked at, so 11 is none of them.
pub data MendNumber : ℕ → Type 0 where
  as_arm : {n : ℕ} → ArmNumber n → MendNumber n
  no_mark_fits : MendNumber 17

-- A refusal has one of these numbers and place 0, and changes nothing.
abbrev pub RefusesWith : Type 0
RefusesWith =
    (check : Check) (g : Geometry) (f : Flash) (n p : ℕ) → (mending check g f).answer ≡ refused n p
    → MendNumber n × (p ≡ 0) × ((mending check g f).flash ≡ f)

-- ---- what is touched

-- All but the flag bytes is the same: BOOT, SWAP, and every other byte of UPDATE.
pub record ButFlags (g : Geometry) (f f' : Flash) : Type 0 where
  pub boot : f'.boot ≡ f.boot
  pub swap : f'.swap ≡ f.swap
  pub same_length : length f'.update ≡ length f.update
  pub elsewhere : (p : ℕ) → ((i : ℕ) → i < firmware g → p ≢ flag_byte g i) → get_or f'.update p 0 ≡ get_or f.update p 0

-- The flags of a flash read as those of a mark.
abbrev pub ReadAs : Geometry → Flash → Mark → Type 0
ReadAs g f k = (i : ℕ) → i < firmware g → flag_at g f.update i ≡ Some (flag_under k i)

-- The flags read as those of the mark; nothing else is touched, and for odd m the unused half byte, which would be sector m's, stays.
pub record OnlyFlags (g : Geometry) (f f' : Flash) (k : Mark) : Type 0 where
  pub written : ReadAs g f' k
  pub rest : ButFlags g f f'
  pub unused : half (firmware g) (get_or f'.update (flag_byte g (firmware g)) 0) ≡ half (firmware g) (get_or f.update (flag_byte g (firmware g)) 0)

abbrev pub WritesFlags : Type 0
WritesFlags =
    (check : Check) (g : Geometry) (f : Flash) (k : Mark) (n : ℕ) → (mending check g f).answer ≡ gives (given k n)
    → OnlyFlags g f (mending check g f).flash k

-- A byte that is the same is not counted, and another one is counted once.
pub record DiffersTells : Type 0 where
  pub same : (a : ℕ) → differs a a ≡ 0
  pub other : (a b : ℕ) → a ≢ b → differs a b ≡ 1

-- The number that is given is that of all bytes of UPDATE which differ; here of the first n.
unfoldable pub bytes_differing : List ℕ → List ℕ → ℕ → ℕ
bytes_differing u v zero = 0
bytes_differing u v (suc n) = bytes_differing u v n + differs (get_or u n 0) (get_or v n 0)

abbrev pub CountsBytes : Type 0
CountsBytes =
    (check : Check) (g : Geometry) (f : Flash) (k : Mark) (n : ℕ) → (mending check g f).answer ≡ gives (given k n)
    → n ≡ bytes_differing f.update (mending check g f).flash.update (partition_size g)

-- The mark that an answer has, or its refusal.
abbrev pub mark_of : Answer Given → Answer Mark
mark_of a = then a (λ r. gives r.mark)

-- The flags are not looked at: whatever the flag bytes hold, the same mark is given, or the same refusal.
abbrev pub FlagsNotRead : Type 0
FlagsNotRead =
    (check : Check) (g : Geometry) (f f' : Flash) → ReadsFirmware check g → ButFlags g f f'
    → mark_of (mending check g f').answer ≡ mark_of (mending check g f).answer

-- ---- the mended state

-- The mended flash is an update under way, of the images that the mark shows, with exactly the mark's moves behind it.
abbrev pub MendedOngoing : Type 0
MendedOngoing =
    (check : Check) (g : Geometry) (f : Flash) (k : Mark) (n : ℕ) → ReadsFirmware check g → (mending check g f).answer ≡ gives (given k n)
    → Ongoing check update g (old_flash g k f) (mending check g f).flash (moves_of (firmware g) k)

-- "Demand 3 then holds, its list starting from the mended state, for the images that the mark shows, with 9m three smaller for every
-- move": the moves of the mended flags are behind the list.
abbrev pub MendedSafe : Type 0
MendedSafe =
    (check : Check) (g : Geometry) (f : Flash) (k : Mark) (n : ℕ) → ReadsFirmware check g → (mending check g f).answer ≡ gives (given k n)
    → (es : List Event) → Allowed check update g (mending check g f).flash es
    → Safe check (left check) update g (old_flash g k f) (mending check g f).flash (moves_of (firmware g) k) es

-- A mended flash mends to itself: the same mark, no flag byte that differs, no byte changed.
abbrev pub MendsOnce : Type 0
MendsOnce =
    (check : Check) (g : Geometry) (f : Flash) (k : Mark) (n : ℕ) → ReadsFirmware check g → (mending check g f).answer ≡ gives (given k n)
    → mending check g (mending check g f).flash ≡ record { answer = gives (given k 0); flash = (mending check g f).flash }

-- ---- what is gained, beyond the request

-- A mark is given, and it is no later than the one that the flags showed before they were lost, in the flash `whole`.
pub record GivesMark (check : Check) (g : Geometry) (whole f : Flash) : Type 0 where
  pub gave : Given
  pub answers : (mending check g f).answer ≡ gives gave
  pub lost : Mark
  pub among : Among (firmware g) lost
  pub shown : ReadAs g whole lost
  pub not_later : moves_of (firmware g) gave.mark ≤ moves_of (firmware g) lost

-- An update that was accepted, after any list that 01 allows, before its finish and with BOOT still NEW or SUCCESS: whatever then becomes
-- of its flag bytes, mending finds a mark.
abbrev pub SpoiledMends : Type 0
SpoiledMends =
    (check : Check) (g : Geometry) (f₀ : Flash) (es : List Event) (b : BootStatus) (f : Flash) → ReadsFirmware check g → Starts check update g f₀
    → Allowed check update g f₀ es → ¬ Finished update g (flash_after (left check) f₀ es) → Underway update b Updating
    → boot_status_at g (flash_after (left check) f₀ es).boot ≡ gives b → ButFlags g (flash_after (left check) f₀ es) f
    → GivesMark check g (flash_after (left check) f₀ es) f

-- So it does at every stage of the legs, up to all flags 0: from every start, after 3 a operations, which make a moves.
abbrev pub StagesMend : Type 0
StagesMend =
    (check : Check) (g : Geometry) (f₀ : Flash) (a : ℕ) (f : Flash) → ReadsFirmware check g → Starts check update g f₀ → a ≤ 3 * firmware g
    → ButFlags g (power_up check g f₀ (3 * a)).flash f → GivesMark check g (power_up check g f₀ (3 * a)).flash f
