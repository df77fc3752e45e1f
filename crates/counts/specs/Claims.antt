-- Document 02, "Erase counts for the service sheet": what is claimed of the row, of the checks and of the counted calls. Each statement is
-- proved in proofs/.
use Rattle.std.specs.Prelude.{◌≡◌, ◌≢◌, true, false, cond, List, [], ◌∷◌, ℕ, suc, ◌+◌, ◌≤◌, ◌<◌, length, get_or, replicate, eqb, Option, Some, None, sum}
use Rattle.numbers.specs.Answer.{Answer, gives, refused, numbered}
use Rattle.numbers.specs.GivenBack.{count_of}
use Rattle.flash.specs.declared.Geometry.{Geometry}
use Rattle.flash.specs.declared.SectorNumber.{SectorNumber}
use Rattle.flash.specs.Sizes.{firmware, Limits}
use Rattle.flash.specs.Sectors.{erased}
use Rattle.flash.specs.Buffers.{Flash, fits}
use Rattle.exchange.specs.declared.Area.{Area}
use Rattle.exchange.specs.declared.Area.TheVariants.{Boot, Update, Swap}
use Rattle.exchange.specs.declared.Operation.{Operation}
use Rattle.exchange.specs.declared.Operation.TheVariants.{Erase, EraseBootTrailer, EraseUpdateTrailer}
use Rattle.exchange.specs.Operations.{put, perform, perform_all}
use Rattle.exchange.specs.Decision.{Check}
use Rattle.exchange.specs.PowerUp.{refusal, idle, power_up, operations_of}
use Rattle.exchange.specs.Commands.{arm_command}
use Rattle.counts.specs.Row.{row_length, row_place, slot, raise}
use Rattle.counts.specs.Calls.{Counted, check_counted, counted_power_up, arm_done, counted_arm}

-- ---- the places

-- Each place stands right behind the one before it: BOOT's sectors from 0 on, UPDATE's behind BOOT's trailer, SWAP behind UPDATE's trailer,
-- and nothing behind SWAP, which has one place only.
pub record InOrder (g : Geometry) : Type 0 where
  pub first : row_place g Boot 0 ≡ 0
  pub next_boot : (i : ℕ) → row_place g Boot (suc i) ≡ suc (row_place g Boot i)
  pub update_behind : row_place g Update 0 ≡ suc (row_place g Boot (firmware g))
  pub next_update : (i : ℕ) → row_place g Update (suc i) ≡ suc (row_place g Update i)
  pub swap_behind : row_place g Swap 0 ≡ suc (row_place g Update (firmware g))
  pub one_swap : (i : ℕ) → row_place g Swap i ≡ row_place g Swap 0
  pub swap_last : row_length g ≡ suc (row_place g Swap 0)

abbrev pub PlacesInOrder : Type 0
PlacesInOrder = (g : Geometry) → Limits g → InOrder g

-- What raises a place is the erase of that place's sector: on every flash it sets the sector to FF, and does nothing else.
pub record Erases (g : Geometry) (o : Operation) (k : ℕ) : Type 0 where
  pub area : Area
  pub sector : ℕ
  pub place : k ≡ row_place g area sector
  pub erases : (f : Flash) → perform g o f ≡ put g area sector (erased g.size) f

abbrev pub RaisedIsErased : Type 0
RaisedIsErased = (g : Geometry) (o : Operation) (k : ℕ) → slot g o ≡ Some k → Erases g o k

-- And each erase raises its sector's place, whatever sector it is.
pub record EachRaises (g : Geometry) : Type 0 where
  pub sector : (a : Area) (i : SectorNumber) → slot g (Erase a i) ≡ Some (row_place g a i.0)
  pub boot_trailer : slot g EraseBootTrailer ≡ Some (row_place g Boot (firmware g))
  pub update_trailer : slot g EraseUpdateTrailer ≡ Some (row_place g Update (firmware g))

abbrev pub ErasedIsRaised : Type 0
ErasedIsRaised = (g : Geometry) → EachRaises g

-- The sum is that of the counts: 0 where all are 0, and one more for each one more at a place.
pub record SumOfCounts : Type 0 where
  pub zeros : (n : ℕ) → sum (replicate n 0) ≡ 0
  pub one_more : (row : List ℕ) (k : ℕ) → k < length row → sum (raise (Some k) row) ≡ suc (sum row)

-- ---- what a call counts

-- How many of some operations raise the place k, and how many raise any.
abbrev pub raises_at : ℕ → Option ℕ → ℕ
raises_at k None = 0
raises_at k (Some j) = cond (eqb j k) 1 0

abbrev pub erases_at : Geometry → ℕ → List Operation → ℕ
erases_at g k [] = 0
erases_at g k (o ∷ os) = raises_at k (slot g o) + erases_at g k os

abbrev pub raises_some : Option ℕ → ℕ
raises_some None = 0
raises_some (Some j) = 1

abbrev pub erases_in : Geometry → List Operation → ℕ
erases_in g [] = 0
erases_in g (o ∷ os) = raises_some (slot g o) + erases_in g os

-- A call found the flash f and this row, did the operations os, and left f' and row': f' is what the operations leave, the count is their
-- number, and each place of the row has one more for each of their erases there. No erase is lost, and nothing else changes the row.
pub record CountsDone (g : Geometry) (f : Flash) (row : List ℕ) (os : List Operation) (f' : Flash) (count : ℕ) (row' : List ℕ) : Type 0 where
  pub left : f' ≡ perform_all g os f
  pub number : count ≡ length os
  pub same_length : length row' ≡ length row
  pub place_by_place : (k : ℕ) → k < length row → get_or row' k 0 ≡ get_or row k 0 + erases_at g k os
  pub all_counted : sum row' ≡ sum row + erases_in g os

-- Where the checks of the row refuse, no operation is done.
abbrev pub where_taken : Answer (Unit {0}) → List Operation → List Operation
where_taken (gives t) os = os
where_taken (refused n p) os = []

-- Each call, whatever it is lent: its operations are those that the uncounted call does.
abbrev pub PowerUpCounts : Type 0
PowerUpCounts =
    (check : Check) (g : Geometry) (f : Flash) (budget : ℕ) (row : List ℕ) (total : ℕ) → let r = counted_power_up check g f budget row total in
    CountsDone g f row (where_taken (check_counted g f row total) (operations_of check g f budget)) r.own.flash r.own.count r.row

abbrev pub ArmCounts : Type 0
ArmCounts =
    (g : Geometry) (f : Flash) (row : List ℕ) (total : ℕ) → let r = counted_arm g f row total in
    CountsDone g f row (where_taken (check_counted g f row total) (arm_done (arm_command g f).answer)) r.own.flash (count_of r.own.answer) r.row

-- ---- no count passes 32 bits

-- In one power-up no place is raised more than m times, whatever the bytes and the budget are.
abbrev pub NoPlaceMoreThanM : Type 0
NoPlaceMoreThanM = (check : Check) (g : Geometry) (f : Flash) (budget k : ℕ) → erases_at g k (operations_of check g f budget) ≤ firmware g

-- Each count of a row has room for m erases: the negation of 20.
abbrev pub RoomForM : Geometry → List ℕ → Type 0
RoomForM g row = (k : ℕ) → k < length row → get_or row k 0 + firmware g ≤ 4294967295

-- So a row of 32-bit counts stays one.
abbrev pub Within32 : List ℕ → Type 0
Within32 row = (k : ℕ) → get_or row k 0 ≤ 4294967295

pub record StaysWithin32 : Type 0 where
  pub power_up : (check : Check) (g : Geometry) (f : Flash) (budget : ℕ) (row : List ℕ) (total : ℕ) → Within32 row
      → Within32 (counted_power_up check g f budget row total).row
  pub arm : (g : Geometry) (f : Flash) (row : List ℕ) (total : ℕ) → Within32 row → Within32 (counted_arm g f row total).row

-- ---- the refusals, in their order

-- A call that is refused with the answer a: row and total go back as they came.
abbrev pub hands_back : {A : Type 0} → A → List ℕ → ℕ → Counted A
hands_back a row total = record { own = a; row = row; total = total }

-- 1, 19 and 20 by what is lent, whatever status bytes, flags and images there are; else the call's own answer, with the sum as the total.
-- `refuse n` is the call's answer for the refusal n, `did` what the uncounted call answers and leaves.
pub record ChecksFirst {A : Type 0} (refuse : ℕ → A) (did : A) (g : Geometry) (f : Flash) (row : List ℕ) (total : ℕ) (r : Counted A) : Type 0 where
  pub outside : fits g f ≡ false → r ≡ hands_back (refuse 1) row total
  pub other_length : length row ≢ row_length g → r ≡ hands_back (refuse 1) row total
  pub total_wrong : fits g f ≡ true → length row ≡ row_length g → sum row ≢ total → r ≡ hands_back (refuse 19) row total
  pub count_too_high : fits g f ≡ true → length row ≡ row_length g → sum row ≡ total → (k : ℕ) → k < length row
      → 4294967295 < get_or row k 0 + firmware g → r ≡ hands_back (refuse 20) row total
  pub else : fits g f ≡ true → length row ≡ row_length g → sum row ≡ total → RoomForM g row
      → (r.own ≡ did) × (r.total ≡ sum r.row)

pub record RefusedInOrder : Type 0 where
  pub power_up : (check : Check) (g : Geometry) (f : Flash) (budget : ℕ) (row : List ℕ) (total : ℕ)
      → ChecksFirst (λ n. idle (refusal (numbered n 0)) f) (power_up check g f budget) g f row total (counted_power_up check g f budget row total)
  pub arm : (g : Geometry) (f : Flash) (row : List ℕ) (total : ℕ)
      → ChecksFirst (λ n. record { answer = refused n 0; flash = f }) (arm_command g f) g f row total (counted_arm g f row total)
