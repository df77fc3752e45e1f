-- Document 01's marked cases 1 to 6, as one list and one claim over it, for every flash of three sectors of 256: m = 2, the flag byte
-- is at 766.
use Rattle.std.specs.Prelude.{◌≡◌, Bool, true, false, List, [], ◌∷◌, ℕ, ◌<◌, get_or, Option, Some, None}
use Rattle.numbers.specs.Answer.{gives, Refusal, numbered, number_of}
use Rattle.numbers.specs.Every.{Every}
use Rattle.exchange.specs.Base.{Geometry, BootStatus, Testing, Success, UpdateStatus, UpdateNew as New, Updating, AllF}
use Rattle.exchange.specs.Base.{geometry, Flash, fits, boot_status_at, update_status_at, flags_at}
use Rattle.exchange.specs.Decision.{Check}
use Rattle.exchange.specs.PowerUp.{Outcome, refusal, cut, runs_on_test, runs_fallen_back, power_up}
use Rattle.exchange.specs.Along.{state_after}
use Rattle.exchange.specs.Demand.{Exchange, update, fallback, ReadsFirmware}

-- n = 3 and S = 256.
abbrev pub three : Geometry
three = geometry 3 256

-- The flag byte, which holds both flags.
abbrev pub flag_byte_of : Flash → ℕ
flag_byte_of f = get_or f.update 766 0

-- ---- where a case starts

-- An armed update that is good and newer; BOOT is SUCCESS.
pub record UpdateReady (check : Check) (f : Flash) : Type 0 where
  pub fit : fits three f ≡ true
  pub boot_is : boot_status_at three f.boot ≡ gives Success
  pub update_is : update_status_at three f.update ≡ gives Updating
  pub flags_f : flags_at three f.update ≡ AllF
  pub new_version : ℕ
  pub old_version : ℕ
  pub update_good : check three f.update ≡ gives new_version
  pub boot_good : check three f.boot ≡ gives old_version
  pub newer : old_version < new_version

-- A fallback whose UPDATE is good.
pub record FallbackReady (check : Check) (f : Flash) : Type 0 where
  pub fit : fits three f ≡ true
  pub boot_is : boot_status_at three f.boot ≡ gives Testing
  pub update_is : update_status_at three f.update ≡ gives New
  pub flags_f : flags_at three f.update ≡ AllF
  pub version : ℕ
  pub update_good : check three f.update ≡ gives version

-- By the kind of exchange.
abbrev pub Ready : Exchange → Check → Flash → Type 0
Ready update check f = UpdateReady check f
Ready fallback check f = FallbackReady check f

-- ---- power-ups with these budgets, one after the other, none of them torn

abbrev pub after : Check → Flash → List ℕ → Flash
after check f bs = state_after (λ before b. (power_up check three before b).flash) f bs

unfoldable pub counts : Check → Flash → List ℕ → List ℕ
counts check f [] = []
counts check f (b ∷ bs) = (power_up check three f b).count ∷ counts check (power_up check three f b).flash bs

-- the last one's outcome; o if there is none
unfoldable pub last_outcome : Check → Flash → List ℕ → Outcome → Outcome
last_outcome check f [] o = o
last_outcome check f (b ∷ bs) o = last_outcome check (power_up check three f b).flash bs (power_up check three f b).outcome

-- ---- the kinds of case

-- What is left: the operations that each power-up did, the last outcome, the flag byte where the case names it, and the two statuses.
pub record Leaves : Type 0 where
  pub counted : List ℕ
  pub outcome : Outcome
  pub flag_byte : Option ℕ
  pub boot_status : BootStatus
  pub update_status : UpdateStatus

abbrev pub leaves : List ℕ → Outcome → Option ℕ → BootStatus → UpdateStatus → Leaves
leaves cs o b s u = record { counted = cs; outcome = o; flag_byte = b; boot_status = s; update_status = u }

pub data ExchangeCase : Type 0 where
  -- an exchange, and the budgets of the power-ups from its start on
  power_ups : Exchange → List ℕ → Leaves → ExchangeCase
  -- a flag byte of an update with BOOT SUCCESS, and whether it is refusal 11
  malformed : ℕ → Bool → ExchangeCase

-- The flag byte is the one that the case names, if it names one.
abbrev pub FlagByteIs : Option ℕ → Flash → Type 0
FlagByteIs None f = Unit {0}
FlagByteIs (Some b) f = flag_byte_of f ≡ b

-- Power-ups with the budgets bs, from the flash f on, leave what the case says.
pub record LeavesAs (check : Check) (f : Flash) (bs : List ℕ) (l : Leaves) : Type 0 where
  pub counted : counts check f bs ≡ l.counted
  pub outcome : last_outcome check f bs cut ≡ l.outcome
  pub flag_byte : FlagByteIs l.flag_byte (after check f bs)
  pub boot_status : boot_status_at three (after check f bs).boot ≡ gives l.boot_status
  pub update_status : update_status_at three (after check f bs).update ≡ gives l.update_status

-- Refusal 11, or another outcome than refusal 11.
abbrev pub Is11 : Bool → Outcome → Type 0
Is11 true o = o ≡ refusal (numbered 11 0)
Is11 false o = (r : Refusal) → number_of r ≡ 11 → ¬ (o ≡ refusal r)

-- What a case says, of every flash that it speaks of.
abbrev pub ExchangeCaseHolds : Check → ExchangeCase → Type 0
ExchangeCaseHolds check (power_ups x bs l) = (f : Flash) → Ready x check f → LeavesAs check f bs l
ExchangeCaseHolds check (malformed b r) =
    (f : Flash) (budget : ℕ) → fits three f ≡ true → boot_status_at three f.boot ≡ gives Success → update_status_at three f.update ≡ gives Updating
    → flag_byte_of f ≡ b → Is11 r (power_up check three f budget).outcome

-- ---- the list

-- Case 1: after k operations of the update the flag byte is b.
abbrev pub flag_byte_after : ℕ → ℕ → ExchangeCase
flag_byte_after k b = power_ups update (k ∷ []) (leaves (k ∷ []) cut (Some b) Success Updating)

abbrev pub exchange_cases : List ExchangeCase
exchange_cases =
    -- 1
    flag_byte_after 3 0xF7
    ∷ flag_byte_after 6 0xF3
    ∷ flag_byte_after 9 0xF0
    ∷ flag_byte_after 12 0x70
    ∷ flag_byte_after 15 0x30
    ∷ flag_byte_after 18 0x00
    -- 2
    ∷ power_ups update (20 ∷ []) (leaves (20 ∷ []) cut None Testing Updating)
    ∷ power_ups update (21 ∷ []) (leaves (21 ∷ []) runs_on_test None Testing New)
    -- 3
    ∷ power_ups update (5 ∷ []) (leaves (5 ∷ []) cut None Success Updating)
    ∷ power_ups update (5 ∷ 100 ∷ []) (leaves (5 ∷ 18 ∷ []) runs_on_test None Testing New)
    -- 4
    ∷ power_ups update (2 ∷ 2 ∷ 2 ∷ []) (leaves (2 ∷ 2 ∷ 2 ∷ []) cut (Some 0xFF) Success Updating)
    -- 5
    ∷ power_ups fallback (100 ∷ []) (leaves (19 ∷ []) runs_fallen_back None Success New)
    -- 6
    ∷ malformed 0x7F true
    ∷ malformed 0xF7 false
    ∷ []

-- The cases 1 to 6, for every image check that reads the firmware sectors only.
abbrev pub MarkedExchange : Type 0
MarkedExchange = (check : Check) → ReadsFirmware check three → Every (ExchangeCaseHolds check) exchange_cases
