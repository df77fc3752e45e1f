-- Document 02, "Erase counts for the service sheet": the counted calls on three sectors of 256, computed: m = 2, a row of 7. Proved in
-- proofs/.
use Rattle.std.specs.Prelude.{◌≡◌, List, [], ◌∷◌, ℕ, get_or, set}
use Rattle.numbers.specs.Answer.{Answer, gives, refused, numbered}
use Rattle.numbers.specs.Every.{Every}
use Rattle.flash.specs.Sizes.{geometry}
use Rattle.flash.specs.Sectors.{erased}
use Rattle.flash.specs.Buffers.{Flash, flash}
use Rattle.exchange.specs.Decision.{Check}
use Rattle.exchange.specs.PowerUp.{Outcome, refusal, cut, runs, runs_on_test, runs_fallen_back}
use Rattle.counts.specs.Calls.{counted_power_up, counted_arm}

-- An image check that takes every image: its version is its first byte.
abbrev pub first_byte : Check
first_byte g l = gives (get_or l 0 0)

-- BOOT with version 1 and this status byte, UPDATE with version 2 and this one, flags F.
abbrev pub versions12 : ℕ → ℕ → Flash
versions12 b u = flash (set (set (erased 768) 0 1) 767 b) (set (set (erased 768) 0 2) 767 u) (erased 256)

-- An update over SUCCESS; a fallback; at rest; a status byte that BOOT may not hold; and an update of the same version.
abbrev pub ready : Flash
ready = versions12 0x00 0x70

abbrev pub on_test : Flash
on_test = versions12 0x10 0xFF

abbrev pub resting : Flash
resting = versions12 0x00 0xFF

abbrev pub spoiled : Flash
spoiled = versions12 0x70 0x70

abbrev pub not_newer : Flash
not_newer = flash (set (set (erased 768) 0 2) 767 0x00) (set (set (erased 768) 0 2) 767 0x70) (erased 256)

-- ---- power-up

pub record PowerUpCase : Type 0 where
  pub flash : Flash
  pub budget : ℕ
  pub row : List ℕ
  pub total : ℕ
  pub outcome : Outcome
  pub count : ℕ
  pub row_after : List ℕ
  pub total_after : ℕ

abbrev pub with_budget : Flash → ℕ → List ℕ → ℕ → Outcome → ℕ → List ℕ → ℕ → PowerUpCase
with_budget f b row t o n row' t' =
    record { flash = f; budget = b; row = row; total = t; outcome = o; count = n; row_after = row'; total_after = t' }

pub record PowerUpCaseHolds (c : PowerUpCase) : Type 0 where
  pub outcome : (counted_power_up first_byte (geometry 3 256) c.flash c.budget c.row c.total).own.outcome ≡ c.outcome
  pub count : (counted_power_up first_byte (geometry 3 256) c.flash c.budget c.row c.total).own.count ≡ c.count
  pub row : (counted_power_up first_byte (geometry 3 256) c.flash c.budget c.row c.total).row ≡ c.row_after
  pub total : (counted_power_up first_byte (geometry 3 256) c.flash c.budget c.row c.total).total ≡ c.total_after

abbrev pub zeros : List ℕ
zeros = 0 ∷ 0 ∷ 0 ∷ 0 ∷ 0 ∷ 0 ∷ 0 ∷ []

-- as high as a count may be at m = 2, and one higher
abbrev pub full : ℕ → List ℕ
full c = 5 ∷ 0 ∷ 0 ∷ 0 ∷ 0 ∷ 0 ∷ c ∷ []

abbrev pub power_up_cases : List PowerUpCase
power_up_cases =
    -- a whole update erases each sector of BOOT and of UPDATE once, trailers included, and SWAP twice; a fallback no trailer
    with_budget ready 100 zeros 0 runs_on_test 21 (1 ∷ 1 ∷ 1 ∷ 1 ∷ 1 ∷ 1 ∷ 2 ∷ []) 8
    ∷ with_budget on_test 100 zeros 0 runs_fallen_back 19 (1 ∷ 1 ∷ 0 ∷ 1 ∷ 1 ∷ 0 ∷ 2 ∷ []) 6
    -- the fourth operation is the second erase: a budget of three does not count it, a budget of four does
    ∷ with_budget ready 3 zeros 0 cut 3 (0 ∷ 0 ∷ 0 ∷ 0 ∷ 0 ∷ 0 ∷ 1 ∷ []) 1
    ∷ with_budget ready 4 zeros 0 cut 4 (0 ∷ 0 ∷ 0 ∷ 1 ∷ 0 ∷ 0 ∷ 1 ∷ []) 2
    ∷ with_budget ready 0 zeros 0 cut 0 zeros 0
    -- an update that is turned down: the erase of UPDATE's trailer
    ∷ with_budget not_newer 100 zeros 0 runs 1 (0 ∷ 0 ∷ 0 ∷ 0 ∷ 0 ∷ 1 ∷ 0 ∷ []) 1
    -- no operation, and no count
    ∷ with_budget resting 100 zeros 0 runs 0 zeros 0
    -- a row of six; a total that is wrong; both wrong
    ∷ with_budget ready 100 (0 ∷ 0 ∷ 0 ∷ 0 ∷ 0 ∷ 0 ∷ []) 0 (refusal (numbered 1 0)) 0 (0 ∷ 0 ∷ 0 ∷ 0 ∷ 0 ∷ 0 ∷ []) 0
    ∷ with_budget ready 100 zeros 9 (refusal (numbered 19 0)) 0 zeros 9
    ∷ with_budget ready 100 (0 ∷ 0 ∷ 0 ∷ 0 ∷ 0 ∷ 0 ∷ []) 9 (refusal (numbered 1 0)) 0 (0 ∷ 0 ∷ 0 ∷ 0 ∷ 0 ∷ 0 ∷ []) 9
    -- a count as high as may be, which two erases take to 4,294,967,295; and one higher
    ∷ with_budget ready 100 (full 4294967293) 4294967298 runs_on_test 21 (6 ∷ 1 ∷ 1 ∷ 1 ∷ 1 ∷ 1 ∷ 4294967295 ∷ []) 4294967306
    ∷ with_budget ready 100 (full 4294967294) 4294967299 (refusal (numbered 20 0)) 0 (full 4294967294) 4294967299
    -- 10 comes after 19 and 20
    ∷ with_budget spoiled 100 zeros 9 (refusal (numbered 19 0)) 0 zeros 9
    ∷ with_budget spoiled 100 (full 4294967294) 4294967299 (refusal (numbered 20 0)) 0 (full 4294967294) 4294967299
    ∷ with_budget spoiled 100 zeros 0 (refusal (numbered 10 0)) 0 zeros 0
    ∷ []

-- ---- arm

pub record ArmCase : Type 0 where
  pub flash : Flash
  pub row : List ℕ
  pub total : ℕ
  pub answer : Answer ℕ
  pub row_after : List ℕ
  pub total_after : ℕ

abbrev pub arming : Flash → List ℕ → ℕ → Answer ℕ → List ℕ → ℕ → ArmCase
arming f row t a row' t' = record { flash = f; row = row; total = t; answer = a; row_after = row'; total_after = t' }

pub record ArmCaseHolds (c : ArmCase) : Type 0 where
  pub answer : (counted_arm (geometry 3 256) c.flash c.row c.total).own.answer ≡ c.answer
  pub row : (counted_arm (geometry 3 256) c.flash c.row c.total).row ≡ c.row_after
  pub total : (counted_arm (geometry 3 256) c.flash c.row c.total).total ≡ c.total_after

abbrev pub arm_cases : List ArmCase
arm_cases =
    -- the UPDATE trailer is erased
    arming resting zeros 0 (gives 2) (0 ∷ 0 ∷ 0 ∷ 0 ∷ 0 ∷ 1 ∷ 0 ∷ []) 1
    -- the wrong time; before it a total that is wrong, and a count that is too high anywhere in the row
    ∷ arming ready zeros 0 (refused 14 0) zeros 0
    ∷ arming ready zeros 9 (refused 19 0) zeros 9
    ∷ arming resting (full 4294967294) 4294967299 (refused 20 0) (full 4294967294) 4294967299
    ∷ []

pub record CountedCases : Type 0 where
  pub power_ups : Every PowerUpCaseHolds power_up_cases
  pub arms : Every ArmCaseHolds arm_cases
