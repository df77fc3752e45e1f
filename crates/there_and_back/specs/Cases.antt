-- There and back is not empty, and its bound is reached: one flash of three sectors of 256, and three lists from its accepted update, played
-- by the rules, with all that they leave.
use Rattle.std.specs.Prelude.{◌≡◌, false, List, [], ◌∷◌, ◌++◌, ℕ, ◌+◌, ◌*◌, get_or, replicate}
use Rattle.numbers.specs.Answer.{gives}
use Rattle.exchange.specs.Base.{geometry, Flash, flash, firmware_of}
use Rattle.exchange.specs.Decision.{Check}
use Rattle.exchange.specs.Cases.{three}
use Rattle.exchange.specs.LostPower.{Torn}
use Rattle.exchange.specs.Demand.{update, Starts, ReadsFirmware, untorn, lost, Event, left, flash_after, completed, early_ends}
use Rattle.there_and_back.specs.Journey.{GivenBack, most_there_and_back, AllowedThrough}

-- A check that takes every image, with its first byte as the version.
abbrev pub first_byte : Check
first_byte g l = gives (get_or (firmware_of g l) 0 0)

-- Version 8 armed over version 7, each sector of firmware with bytes of its own.
abbrev pub partition_of : ℕ → ℕ → ℕ → List ℕ
partition_of first second status = replicate 256 first ++ replicate 256 second ++ replicate 255 0xFF ++ status ∷ []

abbrev pub eight_over_seven : Flash
eight_over_seven = flash (partition_of 7 70 0x00) (partition_of 8 80 0x70) (replicate 256 0)

-- Torn, a sector holds these bytes; a flag, a status or a trailer is not written.
abbrev pub torn : Torn
torn = record { bytes = replicate 256 0x5A; new = false }

-- In each half power is lost in the copy to UPDATE's sector 0, and then in the copy to BOOT's; between them a wrong geometry is refused.
abbrev pub torn_twice : List Event
torn_twice = lost three 100 4 torn ∷ untorn (geometry 3 512) 100 ∷ lost three 100 4 torn ∷ untorn three 100 ∷ []

-- The last one finds the printer at rest.
abbrev pub torn_both_ways : List Event
torn_both_ways = torn_twice ++ torn_twice ++ untorn three 100 ∷ []

-- Nothing disturbs it.
abbrev pub both_ways : List Event
both_ways = untorn three 21 ∷ untorn three 19 ∷ []

-- The most that two early ends can cost: each half is cut after 5 operations.
abbrev pub cut_both_ways : List Event
cut_both_ways = untorn three 5 ∷ untorn three 100 ∷ untorn three 5 ∷ untorn three 100 ∷ []

-- The whole flash at the end. BOOT is as it was, trailer too; of UPDATE's trailer the flag byte is 00 and the status FF.
abbrev pub back_again : Flash
back_again = flash (partition_of 7 70 0x00) (replicate 256 8 ++ replicate 256 80 ++ replicate 254 0xFF ++ 0x00 ∷ 0xFF ∷ []) (replicate 256 70)

-- A list from there to that end: the operations that it takes, and its early ends.
pub record Plays (es : List Event) (operations early : ℕ) : Type 0 where
  pub allowed : AllowedThrough first_byte three eight_over_seven es
  pub leaves : flash_after (left first_byte) eight_over_seven es ≡ back_again
  pub takes : completed (left first_byte) eight_over_seven es ≡ operations
  pub ends : early_ends (left first_byte) eight_over_seven es ≡ early

pub record Played : Type 0 where
  pub reads : ReadsFirmware first_byte three
  pub starts : Starts first_byte update three eight_over_seven
  pub given_back : GivenBack three eight_over_seven back_again
  pub undisturbed : Plays both_ways (most_there_and_back 2) 0
  pub cut_way : Plays cut_both_ways (most_there_and_back 2 + 2 * 2) 2
  pub torn_way : Plays torn_both_ways 44 4
