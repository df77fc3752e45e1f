-- What the counted power-up promises: the rules of `counts` with the delivered image check, and the papers' numbers for each case of the
-- code's answers.
use Rattle.std.specs.Prelude.{◌≡◌, List, ℕ, Result, Ok, Err}
use Rattle.numbers.specs.Answer.{Refusal, numbered}
use Rattle.numbers.specs.GivenBack.{power_up_says, row_number, reason_of}
use Rattle.flash.specs.Sizes.{geometry}
use Rattle.flash.specs.Buffers.{Flash}
use Rattle.exchange.specs.PowerUp as power_up_rules
use Rattle.exchange.specs.PowerUp.{refusal}
use Rattle.image.specs.Verdict.{check_of}
use Rattle.power_up.specs.Delivered.{outcome_of}
use Rattle.counts.specs.Calls.{Counted, counted_power_up}
use Rattle.power_up.specs.declared.Outcome.{Outcome}
use Rattle.counts_power_up.specs.declared.CountedRefusal.{CountedRefusal}
use Rattle.counts_power_up.specs.declared.CountedRefusal.TheVariants.{PowerUp, Counts}
use Rattle.counts_power_up.specs.declared.CountedAnswer.{CountedAnswer}

-- Power-up's own refusals and outcomes, and the two refusals of row and total.
abbrev pub refusal_of : CountedRefusal → Refusal
refusal_of (PowerUp r) = power_up_says r
refusal_of (Counts r) = numbered (row_number r) 0

abbrev pub counted_outcome_of : Result Outcome CountedRefusal → power_up_rules.Outcome
counted_outcome_of (Ok o) = outcome_of (Ok o)
counted_outcome_of (Err r) = refusal (refusal_of r)

-- What a counted power-up answers and leaves: of its answer all but the total is power-up's.
abbrev pub own_part : CountedAnswer → Flash → power_up_rules.PowerUp
own_part a f = record { outcome = counted_outcome_of a.outcome; reason = reason_of a.reason; count = a.count; flash = f }

abbrev pub counted_answered : CountedAnswer → Flash → List ℕ → Counted power_up_rules.PowerUp
counted_answered a f row = record { own = own_part a f; row = row; total = a.total }

-- The contract of `power_up_counted`: asked for this many sectors of this size, lent the flash f and the row, and handed the budget and the
-- total, the call gives this answer and leaves the flash f' and row'. The rules decide all of it.
abbrev pub CountedDelivers : ℕ → ℕ → Flash → ℕ → List ℕ → ℕ → CountedAnswer → Flash → List ℕ → Type 0
CountedDelivers sectors size f budget row total answer f' row' =
    counted_answered answer f' row' ≡ counted_power_up check_of (geometry sectors size) f budget row total
