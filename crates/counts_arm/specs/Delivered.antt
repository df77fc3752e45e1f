-- What the counted arm promises: the rules of `counts`, and the papers' numbers for each case of the code's answers.
use Rattle.std.specs.Prelude.{List, ℕ, Result, Ok, Err}
use Rattle.numbers.specs.Answer.{Answer, gives, refused}
use Rattle.numbers.specs.GivenBack.{command_number, row_number}
use Rattle.flash.specs.Buffers.{Flash}
use Rattle.exchange.specs.Commands.{Command}
use Rattle.counts.specs.Calls.{Counted}
use Rattle.counts_arm.specs.declared.CountedArmRefusal.{CountedArmRefusal}
use Rattle.counts_arm.specs.declared.CountedArmRefusal.TheVariants.{Arm, Counts}
use Rattle.counts_arm.specs.declared.CountedArmAnswer.{CountedArmAnswer}

-- Arm's own refusals, and the two of row and total: none has a place.
abbrev pub refusal_number : CountedArmRefusal → ℕ
refusal_number (Arm r) = command_number r
refusal_number (Counts r) = row_number r

abbrev pub counted_command_of : Result ℕ CountedArmRefusal → Answer ℕ
counted_command_of (Ok n) = gives n
counted_command_of (Err r) = refused (refusal_number r) 0

-- What a counted arm answers and leaves.
abbrev pub counted_commanded : CountedArmAnswer → Flash → List ℕ → Counted Command
counted_commanded a f row = record { own = record { answer = counted_command_of a.answer; flash = f }; row = row; total = a.total }
