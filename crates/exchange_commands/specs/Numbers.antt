-- What arm and confirm promise: the rules of `exchange`, and 01's numbers for each case of the code's answers.
use Rattle.std.specs.Prelude.{ℕ, Result, Ok, Err}
use Rattle.numbers.specs.declared.CommandRefusal.{CommandRefusal}
use Rattle.numbers.specs.Answer.{Answer, gives, refused}
use Rattle.flash.specs.Buffers.{Flash}
use Rattle.exchange.specs.Commands.{Command}
use Rattle.numbers.specs.GivenBack.{command_number}

-- A refusal of a command has no place.
abbrev pub command_of : {A : Type 0} → Result A CommandRefusal → Answer A
command_of (Ok a) = gives a
command_of (Err r) = refused (command_number r) 0

-- "Arm" and "Confirm": the number of operations done, or a refusal; and the flash that they leave.
abbrev pub commanded : Result ℕ CommandRefusal → Flash → Command
commanded a f = record { answer = command_of a; flash = f }
