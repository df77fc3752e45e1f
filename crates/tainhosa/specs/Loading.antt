-- What a C caller of `tainhosa_power_up`, `tainhosa_arm`, `tainhosa_confirm`, `tainhosa_mend` and the two counted calls gets.
use Rattle.std.specs.Prelude.{ℕ, ◌-◌, cond, List, [], ◌∷◌, eqb, length}
use Rattle.flash.specs.Sizes.{geometry}
use Rattle.flash.specs.Buffers.{Flash}
use Rattle.exchange.specs.PowerUp.{PowerUp, power_up}
use Rattle.exchange.specs.Commands.{Command, arm_command, confirm_command}
use Rattle.image.specs.Verdict.{check_of}
use Rattle.numbers.specs.GivenBack.{refusal_of, reason_refusal, count_of}
use Rattle.mending.specs.Mending.{Mend, mending}
use Rattle.c_mend.specs.Rows.{mend_row}
use Rattle.c_power_up.specs.Outcomes.{ended_of, power_row}
use Rattle.counts.specs.Calls.{Counted, counted_power_up, counted_arm}
use Rattle.c_counts.specs.Rows.{counted_power_row, counted_arm_row}

-- ---- power-up

-- The answer, and the caller's row and flash as the call returns.
pub record Loaded : Type 0 where
  pub answer : ℕ
  pub row : List ℕ
  pub flash : Flash

-- The call answers r and leaves the row and the flash f.
abbrev pub after_call : ℕ → List ℕ → Flash → Loaded
after_call r row f = record { answer = r; row = row; flash = f }

-- What the library's power-up answers and leaves, in a row of the right length.
abbrev pub powered_up : PowerUp → Loaded
powered_up p =
    after_call (ended_of p.outcome).number (power_row (ended_of p.outcome) p.count (reason_refusal p.reason)) p.flash

-- A row of another length is 1, before anything else; it stays as it was, and so does the flash.
abbrev pub wrong_row : List ℕ → Flash → Loaded
wrong_row row f = after_call 1 row f

-- The row of a power-up has 6 numbers.
abbrev pub power_up_answer : ℕ → ℕ → Flash → ℕ → List ℕ → Loaded
power_up_answer n s f budget row =
    cond (eqb (length row) 6) (powered_up (power_up check_of (geometry n s) f budget)) (wrong_row row f)

-- ---- arm and confirm

-- What the library's arm or confirm answers and leaves: the row is the count, 0 beside a refusal.
abbrev pub obeyed : Command → Loaded
obeyed c = after_call (refusal_of c.answer).number (count_of c.answer ∷ []) c.flash

-- The row of a command has 1 number.
abbrev pub command_answer : Command → Flash → List ℕ → Loaded
command_answer c f row = cond (eqb (length row) 1) (obeyed c) (wrong_row row f)

-- "Arm": asked for n sectors of s bytes, on the flash f.
abbrev pub arm_answer : ℕ → ℕ → Flash → List ℕ → Loaded
arm_answer n s f row = command_answer (arm_command (geometry n s) f) f row

-- "Confirm": asked for n sectors of s bytes, on the flash f.
abbrev pub confirm_answer : ℕ → ℕ → Flash → List ℕ → Loaded
confirm_answer n s f row = command_answer (confirm_command (geometry n s) f) f row

-- ---- mending

-- What the library's mending of n sectors answers and leaves: the row has the mark's sector and flag and the number of bytes that differ.
abbrev pub mended_by : ℕ → Mend → Loaded
mended_by n r = after_call (refusal_of r.answer).number (mend_row (n - 1) r.answer) r.flash

-- "Mend lost flags": asked for n sectors of s bytes, on the flash f. Its row has 3 numbers.
abbrev pub mend_answer : ℕ → ℕ → Flash → List ℕ → Loaded
mend_answer n s f row = cond (eqb (length row) 3) (mended_by n (mending check_of (geometry n s) f)) (wrong_row row f)

-- ---- the counted calls

-- The answer, and the caller's numbers, row of counts and flash as the call returns.
pub record CountedLoaded : Type 0 where
  pub answer : ℕ
  pub numbers : List ℕ
  pub counts : List ℕ
  pub flash : Flash

abbrev pub after_counted : ℕ → List ℕ → List ℕ → Flash → CountedLoaded
after_counted r numbers counts f = record { answer = r; numbers = numbers; counts = counts; flash = f }

-- What the library's counted power-up, and its counted arm, answers and leaves.
abbrev pub counted_powered_up : Counted PowerUp → CountedLoaded
counted_powered_up c =
    let e = ended_of c.own.outcome in
    after_counted e.number (counted_power_row e c.own.count (reason_refusal c.own.reason) c.total) c.row c.own.flash

abbrev pub counted_obeyed : Counted Command → CountedLoaded
counted_obeyed c = after_counted (refusal_of c.own.answer).number (counted_arm_row c.own.answer c.total) c.row c.own.flash

-- "Erase counts": asked for n sectors of s bytes, on the flash f, with a budget, the counts and their total. The numbers of a power-up are 7;
-- numbers of another length are refused with 1, before anything else, and all stays as it was.
abbrev pub counted_power_up_answer : ℕ → ℕ → Flash → ℕ → List ℕ → ℕ → List ℕ → CountedLoaded
counted_power_up_answer n s f budget counts total numbers =
    cond (eqb (length numbers) 7) (counted_powered_up (counted_power_up check_of (geometry n s) f budget counts total)) (after_counted 1 numbers counts f)

-- The same of arm, whose numbers are 2.
abbrev pub counted_arm_answer : ℕ → ℕ → Flash → List ℕ → ℕ → List ℕ → CountedLoaded
counted_arm_answer n s f counts total numbers =
    cond (eqb (length numbers) 2) (counted_obeyed (counted_arm (geometry n s) f counts total)) (after_counted 1 numbers counts f)
