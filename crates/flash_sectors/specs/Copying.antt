-- Document 01, "The flash": what a copy leaves.
use Rattle.std.specs.Prelude.{cond, List, ℕ, length, eqb, Result, Ok, Err}
use Rattle.numbers.specs.Answer.{Answer, gives, refused}
use Rattle.flash_sectors.specs.declared.UnequalLengths.{UnequalLengths}

-- what a copy answers, and the bytes of its target afterwards
pub record Copy : Type 0 where
  pub answer : Answer (Unit {0})
  pub bytes : List ℕ

-- a copy puts the source's bytes in place of the target's; lengths that differ are refusal 1, and leave the target alone
unfoldable pub copy_of : List ℕ → List ℕ → Copy
copy_of target source =
    cond (eqb (length target) (length source)) (record { answer = gives tt; bytes = source })
    (record { answer = refused 1 0; bytes = target })

-- what the code's answer says, for the contracts; and beside it the target's bytes
abbrev pub copy_answer : Result (Unit {0}) UnequalLengths → Answer (Unit {0})
copy_answer (Ok t) = gives t
copy_answer (Err e) = refused 1 0

abbrev pub copied : Result (Unit {0}) UnequalLengths → List ℕ → Copy
copied a l = record { answer = copy_answer a; bytes = l }
