-- What the functions of this crate require and answer.
use Rattle.std.specs.Prelude.{List, ℕ, ◌<◌, get_or, Option, Some, None, Result}
use Rattle.numbers.specs.declared.Refused.{Refused}
use Rattle.numbers.specs.Answer.{Answer, gives, then}
use Rattle.numbers.specs.GivenBack.{refused_at, answer_by, row_number}
use Rattle.flash.specs.declared.Geometry.{Geometry}
use Rattle.flash.specs.Sizes.{geometry}
use Rattle.flash.specs.Buffers.{Flash}
use Rattle.counts.specs.Calls.{check_counted}
use Rattle.counts_row.specs.declared.CountsFault.{CountsFault}
use Rattle.counts_row.specs.declared.CountsFault.TheVariants.{OutsideRules, Row}

-- what the checks that come first find, by the papers' numbers
abbrev pub counts_says : CountsFault → Refused
counts_says OutsideRules = refused_at 1 0
counts_says (Row r) = refused_at (row_number r) 0

abbrev pub counts_answer : {A : Type 0} → Result A CountsFault → Answer A
counts_answer = answer_by counts_says

-- the geometry that was asked for, where these checks take everything
abbrev pub counted_geometry : ℕ → ℕ → Flash → List ℕ → ℕ → Answer Geometry
counted_geometry n s f row total = then (check_counted (geometry n s) f row total) (λ t. gives (geometry n s))

-- the place can be raised within 32 bits
abbrev pub RoomFor : Option ℕ → List ℕ → Type 0
RoomFor None row = Unit {0}
RoomFor (Some k) row = get_or row k 0 < 4294967295
