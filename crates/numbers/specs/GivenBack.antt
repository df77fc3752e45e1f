-- Document 01, "Numbers given back": the number of 01's table, with its place, for each case of the code's answers. This is the one room
-- for them: a new number is a new line here.
use Rattle.std.specs.Prelude.{ℕ, Option, Some, None, Result, Ok, Err}
use Rattle.numbers.specs.Answer.{Answer, gives, refused, Refusal, numbered, inside, Reason, no_reason, because}
use Rattle.numbers.specs.declared.HeaderRefusal.{HeaderRefusal}
use Rattle.numbers.specs.declared.HeaderRefusal.TheVariants.{TooShort, WrongMagic, WrongSize, TagDoesNotFit, TagNotUnderstood, WrongLength, Repeated, NoEnd, Missing}
use Rattle.numbers.specs.declared.WriteRefusal.{WriteRefusal}
use Rattle.numbers.specs.declared.WriteRefusal.TheVariants.{TooShort as OutputTooShort, WrongSize as OutputSize}
use Rattle.numbers.specs.declared.SealedRefusal.{SealedRefusal}
use Rattle.numbers.specs.declared.SealedRefusal.TheVariants.{BadHeader as NotRead, NotSealed}
use Rattle.numbers.specs.declared.SealedWriteRefusal.{SealedWriteRefusal}
use Rattle.numbers.specs.declared.SealedWriteRefusal.TheVariants.{NotWritten, NoHint}
use Rattle.numbers.specs.declared.ImageRefusal.{ImageRefusal}
use Rattle.numbers.specs.declared.ImageRefusal.TheVariants.{OutsideRules, BadHeader, WrongDigest}
use Rattle.numbers.specs.declared.PowerUpRefusal.{PowerUpRefusal}
use Rattle.numbers.specs.declared.PowerUpRefusal.TheVariants.{OutsideRules as FlashOutside, StatusNotAllowed, FlagsMalformed, BadBoot, NoFallback}
use Rattle.numbers.specs.declared.TurnDownReason.{TurnDownReason}
use Rattle.numbers.specs.declared.TurnDownReason.TheVariants.{BadUpdate, NotNewer}
use Rattle.numbers.specs.declared.CommandRefusal.{CommandRefusal}
use Rattle.numbers.specs.declared.CommandRefusal.TheVariants.{OutsideRules as CommandOutside, StatusNotAllowed as CommandStatus, FlagsMalformed as CommandFlags, WrongTime}
use Rattle.numbers.specs.declared.MendRefusal.{MendRefusal}
use Rattle.numbers.specs.declared.MendRefusal.TheVariants.{OutsideRules as MendOutside, StatusNotAllowed as MendStatus, WrongTime as MendWrongTime, NoMarkFits}
use Rattle.numbers.specs.declared.RowRefusal.{RowRefusal}
use Rattle.numbers.specs.declared.RowRefusal.TheVariants.{TotalWrong, CountTooHigh}
use Rattle.numbers.specs.declared.SheetRefusal.{SheetRefusal}
use Rattle.numbers.specs.declared.SheetRefusal.TheVariants.{NotUnderstood, UnknownName, BadValue, RepeatedName, MissingName}
use Rattle.numbers.specs.declared.Refused.{Refused}
use Rattle.numbers.specs.declared.RefusedInside.{RefusedInside}

-- ---- an answer, and its number and place

-- A number and a place as the code hands them out, both 0 where nothing is refused: 0 is no number of 01.
abbrev pub refused_at : ℕ → ℕ → Refused
refused_at n p = record { number = n; place = p }

-- The number and the place of an answer.
abbrev pub refusal_of : {A : Type 0} → Answer A → Refused
refusal_of (gives a) = refused_at 0 0
refusal_of (refused n p) = refused_at n p

-- A refusal by its number and place.
abbrev pub refused_with : {A : Type 0} → Refused → Answer A
refused_with r = refused r.number r.place

-- What the code's answer says: what it gives, or the number and place of its refusal.
abbrev pub answer_by : {A E : Type 0} → (E → Refused) → Result A E → Answer A
answer_by says (Ok a) = gives a
answer_by says (Err e) = refused_with (says e)

-- ---- the reader: 2 to 8, 16 and 18

-- The place of 4, 5, 6 and 18 is the tag's first byte, that of 7 the header's length; at 8 the missing type stands for the place.
abbrev pub header_says : HeaderRefusal → Refused
header_says TooShort = refused_at 16 0
header_says WrongMagic = refused_at 2 0
header_says WrongSize = refused_at 3 4
header_says (TagDoesNotFit p) = refused_at 4 p
header_says (TagNotUnderstood p) = refused_at 18 p
header_says (WrongLength p) = refused_at 5 p
header_says (Repeated p) = refused_at 6 p
header_says (NoEnd p) = refused_at 7 p
header_says (Missing t) = refused_at 8 t

abbrev pub header_answer : {A : Type 0} → Result A HeaderRefusal → Answer A
header_answer = answer_by header_says

-- ---- the writer: 3 and 16

-- A size of 0 is refused where the size stands, at 4.
abbrev pub writer_says : WriteRefusal → Refused
writer_says OutputTooShort = refused_at 16 0
writer_says OutputSize = refused_at 3 4

abbrev pub writer_answer : {A : Type 0} → Result A WriteRefusal → Answer A
writer_answer = answer_by writer_says

-- ---- the sealed profile: the reader's and the writer's, and 21

-- 21 is document 02's: not sealed, at the first byte that differs from the written form of the values, or at 138, where the hint's tag
-- would stand, if the hint is missing and nothing before differs. The sealed writer without a hint gives it there.
abbrev pub sealed_says : SealedRefusal → Refused
sealed_says (NotRead h) = header_says h
sealed_says (NotSealed p) = refused_at 21 p

abbrev pub sealed_answer : {A : Type 0} → Result A SealedRefusal → Answer A
sealed_answer = answer_by sealed_says

abbrev pub sealed_writer_says : SealedWriteRefusal → Refused
sealed_writer_says (NotWritten w) = writer_says w
sealed_writer_says NoHint = refused_at 21 138

abbrev pub sealed_writer_answer : {A : Type 0} → Result A SealedWriteRefusal → Answer A
sealed_writer_answer = answer_by sealed_writer_says

-- ---- the image check: 1, the reader's, and 9

-- A bad header has the reader's own refusal; another digest is refused behind the header, at 256.
abbrev pub image_says : ImageRefusal → Refused
image_says OutsideRules = refused_at 1 0
image_says (BadHeader h) = header_says h
image_says WrongDigest = refused_at 9 256

abbrev pub image_answer : {A : Type 0} → Result A ImageRefusal → Answer A
image_answer = answer_by image_says

-- ---- power-up: 1, 10 to 13, and 15 as a reason

-- A refused power-up: 12 and 13 carry number and place of the bad image.
abbrev pub power_up_says : PowerUpRefusal → Refusal
power_up_says FlashOutside = numbered 1 0
power_up_says StatusNotAllowed = numbered 10 0
power_up_says FlagsMalformed = numbered 11 0
power_up_says (BadBoot i) = inside 12 (image_says i).number (image_says i).place
power_up_says (NoFallback i) = inside 13 (image_says i).number (image_says i).place

-- "Turning down": its reason, UPDATE's own refusal or 15.
abbrev pub reason_of : Option TurnDownReason → Reason
reason_of None = no_reason
reason_of (Some (BadUpdate i)) = because (image_says i).number (image_says i).place
reason_of (Some NotNewer) = because 15 0

-- The three numbers of a refusal as the code hands them out: its own, then number and place of a bad image, or 0 and its own place.
abbrev pub three_numbers : Refusal → RefusedInside
three_numbers (numbered n p) = record { number = n; inner = 0; place = p }
three_numbers (inside n m p) = record { number = n; inner = m; place = p }

-- A reason's number and place; 0 and 0 where there is none.
abbrev pub reason_refusal : Reason → Refused
reason_refusal no_reason = refused_at 0 0
reason_refusal (because n p) = refused_at n p

-- ---- arm and confirm: 1, 10, 11, 14

-- A refused command; its place is 0.
abbrev pub command_number : CommandRefusal → ℕ
command_number CommandOutside = 1
command_number CommandStatus = 10
command_number CommandFlags = 11
command_number WrongTime = 14

-- The number of operations that a command did; a refusal counts 0.
abbrev pub count_of : Answer ℕ → ℕ
count_of (gives n) = n
count_of (refused n p) = 0

-- ---- mending: 1, 10, 14, 17

-- Mending that is refused; its place is 0. 17 is document 02's: no mark fits.
abbrev pub mend_number : MendRefusal → ℕ
mend_number MendOutside = 1
mend_number MendStatus = 10
mend_number MendWrongTime = 14
mend_number NoMarkFits = 17

-- ---- a row of erase counts: 19, 20

-- Document 02's refusals of a counted call; their place is 0. 19: the total is wrong. 20: some count is too high.
abbrev pub row_number : RowRefusal → ℕ
row_number TotalWrong = 19
row_number CountTooHigh = 20

-- ---- a release sheet: 101 to 105, which are no numbers of 01

-- The place of 101 to 104 is the line's number; at 105 the missing tag's type stands for it.
abbrev pub sheet_says : SheetRefusal → Refused
sheet_says (NotUnderstood n) = refused_at 101 n
sheet_says (UnknownName n) = refused_at 102 n
sheet_says (BadValue n) = refused_at 103 n
sheet_says (RepeatedName n) = refused_at 104 n
sheet_says (MissingName t) = refused_at 105 t

abbrev pub sheet_answer : {A : Type 0} → Result A SheetRefusal → Answer A
sheet_answer = answer_by sheet_says
