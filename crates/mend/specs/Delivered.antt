-- What mending promises: the rules of `mending` with the delivered image check, and 02's numbers for each case of the code's answers.
use Rattle.std.specs.Prelude.{◌≡◌, List, ℕ, Result, Ok, Err}
use Rattle.numbers.specs.Answer.{Answer, gives, refused}
use Rattle.numbers.specs.declared.MendRefusal.{MendRefusal}
use Rattle.numbers.specs.GivenBack.{mend_number}
use Rattle.flash.specs.Sizes.{geometry}
use Rattle.flash.specs.Buffers.{Flash, flash}
use Rattle.image.specs.Verdict.{check_of}
use Rattle.mending.specs.declared.Mark.{Mark}
use Rattle.mending.specs.Mending.{Given, given, Mend, mending}
use Rattle.mend.specs.declared.Mended.{Mended}

-- What the code answers: what was mended, or a refusal.
abbrev pub MendAnswer : Type 0
MendAnswer = Result Mended MendRefusal

-- The mark k was mended, and so many bytes differ.
abbrev pub mended_with : Mark → ℕ → MendAnswer
mended_with k n = Ok (record { mark = k; bytes = n })

-- The mark and the number of flag bytes that differ, or a refusal, at no place.
abbrev pub mend_of : MendAnswer → Answer Given
mend_of (Ok m) = gives (given m.mark m.bytes)
mend_of (Err r) = refused (mend_number r) 0

-- What mending answers, and the flash that it leaves. BOOT and SWAP are lent for reading, so they are as they were in f; u is UPDATE.
abbrev pub mended : MendAnswer → Flash → List ℕ → Mend
mended a f u = record { answer = mend_of a; flash = flash f.boot u f.swap }

-- The contract of `mend`: asked for this many sectors of this size and lent the flash f, the call gives this answer and leaves UPDATE's
-- bytes u. The rules decide both, with the delivered image check: nothing else has a say.
abbrev pub MendDelivers : ℕ → ℕ → Flash → MendAnswer → List ℕ → Type 0
MendDelivers sectors size f answer u = mended answer f u ≡ mending check_of (geometry sectors size) f
