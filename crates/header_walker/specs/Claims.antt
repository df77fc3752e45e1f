-- What document 01, "The header", says of the offered walker: of the struct `TagWalker`, after any number of calls of `next` (`Walker.antt`).
-- proofs/Answers.antt and proofs/Calls.antt prove each of these.
use Rattle.std.specs.Prelude.{◌≡◌, ℕ, zero, suc, ◌+◌, ◌*◌, ◌<◌, ◌≤◌, List, ◌∷◌, ◌++◌, ◌⊎◌, length, take, replicate}
use Rattle.std.specs.Borrow.{Bor}
use Rattle.numbers.specs.Answer.{Answer, gives, refused}
use Rattle.header_tags.specs.Walk.{first_tag, Item, tag, end, Tags, ended, broken, more, tags_at}
use Rattle.header_walker.specs.Walker.{start_of, walker_answer, after_calls, call_answer}
use Rattle.header_walker.specs.declared.TagWalker.{TagWalker}

-- Answer number n of a walk, counted from 0, told by its list of tags: behind the last tag stands, for ever, how the walk stops.
abbrev pub entry_at : Tags → ℕ → Answer Item
entry_at ended n = gives end
entry_at (broken m q) n = refused m q
entry_at (more q t k rest) zero = gives (tag q t k)
entry_at (more q t k rest) (suc n) = entry_at rest n

-- A new walker gives all tags of the header, one at a time and in their order, those of skipped and of refused types too, and then how the
-- walk stops. They are the tags that the reader judges.
abbrev pub AllTags : Type 0
AllTags = (s : Bor (List ℕ)) (n : ℕ) → 256 ≤ length s.now → call_answer n (start_of s) ≡ entry_at (tags_at (take 256 s.now) first_tag) n

-- So in a header with padding, a tag of a skipped type, padding, a tag that has to be understood (document 02) and a version of a wrong
-- length, all three tags come, and then the end for ever.
abbrev pub padded_header : List ℕ
padded_header = replicate 8 0 ++ (0xFF ∷ 0xFF ∷ 0x42 ∷ 0x00 ∷ 0x01 ∷ 0x00 ∷ 0xAA ∷ 0xFF ∷ 0x00 ∷ 0x80 ∷ 0x00 ∷ 0x00 ∷ 0x01 ∷ 0x00 ∷ 0x00 ∷ 0x00 ∷ 0x00 ∷ 0x00 ∷ replicate 230 0xFF)

abbrev pub GivesPadded : Type 0
GivesPadded = (s : Bor (List ℕ)) (n : ℕ) → s.now ≡ padded_header → call_answer n (start_of s) ≡ entry_at (more 10 0x0042 1 (more 16 0x8000 0 (more 20 0x0001 0 ended))) n

-- Over fewer than 256 bytes every call is refused with 16, at 0.
abbrev pub TooFew : Type 0
TooFew = (s : Bor (List ℕ)) (n : ℕ) → length s.now < 256 → call_answer n (start_of s) ≡ refused 16 0

-- Of the refusals only three numbers come: 16, at place 0; 4; and 7, at place 256. The reader's 2, 3, 5, 6, 8 and 18 do not.
abbrev pub Offered : Answer Item → Type 0
Offered (gives i) = Unit {0}
Offered (refused m q) = ((m ≡ 16) × (q ≡ 0)) ⊎ ((m ≡ 4) ⊎ ((m ≡ 7) × (q ≡ 256)))

abbrev pub OnlyOffered : Type 0
OnlyOffered = (w : TagWalker) (n : ℕ) → Offered (call_answer n w)

-- The end or a refusal: no tag.
abbrev pub Stops : Answer Item → Type 0
Stops (gives (tag q t n)) = ⊥
Stops (gives end) = Unit {0}
Stops (refused m q) = Unit {0}

-- Asked again after the end or a refusal, however often, the walker gives the same answer and stays the same walker.
abbrev pub Repeats : Type 0
Repeats = (w : TagWalker) (n : ℕ) → Stops (walker_answer w) → (call_answer n w ≡ walker_answer w) × (after_calls n w ≡ w)

-- Magic and size are not looked at: what stands before the first tag makes no difference to a walker that stands behind it.
abbrev pub Unread : Type 0
Unread = (a b l : List ℕ) (v w : TagWalker) (n : ℕ) → length a ≡ first_tag → length b ≡ first_tag → v.header.now ≡ a ++ l → w.header.now ≡ b ++ l
    → v.at ≡ w.at → first_tag ≤ v.at → call_answer n v ≡ call_answer n w

-- A tag lies at the walker's place or behind it, and within the header's 256 bytes.
abbrev pub TagWithin : Type 0
TagWithin = (w : TagWalker) (n q t k : ℕ) → call_answer n w ≡ gives (tag q t k) → ((after_calls n w).at ≤ q) × (q + 4 + k ≤ 256)

-- So the walk ends, wherever the walker stands: a tag takes four bytes at least, so a quarter of the bytes left is enough calls. A new walker,
-- at 8, has stopped after 62.
abbrev pub Ends : Type 0
Ends = (w : TagWalker) (n : ℕ) → 256 ≤ w.at + 4 * n → Stops (call_answer n w)
