-- Document 01, "The header": the walk over the tags of a header. h is the header's bytes, all of them, so that its length is the header's.
use Rattle.std.specs.Prelude.{ℕ, zero, suc, ◌+◌, ◌*◌, ◌-◌, List, true, false, cond, length, get_or, take, ltb, eqb, Option, Some, None, Result, Ok, Err}
use Rattle.numbers.specs.Answer.{Answer, gives, refused}
use Rattle.numbers.specs.declared.Refused.{Refused}
use Rattle.numbers.specs.GivenBack.{refused_at, refused_with}
use Rattle.header_tags.specs.declared.Tag.{Tag}
use Rattle.header_tags.specs.declared.WalkRefusal.{WalkRefusal}
use Rattle.header_tags.specs.declared.WalkRefusal.TheVariants.{TooShort, DoesNotFit, NoEnd}

-- Where the tags begin: behind the magic and the firmware's size, four bytes each.
abbrev pub first_tag : ℕ
first_tag = 8

-- The type of the tag at p and the length of its value: two bytes each, low byte first (000).
abbrev pub type_at : List ℕ → ℕ → ℕ
type_at h p = get_or h p 0 + 256 * get_or h (p + 1) 0

abbrev pub length_at : List ℕ → ℕ → ℕ
length_at h p = get_or h (p + 2) 0 + 256 * get_or h (p + 3) 0

-- What stands at a place: a tag, with its place, type and length, or the end of the header.
pub data Item : Type 0 where
  tag : ℕ → ℕ → ℕ → Item
  end : Item

-- What stands at p, where no padding byte is. With one byte left it does not fit; type 0000 is the end;
-- otherwise type, length and value have to fit below the header's length.
unfoldable pub item_at : List ℕ → ℕ → Answer Item
item_at h p =
    cond (ltb (length h - p) 2) (refused 4 p)
    (cond (eqb (type_at h p) 0x0000) (gives end)
    (cond (ltb (length h - p) 4) (refused 4 p)
    (cond (ltb (length h - p - 4) (length_at h p)) (refused 4 p) (gives (tag p (type_at h p) (length_at h p))))))

-- The same from p on, with n bytes left: over padding, which is FF, one byte at a time; nothing left and no end is refusal 7.
unfoldable pub item_from : List ℕ → ℕ → ℕ → Answer Item
item_from h zero p = refused 7 (length h)
item_from h (suc n) p = elim (eqb (get_or h p 0) 0xFF) [ true ↦ item_from h n (p + 1) | false ↦ item_at h p ]

-- What the walk finds from p on.
abbrev pub next_item : List ℕ → ℕ → Answer Item
next_item h p = item_from h (length h - p) p

-- The paper's number and place for each refusal of the walk.
abbrev pub walk_says : WalkRefusal → Refused
walk_says TooShort = refused_at 16 0
walk_says (DoesNotFit p) = refused_at 4 p
walk_says (NoEnd p) = refused_at 7 p

-- What the code's answer says: a tag, where there is none the end, or a refusal's number and place.
abbrev pub item_of : Result (Option Tag) WalkRefusal → Answer Item
item_of (Ok (Some t)) = gives (tag t.place t.kind t.length)
item_of (Ok None) = gives end
item_of (Err w) = refused_with (walk_says w)

-- Where the walk goes on: behind a tag. At the end and after a refusal it stays, so that the same answer comes again.
abbrev pub place_behind : Answer Item → ℕ → ℕ
place_behind (gives (tag q t n)) p = q + 4 + n
place_behind (gives end) p = p
place_behind (refused m q) p = p

-- The offered walk, over a lent buffer: its first 256 bytes are the header; fewer are refusal 16.
unfoldable pub walk_at : List ℕ → ℕ → Answer Item
walk_at s p = cond (ltb (length s) 256) (refused 16 0) (next_item (take 256 s) p)

-- The tags of a header in their order, each by place, type and length, and how the walk over them stops: at the end, or by a refusal.
pub data Tags : Type 0 where
  ended : Tags
  broken : ℕ → ℕ → Tags
  more : ℕ → ℕ → ℕ → Tags → Tags

-- What the walk finds, and behind a tag the rest of the walk.
abbrev pub on_item : Answer Item → (ℕ → Tags) → Tags
on_item (gives (tag q t n)) rest = more q t n (rest (q + 4 + n))
on_item (gives end) rest = ended
on_item (refused m q) rest = broken m q

-- All tags from p on, with n bytes left; every tag takes some of them.
unfoldable pub tags_from : List ℕ → ℕ → ℕ → Tags
tags_from h zero p = broken 7 (length h)
tags_from h (suc n) p = on_item (next_item h p) (λ q. tags_from h n q)

-- All tags from p on.
abbrev pub tags_at : List ℕ → ℕ → Tags
tags_at h p = tags_from h (length h - p) p
