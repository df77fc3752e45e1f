-- Document 02, "Tags that must be understood": which tags are refused for their type, and in which order. Each statement is proved in
-- proofs/.
use Rattle.std.specs.Prelude.{◌≡◌, ◌⊎◌, ◌↔◌, ℕ, ◌≤◌, ◌<◌, List, [], ◌∷◌, ◌++◌, length, get_or, set, replicate, map}
use Rattle.numbers.specs.Answer.{Answer, gives, refused}
use Rattle.header_tags.specs.Walk.{first_tag, Tags, more, tags_at}
use Rattle.header_tags.specs.Bytes.{little_endian, tag_bytes}
use Rattle.header_tags.specs.Standing.{TagStands, Walked}
use Rattle.header_places.specs.declared.Row.{Row}
use Rattle.header_places.specs.declared.TagTable.{TagTable as CodeTable}
use Rattle.header_places.specs.Table.{TagTable, table, table_of, bounded_by}
use Rattle.header_places.specs.Judging.{judge, places_in}
use Rattle.header_places.specs.RuledOut.{InRow, Known, Unknown}

-- The tags from some place on are passed up to `rest`: each one before it is of a low type that is not known; or it is the first of its
-- row, with the row's length. The places seen then are `seen` before and `after` behind them.
pub data Passed (T : TagTable) (after : List ℕ) (rest : Tags) : List ℕ → Tags → Type 0 where
  arrived : Passed T after rest after rest
  skipped : {seen : List ℕ} {tags : Tags} (q t n : ℕ) → Unknown T t → t < T.critical → Passed T after rest seen tags
      → Passed T after rest seen (more q t n tags)
  taken : {seen : List ℕ} {tags : Tags} (q t n r : ℕ) → InRow T t r → n ≡ get_or T.lengths r 0 → get_or seen r 0 ≡ 0
      → Passed T after rest (set seen r q) tags → Passed T after rest seen (more q t n tags)

-- The header's tags, with nothing seen before them, are passed up to `rest`.
abbrev pub Reaches : TagTable → List ℕ → List ℕ → Tags → Type 0
Reaches T h after rest = Passed T after rest (replicate (length T.types) 0) (tags_at h first_tag)

-- What is passed has no other say: the header's answer is the judgement of the rest. So the statements on one tag, on the end and on a walk
-- that breaks (`TagJudged`, `EndJudged`, `BreakIsJudged`) speak of whole headers.
abbrev pub RestDecides : Type 0
RestDecides = (T : TagTable) (h after : List ℕ) (rest : Tags) → Reaches T h after rest → places_in T h ≡ judge T after rest

-- The first tag of the header that is not passed stands at q, and its type is critical and not known.
pub record NotUnderstood (T : TagTable) (h : List ℕ) (q : ℕ) : Type 0 where
  pub type : ℕ
  pub size : ℕ
  pub after : List ℕ
  pub rest : Tags
  pub reached : Reaches T h after (more q type size rest)
  pub unknown : Unknown T type
  pub high : T.critical ≤ type

-- That, and nothing else, is 18.
abbrev pub EighteenExactly : Type 0
EighteenExactly = (T : TagTable) (h : List ℕ) (q : ℕ) → (places_in T h ≡ refused 18 q) ↔ NotUnderstood T h q

-- A type that is no ground for 18: it is known, or low.
abbrev pub Understood : TagTable → ℕ → Type 0
Understood T t = Known T t ⊎ (t < T.critical)

-- So 18 at q tells of the header's bytes: a critical tag that is not known is there, whole, and it is the first of its kind.
pub record FirstOfItsKind (T : TagTable) (h : List ℕ) (q : ℕ) : Type 0 where
  pub type : ℕ
  pub size : ℕ
  pub walked : Walked (tags_at h first_tag) q type
  pub whole : TagStands h q type size
  pub unknown : Unknown T type
  pub high : T.critical ≤ type
  pub first : (p t : ℕ) → Walked (tags_at h first_tag) p t → p < q → Understood T t

abbrev pub EighteenTells : Type 0
EighteenTells = (T : TagTable) (h : List ℕ) (q : ℕ) → places_in T h ≡ refused 18 q → FirstOfItsKind T h q

-- The refusals that a header with such a tag at q can have: 18 at q or before it, 5 or 6 before it. No fault that the walk would find
-- behind it comes first: neither another tag's 4, 5 or 6, nor 7, nor 8.
pub data UpTo (q : ℕ) : ℕ → ℕ → Type 0 where
  told : (p : ℕ) → p ≤ q → UpTo q 18 p
  of_length : (p : ℕ) → p < q → UpTo q 5 p
  again : (p : ℕ) → p < q → UpTo q 6 p

pub record RefusedUpTo {A : Type 0} (q : ℕ) (answer : Answer A) : Type 0 where
  pub number : ℕ
  pub place : ℕ
  pub is : answer ≡ refused number place
  pub order : UpTo q number place

abbrev pub EachIsRefused : Type 0
EachIsRefused =
    (T : TagTable) (h : List ℕ) (q t : ℕ) → Walked (tags_at h first_tag) q t → Unknown T t → T.critical ≤ t
    → RefusedUpTo q (places_in T h)

-- The tags of a header that is not refused are understood, each of them.
abbrev pub TakenIsUnderstood : Type 0
TakenIsUnderstood =
    (T : TagTable) (h places : List ℕ) (q t : ℕ) → places_in T h ≡ gives places → Walked (tags_at h first_tag) q t → Understood T t

-- A header whose tags are understood under two bounds is read the same under both. With 65,536, which is above every type of two bytes,
-- the rule is off: what is understood is read as it was before there was this rule.
abbrev pub ReadAsBefore : Type 0
ReadAsBefore =
    (T : TagTable) (h : List ℕ) (bound : ℕ)
    → ((q t : ℕ) → Walked (tags_at h first_tag) q t → Understood T t × Understood (bounded_by bound T) t)
    → places_in (bounded_by bound T) h ≡ places_in T h

-- "Known" is what the table says. A header of one tag of type t, with a value of two bytes, and the end: of type 8001 it is refused by a
-- table without the type, taken by one that has it, and refused for its length by one that asks for another; with the rule off it is
-- skipped, as type 7FFE is.
abbrev pub one_tag : ℕ → List ℕ
one_tag t = replicate 8 0 ++ (tag_bytes t (0x0A ∷ 0x0B ∷ []) ++ little_endian 2 0x0000)

pub record TableSays : Type 0 where
  pub without : places_in (table [] [] 0) (one_tag 0x8001) ≡ refused 18 8
  pub within : places_in (table (0x8001 ∷ []) (2 ∷ []) 1) (one_tag 0x8001) ≡ gives (8 ∷ [])
  pub other_length : places_in (table (0x8001 ∷ []) (3 ∷ []) 1) (one_tag 0x8001) ≡ refused 5 8
  pub off : places_in (bounded_by 0x10000 (table [] [] 0)) (one_tag 0x8001) ≡ gives []
  pub lower : places_in (table [] [] 0) (one_tag 0x7FFE) ≡ gives []

-- A table of the code is read row by row as it is, whatever its types are, and its bound is 8000.
pub record AsHanded (t : CodeTable) : Type 0 where
  pub types : (table_of t).types ≡ map (λ (r : Row). r.kind) t.rows
  pub lengths : (table_of t).lengths ≡ map (λ (r : Row). r.length) t.rows
  pub required : (table_of t).required ≡ t.required
  pub critical : (table_of t).critical ≡ 0x8000

abbrev pub TablesAsHanded : Type 0
TablesAsHanded = (t : CodeTable) → AsHanded t
