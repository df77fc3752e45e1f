-- An image that was changed where the digest covers it. Assumes nothing.
use mathlib.Core.Path.{◌≡◌, refl, sym, ap, ap₂, ◌∙◌}
use mathlib.Core.Logic.{◌≢◌, ◌⊎◌, inl, inr}
use Prim.Native.Nat.{ℕ, zero, suc, ◌+◌, ◌^◌, ◌≤◌, ◌<◌}
use mathlib.Core.Bool.{Bool, true, false, true≢false}
use mathlib.Core.List.{List}
use native.Mathlib.Omega.{arith}
use lib.Dec.{lit<}
use lib.ListN.{length, get_or, take}
use lib.Seq.{length-take-le, get_or-take, take-take}
use Rattle.numbers.specs.Answer.{gives, refused}
use Rattle.numbers.specs.GivenBack.{image_answer}
use Rattle.digest_fips180.specs.Sha256.{sha256}
use Rattle.digest_fips180.specs.Collision.{Message, Collision}
use Rattle.header_tags.specs.Bytes.{number, same}
use Rattle.header_tags.specs.Standing.{TagAt}
use Rattle.header_tags.proofs.Laws.{refused_gives}
use Rattle.header_tags.proofs.Same.{same_true, same_refl}
use Rattle.header_places.specs.Table.{document_table}
use Rattle.header_places.specs.RuledOut.{InRow}
use Rattle.header_places.proofs.Before.{tags_have_places, tag_begins, tags_before}
use Rattle.header_reader.specs.declared.Header.{Header}
use Rattle.header_reader.specs.Reading.{bytes_at, value}
use Rattle.header_reader.proofs.BytesAt.{part_4, part_bytes, part_below}
use Rattle.header_reader.proofs.Answers.{Taken, places_taken, located}
use Rattle.image.specs.Check.{image_in}
use Rattle.image.specs.Changed.{Holds, message_of, NineOrCollision, ChangedIsRefused, Change, place, size, byte, version, timestamp, firmware, EachChangeIsRefused, OneDigestOneRelease, BehindHasNoSay, ChangedCallRefuses}
use Rattle.image.proofs.Covered.{length_covered, before, byte_before, byte_behind, all_bytes}
use Rattle.image.proofs.Ordered.{digest_place, each_has_digest_tag, tag_within, bytes_room, message_differs, message_same, good_message, good_as_read}

-- ---- what is known of one image

module _ {b : List ℕ} {at : ℕ} {v : Header} (h : Holds b at v) where
  abbrev t : Taken b v
  t = places_taken b v h.read

  -- the tag begins behind magic and size, and ends within the header
  behind_size_lem : 8 ≤ at
  behind_size_lem = let d = each_has_digest_tag b v h.read in omega (arith, d.one at h.tag, d.behind)

  in_header : at + 36 ≤ 256
  in_header = tag_within b at v h.read h.tag

  whole : 256 ≤ length b
  whole = bytes_room b at v h.read h.tag

  length_message : length (message_of b at v) ≡ at + v.size
  length_message = length_covered b at v.size (omega (arith, in_header, whole)) h.room

  byte_of : (i : ℕ) → i < at → get_or (message_of b at v) i 0 ≡ get_or b i 0
  byte_of = byte_before b at v.size (omega (arith, in_header, whole)) h.room

  -- the size as it stands in the header
  stated_size : v.size ≡ number (bytes_at (take 256 b) 4 4)
  stated_size = ap (λ (x : Header). x.size) t.is

  size_byte : (i : ℕ) → i < 8 → get_or (take 256 b) i 0 ≡ get_or (message_of b at v) i 0
  size_byte i lt = get_or-take 256 b i 0 (omega arith) ∙ sym (byte_of i (omega (arith, behind_size_lem)))

  -- what is covered is a message as the standard takes it
  message : Message (message_of b at v)
  message =
      let n : v.size < 2 ^ 32 =
      rw stated_size (part_below (take 256 b) (part_bytes b h.bytes 0 256) 4 4 (omega (arith, length-take-le 256 b whole))) in
      record {
        bytes = all_bytes b at v.size (omega (arith, in_header, whole)) h.room h.bytes;
        short = omega (arith, length_message, in_header);
      }

-- ---- 9, or a collision

pub changed_is_refused : ChangedIsRefused
changed_is_refused b b' at at' v v' s d = go (same (sha256 (message_of b' at' v')) v'.digest) refl
  where
    go : (t : Bool) → same (sha256 (message_of b' at' v')) v'.digest ≡ t → NineOrCollision b at v b' at' v'
    go true t =
        inr (record {
          first = message s.first;
          second = message s.second;
          differ = d;
          digest =
              good_message b at v s.first.read s.first.tag s.first.room s.good ∙ sym s.digest ∙ sym (same_true _ _ t);
        })
    go false t =
        inl (message_differs b' at' v' s.second.read s.second.tag s.second.room (λ e. absurd (true≢false (sym (yes e) ∙ t))))
      where
        yes : sha256 (message_of b' at' v') ≡ v'.digest → same (sha256 (message_of b' at' v')) v'.digest ≡ true
        yes e = rw e (same_refl _)

-- ---- what two images have in common where the covered bytes are the same

version_row : InRow document_table 0x0001 0
version_row = record { row = lit< tt; here = refl; before = λ i lt e. absurd (omega arith) }

timestamp_row : InRow document_table 0x0002 1
timestamp_row = record { row = lit< tt; here = refl; before = other }
  where
    other : (i : ℕ) → i < 1 → get_or document_table.types i 0 ≢ 0x0002
    other zero lt e = let z : ◌≡◌ {A = ℕ} 1 2 = e in absurd (omega arith)
    other (suc i) lt e = absurd (omega arith)

module _ {b b' : List ℕ} {at at' : ℕ} {v v' : Header} (h : Holds b at v) (h' : Holds b' at' v') (e : message_of b at v ≡ message_of b' at' v') where
  same_size_byte : (i : ℕ) → i < 8 → get_or (take 256 b) i 0 ≡ get_or (take 256 b') i 0
  same_size_byte i lt = size_byte h i lt ∙ ap (λ (x : List ℕ). get_or x i 0) e ∙ sym (size_byte h' i lt)

  -- the size stands before the tag
  same_size : v.size ≡ v'.size
  same_size =
      let f : bytes_at (take 256 b) 4 4 ≡ bytes_at (take 256 b') 4 4 =
      rw (
        part_4 (take 256 b) 4 (omega (arith, length-take-le 256 b (whole h))),
        part_4 (take 256 b') 4 (omega (arith, length-take-le 256 b' (whole h'))),
        same_size_byte 4 (lit< tt),
        same_size_byte 5 (lit< tt),
        same_size_byte 6 (lit< tt),
        same_size_byte 7 (lit< tt),
      ) refl in
      stated_size h ∙ ap number f ∙ sym (stated_size h')

  same_place : at ≡ at'
  same_place = omega (arith, same_size, length_message h, length_message h', ap length e)

  same_byte : (p : ℕ) → p < at → get_or b p 0 ≡ get_or b' p 0
  same_byte p lt = sym (byte_of h p lt) ∙ ap (λ (x : List ℕ). get_or x p 0) e ∙ byte_of h' p (omega (arith, same_place))

  same_firmware : (i : ℕ) → i < v.size → get_or b (256 + i) 0 ≡ get_or b' (256 + i) 0
  same_firmware i lt =
      sym (byte_behind b at v.size (omega (arith, in_header h, whole h)) h.room i lt)
      ∙ ap₂ (λ (x : List ℕ) (k : ℕ). get_or x (k + i) 0) e same_place
      ∙ byte_behind b' at' v'.size (omega (arith, in_header h', whole h')) h'.room i (omega (arith, same_size))

  same_front : take at (take 256 b) ≡ take at (take 256 b')
  same_front =
      let c : take at b ≡ take at b' =
      sym (before b at v.size (omega (arith, in_header h, whole h)) h.room) ∙ ap₂ take same_place e
      ∙ before b' at' v'.size (omega (arith, in_header h', whole h')) h'.room ∙ ap (λ (k : ℕ). take k b') (sym same_place) in
      take-take at 256 b (omega (arith, in_header h)) ∙ c ∙ sym (take-take at 256 b' (omega (arith, in_header h)))

  -- a tag of the table that stands before the digest's has the same value in both
  same_value : (p k q : ℕ) → InRow document_table k q → TagAt b p k → p < at
      → value (take 256 b) (t h).places q ≡ value (take 256 b') (t h').places q
  same_value p k q row tag lt =
      let l = (t h).places in
      let f = located b l (t h).found in
      let f' = located b' (t h').places (t h').found in
      let d : get_or l 2 0 ≡ at = digest_place b l at (t h).found h.tag in
      let x : get_or l q 0 ≡ p = tags_have_places document_table (take 256 b) l p k q f.found tag row in
      let s = tag_begins document_table (take 256 b) l p k q f.found tag row in
      sym (tags_before document_table (take 256 b) (take 256 b') l (t h').places q 2 f.found f'.found (rw d same_front) (omega arith) (omega arith)).value

-- in whichever of the two it stands
either : {b b' : List ℕ} {at at' : ℕ} {v v' : Header} (h : Holds b at v) (h' : Holds b' at' v') (e : message_of b at v ≡ message_of b' at' v') (p k q : ℕ)
    → InRow document_table k q → TagAt b p k ⊎ TagAt b' p k → p < at → value (take 256 b) (t h).places q ≡ value (take 256 b') (t h').places q
either h h' e p k q row (inl tag) lt = same_value h h' e p k q row tag lt
either h h' e p k q row (inr tag) lt = sym (same_value h' h (sym e) p k q row tag (omega (arith, same_place h h' e)))

-- so none of the changes lies between the two
module _ (b b' : List ℕ) (at at' : ℕ) (v v' : Header) (h : Holds b at v) (h' : Holds b' at' v') where
  unchanged : message_of b at v ≡ message_of b' at' v' → Change b at v b' at' v' → ⊥
  unchanged e (place d) = d (same_place h h' e)
  unchanged e (size d) = d (same_size h h' e)
  unchanged e (byte p lt d) = d (same_byte h h' e p (omega arith))
  unchanged e (version p tag lt d) = d (stated_version tag)
    where
      stated_version : TagAt b p 0x0001 ⊎ TagAt b' p 0x0001 → v.version ≡ v'.version
      stated_version w =
          ap (λ (x : Header). x.version) (t h).is ∙ ap number (either h h' e p 0x0001 0 version_row w lt) ∙ sym (ap (λ (x : Header). x.version) (t h').is)
  unchanged e (timestamp p tag lt d) = d (stated_timestamp tag)
    where
      stated_timestamp : TagAt b p 0x0002 ⊎ TagAt b' p 0x0002 → v.timestamp ≡ v'.timestamp
      stated_timestamp w =
          ap (λ (x : Header). x.timestamp) (t h).is ∙ ap number (either h h' e p 0x0002 1 timestamp_row w lt) ∙ sym (ap (λ (x : Header). x.timestamp) (t h').is)
  unchanged e (firmware i lt d) = d (same_firmware h h' e i lt)

-- ---- the statements

pub each_change_is_refused : EachChangeIsRefused
each_change_is_refused b b' at at' v v' s c =
    changed_is_refused b b' at at' v v' s (λ e. unchanged b b' at at' v v' s.first s.second e c)

pub one_digest_one_release : OneDigestOneRelease
one_digest_one_release b b' at at' v v' s good = go (same (message_of b at v) (message_of b' at' v')) refl
  where
    go : (x : Bool) → same (message_of b at v) (message_of b' at' v') ≡ x
        → ((message_of b at v ≡ message_of b' at' v') × (Change b at v b' at' v' → ⊥)) ⊎ Collision (message_of b at v) (message_of b' at' v')
    go true x = let e = same_true _ _ x in inl (e, λ c. unchanged b b' at at' v v' s.first s.second e c)
    go false x = on (changed_is_refused b b' at at' v v' s (λ e. absurd (true≢false (sym (rw e (same_refl _)) ∙ x))))
      where
        on : NineOrCollision b at v b' at' v'
            → ((message_of b at v ≡ message_of b' at' v') × (Change b at v b' at' v' → ⊥)) ⊎ Collision (message_of b at v) (message_of b' at' v')
        on (inl nine) = refused_gives (sym nine ∙ good)
        on (inr c) = inr c

pub behind_has_no_say : BehindHasNoSay
behind_has_no_say b b' at at' v v' h h' d e = (
  λ g. message_same b' at' v' h'.read h'.tag h'.room (ap sha256 (sym e) ∙ good_message b at v h.read h.tag h.room g ∙ d),
  λ g. message_same b at v h.read h.tag h.room (ap sha256 e ∙ good_message b' at' v' h'.read h'.tag h'.room g ∙ sym d),
)

pub changed_call_refuses : ChangedCallRefuses
changed_call_refuses b b' at at' v v' w r r' checks checks' is h h' d c =
    let told : image_in b ≡ gives w = sym checks ∙ ap image_answer is in
    let good : image_in b ≡ gives v = good_as_read b v h.read told in
    go (each_change_is_refused b b' at at' v v' (record { first = h; second = h'; good = good; digest = d }) c)
  where
    go : NineOrCollision b at v b' at' v'
        → (image_answer r' ≡ refused 9 256) ⊎ Collision (message_of b at v) (message_of b' at' v')
    go (inl nine) = inl (checks' ∙ nine)
    go (inr x) = inr x
