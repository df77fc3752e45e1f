-- A walker's calls in a row: it gives the header's tags in their order, repeats its last answer, and ends. Assumes nothing.
use mathlib.Core.Path.{◌≡◌, refl, sym, ap, subst, ◌∙◌}
use Prim.Native.Nat.{ℕ, zero, suc, ◌+◌, ◌*◌, ◌≤◌}
use mathlib.Core.List.{List, ◌++◌}
use native.Mathlib.Omega.{arith}
use lib.Dec.{lit≤}
use lib.ListN.{length, take}
use Rattle.numbers.specs.Answer.{Answer, gives, refused}
use Rattle.header_tags.specs.Walk.{first_tag, Item, tag, end, walk_at, place_behind, Tags, ended as no_more, more, on_item, item_at, item_from, tags_from, tags_at}
use Rattle.header_tags.proofs.Laws.{tags_step, walk_short, walk_header}
use Rattle.header_walker.specs.Walker.{start_of, walker_answer, walker_after, after_calls, call_answer}
use Rattle.header_walker.specs.declared.TagWalker.{TagWalker}
use Rattle.header_walker.specs.Claims.{entry_at, AllTags, padded_header, GivesPadded, TooFew, Stops, Repeats, Unread, Ends}
use Rattle.header_walker.proofs.Answers.{within, unread_at}

-- the first of some calls is made first
calls_front : (w : TagWalker) (n : ℕ) → after_calls (suc n) w ≡ after_calls n (walker_after w)
calls_front w zero = refl
calls_front w (suc n) = ap walker_after (calls_front w n)

answer_front : (w : TagWalker) (n : ℕ) → call_answer (suc n) w ≡ call_answer n (walker_after w)
answer_front w n = ap walker_answer (calls_front w n)

-- ---- where the walk stops, the walker stays
stays : (a : Answer Item) (p : ℕ) → Stops a → place_behind a p ≡ p
stays (gives (tag q t n)) p e = absurd e
stays (gives end) p _ = refl
stays (refused m q) p _ = refl

walker_stays : (w : TagWalker) → Stops (walker_answer w) → walker_after w ≡ w
walker_stays w e = ap (λ (p : ℕ). record { header = w.header; at = p }) (stays (walker_answer w) w.at e)

calls_stay : (w : TagWalker) (n : ℕ) → Stops (walker_answer w) → after_calls n w ≡ w
calls_stay w zero e = refl
calls_stay w (suc n) e = ap walker_after (calls_stay w n e) ∙ walker_stays w e

pub repeats : Repeats
repeats w n e = let s = calls_stay w n e in (ap walker_answer s, s)

-- ---- the walk ends: each tag takes four bytes at least
module _ (w : TagWalker) where
  -- a walker that has stopped has stopped after n calls more
  stopped : (n : ℕ) (a : Answer Item) → walker_answer w ≡ a → Stops a → Stops (call_answer n w)
  stopped n a d e = let f = subst Stops (sym d) e in subst Stops (sym (repeats w n f).0) f

  no_room : 256 ≤ w.at → (a : Answer Item) → walker_answer w ≡ a → Stops a
  no_room e (gives (tag q t k)) d = let i = within w.header.now w.at d in absurd (omega arith)
  no_room e (gives end) d = tt
  no_room e (refused m q) d = tt

  one_call : (n : ℕ) → 256 ≤ w.at + 4 * suc n → ((p : ℕ) → 256 ≤ p + 4 * n → Stops (call_answer n (record { header = w.header; at = p }))) → (a : Answer Item) → walker_answer w ≡ a
      → Stops (call_answer n (walker_after w))
  one_call n e ih (gives (tag q t k)) d =
      let i = within w.header.now w.at d in
      let at : place_behind (walker_answer w) w.at ≡ q + 4 + k = ap (λ (a : Answer Item). place_behind a w.at) d in
      ih (place_behind (walker_answer w) w.at) (omega arith)
  one_call n e ih (gives end) d = let f = stopped (suc n) (gives end) d tt in subst Stops (answer_front w n) f
  one_call n e ih (refused m q) d = let f = stopped (suc n) (refused m q) d tt in subst Stops (answer_front w n) f

ends_from : (w : TagWalker) (n : ℕ) → 256 ≤ w.at + 4 * n → Stops (call_answer n w)
ends_from w zero e = no_room w (omega arith) (walker_answer w) refl
ends_from w (suc n) e =
    subst Stops (sym (answer_front w n)) (one_call w n e (λ p. ends_from (record { header = w.header; at = p }) n) (walker_answer w) refl)

pub ends : Ends
ends w n e = ends_from w n (omega arith)

-- ---- all tags, in their order
module _ (s : List ℕ) (enough : 256 ≤ length s) where
  abbrev h : List ℕ
  h = take 256 s

  abbrev Rest : ℕ → Tags
  Rest q = tags_at h q

  first_entry : (a : Answer Item) → a ≡ entry_at (on_item a Rest) 0
  first_entry (gives (tag q t k)) = refl
  first_entry (gives end) = refl
  first_entry (refused m q) = refl

  later_entry : (p n : ℕ) (a : Answer Item) → tags_at h p ≡ on_item a Rest → entry_at (tags_at h (place_behind a p)) n ≡ entry_at (on_item a Rest) (suc n)
  later_entry p n (gives (tag q t k)) e = refl
  later_entry p n (gives end) e = ap (λ (l : Tags). entry_at l n) e
  later_entry p n (refused m q) e = ap (λ (l : Tags). entry_at l n) e

  found : (p : ℕ) → tags_at h p ≡ on_item (walk_at s p) Rest
  found p = tags_step h p ∙ ap (λ (a : Answer Item). on_item a Rest) (walk_header s p enough)

  tags_from_lem : (w : TagWalker) (n : ℕ) → w.header.now ≡ s → call_answer n w ≡ entry_at (tags_at h w.at) n
  tags_from_lem w zero e =
      let f = found w.at in
      ap (λ (x : List ℕ). walk_at x w.at) e ∙ first_entry (walk_at s w.at) ∙ ap (λ (l : Tags). entry_at l 0) (sym f)
  tags_from_lem w (suc n) e =
      let f = found w.at in
      let a : walker_answer w ≡ walk_at s w.at = ap (λ (x : List ℕ). walk_at x w.at) e in
      answer_front w n ∙ tags_from_lem (walker_after w) n e ∙ ap (λ (x : Answer Item). entry_at (tags_at h (place_behind x w.at)) n) a
      ∙ later_entry w.at n (walk_at s w.at) f ∙ ap (λ (l : Tags). entry_at l (suc n)) (sym f)

pub all_tags : AllTags
all_tags s n e = tags_from_lem s.now e (start_of s) n refl

padded_tags : tags_at (take 256 padded_header) first_tag ≡ more 10 0x0042 1 (more 16 0x8000 0 (more 20 0x0001 0 no_more))
unfolding tags_from item_from item_at
padded_tags = refl

pub gives_padded : GivesPadded
gives_padded s n e =
    let long : 256 ≤ length s.now = rw e (lit≤ tt) in
    all_tags s n long ∙ ap (λ (x : List ℕ). entry_at (tags_at (take 256 x) first_tag) n) e ∙ ap (λ (l : Tags). entry_at l n) padded_tags

pub too_few : TooFew
too_few s n e =
    let g = walk_short s.now first_tag e in
    (repeats (start_of s) n (subst Stops g tt)).0 ∙ sym g

-- ---- two headers that differ before the first tag alone
behind_first : (s : List ℕ) (p : ℕ) (a : Answer Item) → walk_at s p ≡ a → first_tag ≤ p → first_tag ≤ place_behind a p
behind_first s p (gives (tag q t k)) d e = let i = within s p d in omega arith
behind_first s p (gives end) d e = e
behind_first s p (refused m q) d e = e

module _ (a b l : List ℕ) (m : length a ≡ first_tag) (n : length b ≡ first_tag) where
  unread_once : (v w : TagWalker) → v.header.now ≡ a ++ l → w.header.now ≡ b ++ l → v.at ≡ w.at → first_tag ≤ v.at → walker_answer v ≡ walker_answer w
  unread_once v w e f g i =
      ap (λ (x : List ℕ). walk_at x v.at) e ∙ unread_at a b l v.at m n i ∙ ap (λ (x : List ℕ). walk_at x v.at) (sym f) ∙ ap (walk_at w.header.now) g

  unread_calls : (k : ℕ) (v w : TagWalker) → v.header.now ≡ a ++ l → w.header.now ≡ b ++ l → v.at ≡ w.at → first_tag ≤ v.at → call_answer k v ≡ call_answer k w
  unread_calls zero v w e f g i = unread_once v w e f g i
  unread_calls (suc k) v w e f g i =
      let same = unread_once v w e f g i in
      let at : (walker_after v).at ≡ (walker_after w).at = ap (λ (x : Answer Item). place_behind x v.at) same ∙ ap (place_behind (walker_answer w)) g in
      answer_front v k ∙ unread_calls k (walker_after v) (walker_after w) e f at (behind_first v.header.now v.at (walker_answer v) refl i) ∙ sym (answer_front w k)

pub unread : Unread
unread a b l v w k m n e f g i = unread_calls a b l m n k v w e f g i
