-- What the search for tags and the reader answer, by the tests on the way. Assumes nothing.
use mathlib.Core.Path.{◌≡◌, refl, sym, ap, ◌∙◌}
use Prim.Native.Nat.{ℕ, ◌≤◌, ◌<◌}
use mathlib.Core.List.{List}
use mathlib.Core.Bool.{Bool, true, false, cond, not}
use lib.ListN.{length, take}
use lib.Seq.{length-take-le}
use lib.Dec.{ltb, eqb}
use native.Mathlib.Omega.{arith}
use borrow.Author.Tests.{lt-ltb, le-ltb, eq-eqb, ne_eqb, ltb-false, eqb-true, eqb-false}
use Rattle.std.specs.Prelude.{Result, Ok, Err}
use Rattle.std.specs.Result.{IsErrAnd}
use Rattle.numbers.specs.Answer.{Answer, gives, refused, then}
use Rattle.numbers.specs.declared.HeaderRefusal.{HeaderRefusal}
use Rattle.numbers.specs.GivenBack.{refused_with, header_says, header_answer}
use Rattle.header_tags.specs.Bytes.{number}
use Rattle.header_tags.proofs.Laws.{refused_gives}
use Rattle.header_tags.proofs.Padding.{gives_refused, number_same, place_same}
use Rattle.header_places.specs.Table.{document_table}
use Rattle.header_places.specs.Judging.{places_in, TagsFit}
use Rattle.header_places.proofs.Fitting.{found_within}
use Rattle.header_reader.specs.declared.Header.{Header}
use Rattle.header_reader.specs.Reading.{magic, bytes_at, tag_places, values_at, read_header}

-- ---- where the tags stand

module _ (s : List ℕ) where
  pub short : length s < 256 → tag_places s ≡ refused 16 0
  unfolding tag_places
  short a = simp (lt-ltb _ _ a)

  module _ (room : 256 ≤ length s) {m : ℕ} (em : m ≡ number (bytes_at (take 256 s) 0 4)) where
    pub no_magic : (m ≡ number magic → ⊥) → tag_places s ≡ refused 2 0
    unfolding tag_places
    no_magic b = simp (le-ltb _ _ room, ne_eqb _ _ (rw em at b))

    module _ (is : m ≡ number magic) {z : ℕ} (ez : z ≡ number (bytes_at (take 256 s) 4 4)) where
      pub no_size : z ≡ 0 → tag_places s ≡ refused 3 4
      unfolding tag_places
      no_size b = simp (le-ltb _ _ room, eq-eqb _ _ (sym em ∙ is), eq-eqb _ _ (sym ez ∙ b))

      pub by_tags : (z ≡ 0 → ⊥) → tag_places s ≡ places_in document_table (take 256 s)
      unfolding tag_places
      by_tags b = simp (le-ltb _ _ room, eq-eqb _ _ (sym em ∙ is), ne_eqb _ _ (rw ez at b))

-- what places that are given tell of the bytes
pub record Located (s l : List ℕ) : Type 0 where
  pub room : 256 ≤ length s
  pub marked : number (bytes_at (take 256 s) 0 4) ≡ number magic
  pub some : number (bytes_at (take 256 s) 4 4) ≡ 0 → ⊥
  pub found : places_in document_table (take 256 s) ≡ gives l
  pub within : TagsFit document_table l 256

pub located : (s l : List ℕ) → tag_places s ≡ gives l → Located s l
unfolding tag_places
located s l e =
    go (ltb (length s) 256) (eqb (number (bytes_at (take 256 s) 0 4)) (number magic)) (eqb (number (bytes_at (take 256 s) 4 4)) 0) refl refl refl e
  where
    go : (b₁ b₂ b₃ : Bool) → ltb (length s) 256 ≡ b₁ → eqb (number (bytes_at (take 256 s) 0 4)) (number magic) ≡ b₂
        → eqb (number (bytes_at (take 256 s) 4 4)) 0 ≡ b₃
        → cond b₁ (refused 16 0) (cond (not b₂) (refused 2 0) (cond b₃ (refused 3 4) (places_in document_table (take 256 s)))) ≡ gives l
        → Located s l
    go true b₂ b₃ x m y e = refused_gives e
    go false false b₃ x m y e = refused_gives e
    go false true true x m y e = refused_gives e
    go false true false x m y e =
        let room : 256 ≤ length s = ltb-false _ _ x in
        let len : length (take 256 s) ≡ 256 = length-take-le 256 s room in
        record {
          room = room;
          marked = eqb-true _ _ m;
          some = eqb-false _ _ y;
          found = e;
          within = rw len at (found_within (take 256 s) l (omega arith) e);
        }

-- ---- the reader

-- by what the search gave
pub by_places : (s : List ℕ) {a : Answer (List ℕ)} → tag_places s ≡ a → read_header s ≡ then a (λ l. gives (values_at (take 256 s) l))
unfolding read_header
by_places s e = ap (λ (a : Answer (List ℕ)). then a (λ l. gives (values_at (take 256 s) l))) e

-- and back: what the reader gives, it gives of places
pub record Taken (s : List ℕ) (v : Header) : Type 0 where
  pub places : List ℕ
  pub found : tag_places s ≡ gives places
  pub is : v ≡ values_at (take 256 s) places

module _ (s : List ℕ) where
  pub places_refused : (n p : ℕ) → read_header s ≡ refused n p → tag_places s ≡ refused n p
  unfolding read_header
  places_refused n p e = go (tag_places s) e
    where
      go : (a : Answer (List ℕ)) → then a (λ l. gives (values_at (take 256 s) l)) ≡ refused n p → a ≡ refused n p
      go (gives l) e = gives_refused e
      go (refused m q) e = rw (number_same e, place_same e)

  pub places_taken : (v : Header) → read_header s ≡ gives v → Taken s v
  unfolding read_header
  places_taken v e = go (tag_places s) refl e
    where
      go : (a : Answer (List ℕ)) → tag_places s ≡ a → then a (λ l. gives (values_at (take 256 s) l)) ≡ gives v → Taken s v
      go (gives l) x e = let i : values_at (take 256 s) l ≡ v = cc in record { places = l; found = x; is = sym i }
      go (refused m q) x e = refused_gives e

-- a refusal of the search is the reader's
pub handed_on : (s : List ℕ) (r : Result Header HeaderRefusal) (w : HeaderRefusal) → IsErrAnd r (λ e. e ≡ w)
    → refused_with {A = List ℕ} (header_says w) ≡ tag_places s → header_answer r ≡ read_header s
handed_on s (Ok v) w e f = absurd e
handed_on s (Err h) w e f = ap (λ (x : HeaderRefusal). refused_with {A = Header} (header_says x)) e ∙ sym (by_places s (sym f))
