-- What the making answers, by the tests on the way; and its two writings. Assumes nothing.
use mathlib.Core.Path.{◌≡◌, refl, sym, ap, ap₂, ◌∙◌}
use Prim.Native.Nat.{ℕ, ◌^◌, ◌≤◌, ◌<◌}
use mathlib.Core.List.{List, ◌++◌}
use native.Mathlib.Omega.{arith}
use lib.ListN.{length, take, drop, replicate, length-append, length-drop}
use lib.Seq.{take-length, drop_at}
use borrow.Author.Tests.{lt-ltb, le-ltb, lt-leb, le-leb, eq-eqb, ne_eqb}
use Rattle.numbers.specs.Answer.{gives, refused}
use Rattle.digest_fips180.specs.Sha256.{sha256}
use Rattle.header_tags.specs.Bytes.{field_bytes}
use Rattle.header_reader.specs.declared.Header.{Header}
use Rattle.header_writer.specs.Writing.{Write, write, header_bytes, digest_tag, write_header}
use Rattle.header_writer.proofs.Putting.{length_required, length_hint, length_header}
use Rattle.image.specs.Check.{covered}
use Rattle.release_values.specs.declared.Stated.{Stated}
use Rattle.release_header.specs.Making.{header_with, digest_for, header_for, make_header}

module _ (v : Stated) (firmware out : List ℕ) where
  pub too_short : length out < 256 → write (refused 16 0) out ≡ make_header v firmware out
  unfolding make_header
  too_short a = simp (lt-ltb _ _ a)

  pub empty : 256 ≤ length out → length firmware ≡ 0 → write (refused 3 4) out ≡ make_header v firmware out
  unfolding make_header
  empty a e = simp (le-ltb _ _ a, eq-eqb _ _ e)

  pub too_large : 256 ≤ length out → 2 ^ 32 ≤ length firmware → write (refused 3 4) out ≡ make_header v firmware out
  unfolding make_header
  too_large a b = simp (le-ltb _ _ a, ne_eqb (length firmware) 0 (λ e. omega arith), le-leb _ _ b)

  pub made : {w : Write} → 256 ≤ length out → (length firmware ≡ 0 → ⊥) → length firmware < 2 ^ 32
      → w ≡ write_header (header_for v firmware) out → w ≡ make_header v firmware out
  unfolding make_header
  made a some b e = rw e (simp (le-ltb _ _ a, ne_eqb _ _ some, lt-leb _ _ b))

-- ---- the digest of what is made

-- the digest has no say in what stands before its tag, and neither has what stands behind the header
pub before_tag : (v : Stated) (f d e x y : List ℕ) → take digest_tag (header_bytes (header_with v f d) ++ x) ≡ take digest_tag (header_bytes (header_with v f e) ++ y)
unfolding header_bytes field_bytes
before_tag v f d e x y = refl

module _ (v : Stated) (f d : List ℕ) (d32 : length d ≡ 32) (s64 : length v.signature ≡ 64) (h32 : length v.hint ≡ 32) where
  pub length_made : length (header_bytes (header_with v f d)) ≡ 256
  length_made = length_header (header_with v f d) (length_required (header_with v f d) d32 s64) (length_hint v.has_hint v.hint h32)

  -- what the digest covers in an image that begins with such a header and the firmware
  pub covers : (x y : List ℕ) → take (length f) y ≡ f
      → covered (header_bytes (header_with v f d) ++ y) digest_tag (length f) ≡ take digest_tag (header_bytes (header_with v f (replicate 32 0)) ++ x) ++ f
  covers x y is =
      ap₂ (λ (p q : List ℕ). p ++ q) (before_tag v f d (replicate 32 0) y x)
      (ap (take (length f)) (drop_at (header_bytes (header_with v f d)) y 256 length_made) ∙ is)

-- ---- two writings

writes : (h : Header) (out : List ℕ) → 256 ≤ length out → (h.size ≡ 0 → ⊥) → write_header h out ≡ write (gives tt) (header_bytes h ++ drop 256 out)
unfolding write_header
writes h out a s = simp (le-ltb _ _ a, ne_eqb _ _ s)

-- a header with a size is never refused where there is room
pub never : (h : Header) (out : List ℕ) {n p : ℕ} {l : List ℕ} → 256 ≤ length out → (h.size ≡ 0 → ⊥) → write (refused n p) l ≡ write_header h out → ⊥
never h out {n} {p} a s e =
    let z : refused n p ≡ gives tt = ap (λ (w : Write). w.answer) (e ∙ writes h out a s) in
    cc

module _ (v : Stated) (f out : List ℕ) (room : 256 ≤ length out) (some : length f ≡ 0 → ⊥)
    (s64 : length v.signature ≡ 64) (h32 : length v.hint ≡ 32) where
  abbrev zeros : List ℕ
  zeros = replicate 32 0

  abbrev first : List ℕ
  first = header_bytes (header_with v f zeros)

  module _ {w : Write} (once : w ≡ write_header (header_with v f zeros) out) where
    bytes_first : w.bytes ≡ first ++ drop 256 out
    bytes_first = ap (λ (x : Write). x.bytes) (once ∙ writes (header_with v f zeros) out room some)

    length_first : length w.bytes ≡ length out
    length_first =
        ap length bytes_first ∙ omega (arith, length-append first (drop 256 out), length_made v f zeros refl s64 h32, length-drop 256 out)

    pub digest_made : {d : List ℕ} → d ≡ sha256 (take digest_tag w.bytes ++ f) → d ≡ digest_for v f
    unfolding digest_for
    digest_made e =
        e ∙ ap (λ (l : List ℕ). sha256 (take digest_tag l ++ f)) bytes_first
        ∙ ap sha256 (sym (covers v f zeros refl s64 h32 (drop 256 out) f (take-length f)))

    -- the second writing covers the first
    pub twice : {d : List ℕ} {u : Write} → d ≡ sha256 (take digest_tag w.bytes ++ f) → u ≡ write_header (header_with v f d) w.bytes
        → u ≡ write_header (header_for v f) out
    twice {d} e is =
        is ∙ writes (header_with v f d) w.bytes (omega (arith, length_first)) some
        ∙ ap (λ (l : List ℕ). write (gives tt) (header_bytes (header_with v f d) ++ l))
        (ap (drop 256) bytes_first ∙ drop_at first (drop 256 out) 256 (length_made v f zeros refl s64 h32))
        ∙ sym (writes (header_with v f d) out room some) ∙ ap (λ (x : List ℕ). write_header (header_with v f x) out) (digest_made e)
