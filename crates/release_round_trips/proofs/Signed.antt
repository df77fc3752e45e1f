-- What is signed of a release, and that one digest is one release. Assumes nothing.
use mathlib.Core.Path.{◌≡◌, refl, sym, ap, ◌∙◌}
use mathlib.Core.Logic.{◌⊎◌, inl, inr}
use Prim.Native.Nat.{ℕ, zero, suc, ◌+◌, ◌-◌, ◌/◌, ◌^◌, ◌<◌}
use mathlib.Core.Bool.{Bool, true, false, true≢false}
use mathlib.Core.List.{List, [], ◌++◌, append-nil}
use native.Mathlib.Decide.{dec_lt}
use native.Mathlib.Omega.{arith}
use lib.Dec.{lit<}
use lib.ListN.{length, get_or, take, drop, replicate, length-append, get_or-append}
use lib.Seq.{take_at, drop_at, take-length, get_or-append-add}
use Rattle.digest_fips180.specs.Sha256.{sha256}
use Rattle.digest_fips180.specs.Collision.{Message, Collision}
use Rattle.header_tags.specs.Bytes.{AllBytes, little_endian, number, tag_bytes, field_bytes, same}
use Rattle.header_tags.proofs.Same.{same_true, same_refl}
use Rattle.header_tags.proofs.Tested.{tested_bytes}
use Rattle.header_reader.specs.Reading.{magic, bytes_at}
use Rattle.header_writer.specs.Writing.{header_bytes}
use Rattle.header_round_trips.proofs.Numbers.{number_back}
use Rattle.release_values.specs.declared.Stated.{Stated}
use Rattle.release_values.specs.Stated.{Statable}
use Rattle.release_header.specs.Making.{header_with, digest_for, header_for}
use Rattle.release_header.proofs.Answers.{before_tag, covers}
use Rattle.release_round_trips.specs.Made.{DigestBeforeSigning, signed_bytes, SameRelease, OneDigestOneRelease}

-- ---- bytes

both_bytes : (x y : List ℕ) → AllBytes x → AllBytes y → AllBytes (x ++ y)
both_bytes x y a b i = by (dec_lt i (length x))
  where
    by : Dec (i < length x) → get_or (x ++ y) i 0 < 256
    by (yes l) = rw (get_or-append x y 0 i l) (a i)
    by (no g) =
        let e : i ≡ length x + (i - length x) = omega arith in
        rw (ap (λ (k : ℕ). get_or (x ++ y) k 0) e ∙ get_or-append-add x y (i - length x) 0) (b (i - length x))

number_bytes : (n x : ℕ) → AllBytes (little_endian n x)
number_bytes zero x i = lit< tt
number_bytes (suc n) x zero = omega arith
number_bytes (suc n) x (suc i) = number_bytes n (x / 256) i

tag_bytes_lem : (t : ℕ) (x : List ℕ) → AllBytes x → AllBytes (tag_bytes t x)
tag_bytes_lem t x a =
    both_bytes (little_endian 2 t) (little_endian 2 (length x) ++ x) (number_bytes 2 t) (both_bytes (little_endian 2 (length x)) x (number_bytes 2 (length x)) a)

-- ---- what stands before the digest's tag

abbrev before : Stated → List ℕ → List ℕ
before v f =
    (magic ++ little_endian 4 (length f)) ++ (tag_bytes 0x0001 (little_endian 4 v.version) ++ tag_bytes 0x0002 (little_endian 8 v.timestamp))

before_is : (v : Stated) (f d : List ℕ) → take 28 (header_bytes (header_with v f d)) ≡ before v f
unfolding header_bytes field_bytes
before_is v f d = refl

before_bytes : (v : Stated) (f : List ℕ) → AllBytes (before v f)
before_bytes v f =
    let size : List ℕ = little_endian 4 (length f) in
    let a : List ℕ = little_endian 4 v.version in
    let b : List ℕ = little_endian 8 v.timestamp in
    both_bytes (magic ++ size) (tag_bytes 0x0001 a ++ tag_bytes 0x0002 b)
    (both_bytes magic size (tested_bytes magic refl) (number_bytes 4 (length f)))
    (both_bytes (tag_bytes 0x0001 a) (tag_bytes 0x0002 b) (tag_bytes_lem 0x0001 a (number_bytes 4 v.version)) (tag_bytes_lem 0x0002 b (number_bytes 8 v.timestamp)))

-- ---- the digest

pub signed_digest : (v : Stated) (f : List ℕ) → Statable v → digest_for v f ≡ sha256 (signed_bytes v f)
unfolding digest_for
signed_digest v f s =
    ap sha256 (covers v f (replicate 32 0) refl s.signature s.hint f f (take-length f))
    ∙ ap (λ (l : List ℕ). sha256 (l ++ f))
    (before_tag v f (replicate 32 0) (digest_for v f) f [] ∙ ap (take 28) (append-nil (header_bytes (header_for v f))))

-- version and timestamp, and the firmware, are all that it is made of
pub digest_before_signing : DigestBeforeSigning
digest_before_signing v u f s t e₁ e₂ =
    let e : before v f ≡ before u f = rw (e₁, e₂) refl in
    signed_digest v f s
    ∙ ap (λ (l : List ℕ). sha256 (l ++ f)) (before_is v f (digest_for v f) ∙ e ∙ sym (before_is u f (digest_for u f)))
    ∙ sym (signed_digest u f t)

signed_message : (v : Stated) (f : List ℕ) → AllBytes f → length f < 2 ^ 32 → Message (signed_bytes v f)
signed_message v f a n =
    let e : signed_bytes v f ≡ before v f ++ f = ap (λ (l : List ℕ). l ++ f) (before_is v f (digest_for v f)) in
    record {
      bytes = rw e (both_bytes (before v f) f (before_bytes v f) a);
      short = rw e (omega (arith, length-append (before v f) f));
    }

-- they are found there again
found_again : (v u : Stated) (f f' : List ℕ) → Statable v → Statable u → signed_bytes v f ≡ signed_bytes u f' → SameRelease v u f f'
found_again v u f f' s t e =
    let m : before v f ++ f ≡ before u f' ++ f' =
    ap (λ (l : List ℕ). l ++ f) (sym (before_is v f (digest_for v f))) ∙ e ∙ ap (λ (l : List ℕ). l ++ f') (before_is u f' (digest_for u f')) in
    let b : before v f ≡ before u f' = sym (take_at (before v f) f 28 refl) ∙ ap (take 28) m ∙ take_at (before u f') f' 28 refl in
    record {
      version =
          sym (number_back 4 v.version s.version) ∙ ap (λ (l : List ℕ). number (bytes_at l 12 4)) b ∙ number_back 4 u.version t.version;
      timestamp =
          sym (number_back 8 v.timestamp s.timestamp) ∙ ap (λ (l : List ℕ). number (bytes_at l 20 8)) b
          ∙ number_back 8 u.timestamp t.timestamp;
      firmware = sym (drop_at (before v f) f 28 refl) ∙ ap (drop 28) m ∙ drop_at (before u f') f' 28 refl;
    }

pub one_digest_one_release : OneDigestOneRelease
one_digest_one_release v u f f' s t a a' n n' d = go (same (signed_bytes v f) (signed_bytes u f')) refl
  where
    go : (x : Bool) → same (signed_bytes v f) (signed_bytes u f') ≡ x → SameRelease v u f f' ⊎ Collision (signed_bytes v f) (signed_bytes u f')
    go true x = inl (found_again v u f f' s t (same_true _ _ x))
    go false x =
        inr (record {
          first = signed_message v f a n;
          second = signed_message u f' a' n';
          differ = λ e. absurd (true≢false (sym (rw e (same_refl _)) ∙ x));
          digest = sym (signed_digest v f s) ∙ d ∙ signed_digest u f' t;
        })
