-- What the image check answers, by the tests on the way. Assumes nothing.
use mathlib.Core.Path.{◌≡◌, ap, ◌∙◌}
use Prim.Native.Nat.{ℕ, ◌+◌, ◌*◌, ◌≤◌}
use mathlib.Core.List.{List, [], ◌∷◌, ◌++◌}
use native.Mathlib.Omega.{arith}
use lib.ListN.{length, get_or, take, drop}
use lib.Seq.{take-add, drop-drop}
use Rattle.std.specs.Prelude.{Result, Ok, Err}
use Rattle.std.specs.Result.{IsErrAnd}
use Rattle.numbers.specs.Answer.{gives, refused}
use Rattle.numbers.specs.declared.ImageRefusal.{ImageRefusal}
use Rattle.numbers.specs.GivenBack.{refused_with, image_says, image_answer}
use Rattle.flash.specs.declared.Geometry.{Geometry}
use Rattle.flash.specs.Sectors.{firmware_of}
use Rattle.flash.specs.Buffers.{partition_of}
use Rattle.header_tags.specs.Bytes.{number}
use Rattle.header_reader.specs.Reading.{bytes_at}
use Rattle.header_reader.proofs.BytesAt.{part_4}
use Rattle.image.specs.Check.{image_in, check_image}

-- a refusal that is handed on
pub handed_on : {A : Type 0} (r : Result A ImageRefusal) (s : ImageRefusal) → IsErrAnd r (λ e. e ≡ s) → image_answer r ≡ refused_with (image_says s)
handed_on (Ok v) s e = absurd e
handed_on {A = A} (Err h) s e = ap (λ (x : ImageRefusal). refused_with {A = A} (image_says x)) e

-- ---- a partition

-- two partitions that fit the geometry and agree in their firmware sectors get the same answer: the trailer sector has no say
pub firmware_decides : (n s : ℕ) (l l' : List ℕ) (g : Geometry) → partition_of n s l ≡ gives g → partition_of n s l' ≡ gives g
    → firmware_of g l ≡ firmware_of g l' → check_image n s l ≡ check_image n s l'
unfolding check_image
firmware_decides n s l l' g e e' same = rw (e, e') (ap image_in same)

-- what is answered, by the lengths
pub outside_is : (n s : ℕ) (l : List ℕ) → refused 1 0 ≡ partition_of n s l → check_image n s l ≡ refused 1 0
unfolding check_image
outside_is n s l e = rw (← e)

pub inside_is : (n s : ℕ) (l : List ℕ) {b : List ℕ} (g : Geometry) → gives g ≡ partition_of n s l → b ≡ firmware_of g l → check_image n s l ≡ image_in b
unfolding check_image
inside_is n s l g e p = rw (← e, ← p)

-- ---- a number in a header: eight bytes are twice four

module _ (h : List ℕ) where
  part_8 : (p : ℕ) → bytes_at h p 8 ≡ bytes_at h p 4 ++ bytes_at h (p + 4) 4
  part_8 p = take-add 4 4 (drop p h) ∙ ap (λ (l : List ℕ). bytes_at h p 4 ++ take 4 l) (drop-drop 4 p h)

  pub num_8 : {a b : ℕ} (p : ℕ) → p + 8 ≤ length h → a ≡ number (bytes_at h p 4) → b ≡ number (bytes_at h (p + 4) 4) → a + 4294967296 * b ≡ number (bytes_at h p 8)
  num_8 p fits ea eb =
      let four : bytes_at h p 4 ≡ get_or h p 0 ∷ get_or h (p + 1) 0 ∷ get_or h (p + 2) 0 ∷ get_or h (p + 3) 0 ∷ [] = part_4 h p (omega arith) in
      let fa = ea ∙ ap number four in
      rw (part_8 p, four) (omega arith)
