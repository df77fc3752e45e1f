-- What a digest covers, byte by byte. Assumes nothing.
use mathlib.Core.Path.{◌≡◌, sym, ap, ap₂, ◌∙◌}
use Prim.Native.Nat.{ℕ, ◌+◌, ◌-◌, ◌≤◌, ◌<◌}
use mathlib.Core.List.{List}
use native.Mathlib.Decide.{dec_lt}
use native.Mathlib.Omega.{arith}
use lib.Dec.{lit<}
use lib.ListN.{length, get_or, take, drop, length-append, length-drop, get_or-append, get_or-eq_default}
use lib.Seq.{length-take-le, get_or-take, get_or-drop, ext_get_or, take_at, drop_at}
use Rattle.header_tags.specs.Bytes.{AllBytes}
use Rattle.image.specs.Check.{covered}
use Rattle.image.specs.Ordered.{Covers, CoversOne}

-- the header's part and the firmware's of what is covered
module _ (b : List ℕ) (at size : ℕ) (begins : at ≤ length b) (fits : size ≤ length b - 256) where
  length_before : length (take at b) ≡ at
  length_before = length-take-le at b begins

  length_behind : length (take size (drop 256 b)) ≡ size
  length_behind = length-take-le size (drop 256 b) (omega (arith, length-drop 256 b))

  pub length_covered : length (covered b at size) ≡ at + size
  length_covered = length-append (take at b) (take size (drop 256 b)) ∙ ap₂ (λ (x y : ℕ). x + y) length_before length_behind

  pub before : take at (covered b at size) ≡ take at b
  before = take_at (take at b) (take size (drop 256 b)) at length_before

  pub behind : drop at (covered b at size) ≡ take size (drop 256 b)
  behind = drop_at (take at b) (take size (drop 256 b)) at length_before

  pub byte_before : (i : ℕ) → i < at → get_or (covered b at size) i 0 ≡ get_or b i 0
  byte_before i lt =
      get_or-append (take at b) (take size (drop 256 b)) 0 i (omega (arith, length_before)) ∙ get_or-take at b i 0 lt

  pub byte_behind : (i : ℕ) → i < size → get_or (covered b at size) (at + i) 0 ≡ get_or b (256 + i) 0
  byte_behind i lt =
      sym (get_or-drop at (covered b at size) i 0) ∙ ap (λ (l : List ℕ). get_or l i 0) behind ∙ get_or-take size (drop 256 b) i 0 lt
      ∙ get_or-drop 256 b i 0

  -- each is a byte, where those of b are
  pub all_bytes : AllBytes b → AllBytes (covered b at size)
  all_bytes h i = by (dec_lt i at) (dec_lt i (at + size))
    where
      by : Dec (i < at) → Dec (i < at + size) → get_or (covered b at size) i 0 < 256
      by (yes l) d = rw (byte_before i l) (h i)
      by (no g) (yes l) =
          let j : i ≡ at + (i - at) = omega arith in
          let e : get_or (covered b at size) i 0 ≡ get_or b (256 + (i - at)) 0 =
          ap (λ (k : ℕ). get_or (covered b at size) k 0) j ∙ byte_behind (i - at) (omega arith) in
          rw e (h (256 + (i - at)))
      by (no g) (no l) = rw (get_or-eq_default (covered b at size) 0 {n = i} (omega (arith, length_covered))) (lit< tt)

  -- it is told byte by byte, and nothing else is
  pub covered_covers : Covers b at size (covered b at size)
  covered_covers = record { extent = length_covered; header = byte_before; firmware = byte_behind }

  pub covers_is : (m : List ℕ) → Covers b at size m → m ≡ covered b at size
  covers_is m c = ext_get_or 0 m (covered b at size) (c.extent ∙ sym length_covered) (λ i lt. by i lt (dec_lt i at))
    where
      by : (i : ℕ) → i < length m → Dec (i < at) → get_or m i 0 ≡ get_or (covered b at size) i 0
      by i lt (yes l) = c.header i l ∙ sym (byte_before i l)
      by i lt (no g) =
          let j : i ≡ at + (i - at) = omega arith in
          ap (λ (k : ℕ). get_or m k 0) j ∙ c.firmware (i - at) (omega (arith, c.extent)) ∙ sym (byte_behind (i - at) (omega (arith, c.extent)))
          ∙ sym (ap (λ (k : ℕ). get_or (covered b at size) k 0) j)

pub covers_one : CoversOne
covers_one b at size begins fits = (covered_covers b at size begins fits, covers_is b at size begins fits)
