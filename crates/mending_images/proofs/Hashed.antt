-- The hash value of an old image from sector to sector, and its digest.
use mathlib.Core.Path.{◌≡◌, sym, ap, ap₂, ◌∙◌}
use mathlib.Core.Bool.{Bool, true}
use mathlib.Core.List.{List, [], ◌++◌, append-nil}
use Prim.Native.Nat.{ℕ, zero, suc, ◌+◌, ◌-◌, ◌*◌, ◌%◌, min, ◌≤◌, ◌<◌}
use native.Mathlib.Nat.{zero-mul, suc-mul, mul-le-mul_right, div-mul-le_self, lt-div-mul-add, div-lt_iff_lt-mul}
use native.Mathlib.Omega.{arith}
use lib.ListN.{length, take, drop, length-append}
use Rattle.digest_fips180.specs.Sha256.{H0, hash, sha256}
use Rattle.digest_sha256.specs.Parts.{hash_over, digest_after}
use Rattle.digest_sha256.proofs.Concatenation.{hash_front_on, after_front, digest_law}
use Rattle.flash.specs.declared.Geometry.{Geometry}
use Rattle.flash.specs.Sizes.{firmware, Limits}
use Rattle.flash.specs.Sectors.{part}
use Rattle.flash.specs.Buffers.{Flash, Shaped}
use Rattle.flash.proofs.Checked.{some_firmware}
use Rattle.header_tags.proofs.Same.{same_is}
use Rattle.image.proofs.Covered.{length_covered}
use Rattle.mending.specs.declared.Mark.{Mark}
use Rattle.mending.specs.declared.OldImage.{OldImage}
use Rattle.mending.specs.OldImages.{old_sector, joined}
use Rattle.mending.proofs.Images.{part_joined, old_sector_length, old_firmware_length}
use Rattle.mending_images.specs.declared.Claim.{Claim}
use Rattle.mending_images.specs.Claims.{old_bytes, covered_by, has_digest}
use Rattle.mending_images.specs.Parts.{firmware_in, last_sector, covered_first, hash_before, bytes_before, Lies}
use Rattle.mending_images.proofs.Pieces.{part_part, covered_none, left_length, covers_before, covered_all, covered_whole, left_in_header, left_in_sector}

-- ---- the sector in which the firmware ends

module _ (g : Geometry) (G : Limits g) (c : Claim) (L : Lies g c) where
  last_from : last_sector g c * g.size ≤ c.end
  last_from = omega (arith, div-mul-le_self (c.end - 1) g.size)

  last_end : c.end ≤ suc (last_sector g c) * g.size
  last_end = omega (arith, lt-div-mul-add {a = c.end - 1} {b = g.size} (omega (arith, G.small)), suc-mul (last_sector g c) g.size)

  pub last_there : last_sector g c < firmware g
  last_there = (div-lt_iff_lt-mul {k = g.size} {x = c.end - 1} {y = firmware g} (omega (arith, G.small))).1 (omega (arith, L.behind, L.within))

  before_last : (n : ℕ) → n < last_sector g c → suc n * g.size ≤ c.end
  before_last n l = omega (arith, mul-le-mul_right g.size l, last_from)

-- ---- from sector to sector

module _ (g : Geometry) (f : Flash) (image : OldImage) (k : Mark) where
  none_first : (at : ℕ) → hash_over H0 (covered_first g image k f at 0) ≡ H0
  unfolding joined hash
  none_first at = ap (hash_over H0) (covered_none at (0 * g.size - 256))

  -- nothing is hashed yet
  pub none_hashed : (c : Claim) → H0 ≡ hash_before g image k f c 0
  unfolding hash_before
  none_hashed c =
      let e : min 0 (last_sector g c) ≡ 0 = omega arith in
      sym (ap (λ (n : ℕ). hash_over H0 (covered_first g image k f c.digest n)) e ∙ none_first c.digest)

  -- the sector in which the firmware ends is not hashed, and none behind it
  pub none_more : (c : Claim) (n : ℕ) {h : List ℕ} → last_sector g c ≤ n → h ≡ hash_before g image k f c n → h ≡ hash_before g image k f c (n + 1)
  unfolding hash_before
  none_more c n l e =
      let q : min n (last_sector g c) ≡ min (n + 1) (last_sector g c) = omega arith in
      e ∙ ap (λ (x : ℕ). hash_over H0 (covered_first g image k f c.digest x)) q

  -- what stands before a sector's firmware follows the hash value of the sectors before it
  module _ (at : ℕ) (p : List ℕ) where
    hash_seam : (n : ℕ) → hash_over (hash_over H0 (covered_first g image k f at n)) (bytes_before g image k f at n ++ p)
        ≡ hash_over H0 (covers_before (old_sector g image k f) g.size at n ++ p)
    unfolding bytes_before covers_before
    hash_seam zero = ap (λ (h : List ℕ). hash_over h (take at (old_sector g image k f 0) ++ p)) (none_first at)
    hash_seam (suc n) = hash_front_on H0 (covered_first g image k f at (suc n)) p

    digest_seam : (n q : ℕ) → digest_after (hash_over H0 (covered_first g image k f at n)) (bytes_before g image k f at n ++ p) q
        ≡ digest_after H0 (covers_before (old_sector g image k f) g.size at n ++ p) q
    unfolding bytes_before covers_before
    digest_seam zero q = ap (λ (h : List ℕ). digest_after h (take at (old_sector g image k f 0) ++ p) q) (none_first at)
    digest_seam (suc n) q = after_front H0 (covered_first g image k f at (suc n)) p q

    length_seam : (n : ℕ) → (length (bytes_before g image k f at n) + length p) % 64 ≡ length (covers_before (old_sector g image k f) g.size at n ++ p) % 64
    unfolding bytes_before covers_before
    length_seam zero = omega (arith, length-append (take at (old_sector g image k f 0)) p)
    length_seam (suc n) =
        omega (arith, length-append (covered_first g image k f at (suc n)) p, left_length (covered_first g image k f at (suc n)))

module _ (g : Geometry) (f : Flash) (S : Shaped g f) (image : OldImage) (k : Mark) where
  -- what stands in the header stands in sector 0
  pub in_first : (at n : ℕ) → at + n ≤ 256 → part at n (old_sector g image k f 0) ≡ part at n (old_bytes g image k f)
  in_first at n h =
      let z : 0 * g.size + at ≡ at = omega (arith, zero-mul g.size) in
      let s : part (0 * g.size) g.size (old_bytes g image k f) ≡ old_sector g image k f 0 =
      ap (part (0 * g.size) g.size) (sym (append-nil (old_bytes g image k f)))
      ∙ part_joined (old_sector g image k f) g.size (firmware g) [] (old_sector_length g f S image k) 0 (some_firmware g S.limits) in
      ap (part at n) (sym s) ∙ part_part at n (0 * g.size) g.size (old_bytes g image k f) (omega (arith, S.limits.small))
      ∙ ap (λ (x : ℕ). part x n (old_bytes g image k f)) z

  -- a sector as it is lent
  pub sector_length : {l : List ℕ} (i : ℕ) → i < firmware g → l ≡ old_sector g image k f i → length l ≡ g.size
  sector_length i h e = ap length e ∙ old_sector_length g f S image k i h

  -- what stands before the firmware of sector n: of the header; or of sector i, which is the one before
  module _ (at n : ℕ) {l : List ℕ} where
    pub before_first : n ≡ 0 → l ≡ old_sector g image k f n → take at l ≡ bytes_before g image k f at n
    unfolding bytes_before
    before_first z e = ap (take at) (e ∙ ap (old_sector g image k f) z) ∙ ap (bytes_before g image k f at) (sym z)

    module _ (i : ℕ) {o : ℕ} (A : at ≤ 220) (N : n ≡ suc i) (W : n < firmware g) (O : o ≡ n * g.size) (E : l ≡ old_sector g image k f i) where
      pub before_header : o ≡ 256 → take (at - (at - at % 64)) (drop (at - at % 64) l) ≡ bytes_before g image k f at n
      unfolding bytes_before
      before_header e =
          ap (λ (x : List ℕ). take (at - (at - at % 64)) (drop (at - at % 64) x)) E
          ∙ left_in_header (old_sector g image k f) g.size at (firmware g) (omega arith) S.limits.small (old_sector_length g f S image k) i (omega arith)
          (sym (ap (λ (x : ℕ). x * g.size) N) ∙ sym O ∙ e)
          ∙ ap (bytes_before g image k f at) (sym N)

      pub before_sector : ¬ (o ≡ 256) → take (length l - (g.size - at % 64)) (drop (g.size - at % 64) l) ≡ bytes_before g image k f at n
      unfolding bytes_before
      before_sector e =
          ap (λ (x : List ℕ). take (length x - (g.size - at % 64)) (drop (g.size - at % 64) x)) E
          ∙ left_in_sector (old_sector g image k f) g.size at (firmware g) (omega arith) S.limits.small (old_sector_length g f S image k)
          (omega (arith, S.limits.unit)) i (omega arith) (λ q. e (O ∙ ap (λ (x : ℕ). x * g.size) N ∙ q))
          ∙ ap (bytes_before g image k f at) (sym N)

  module _ (c : Claim) (L : Lies g c) where
    -- one sector more
    pub one_hashed : {h a b r : List ℕ} (n : ℕ) → n < last_sector g c → h ≡ hash_before g image k f c n → a ≡ bytes_before g image k f c.digest n
        → b ≡ firmware_in g.size n c.end (old_sector g image k f n) → r ≡ hash_over h (a ++ b) → r ≡ hash_before g image k f c (n + 1)
    unfolding hash_before
    one_hashed n l eh ea eb er =
        let s : ℕ → List ℕ = old_sector g image k f in
        let at : ℕ = c.digest in
        let p : List ℕ = firmware_in g.size n c.end (s n) in
        let o : min n (last_sector g c) ≡ n = omega arith in
        let q : suc n ≡ min (n + 1) (last_sector g c) = omega arith in
        er ∙ ap₂ hash_over (eh ∙ ap (λ (x : ℕ). hash_over H0 (covered_first g image k f at x)) o) (ap₂ (λ (x y : List ℕ). x ++ y) ea eb)
        ∙ hash_seam g f image k at p n
        ∙ ap (hash_over H0) (sym (covered_whole s g.size at (firmware g) (omega (arith, L.digest)) S.limits.small (old_sector_length g f S image k) c.end n
        (omega (arith, last_there g S.limits c L)) (before_last g S.limits c L n l)))
        ∙ ap (λ (x : ℕ). hash_over H0 (covered_first g image k f at x)) q

    -- all that the digest covers: what is hashed before the last sector, and what stands before its firmware and there
    module _ {a b : List ℕ} (ea : a ≡ bytes_before g image k f c.digest (last_sector g c))
        (eb : b ≡ firmware_in g.size (last_sector g c) c.end (old_sector g image k f (last_sector g c))) where
      all_covered : covered_by c (old_bytes g image k f) ≡ covers_before (old_sector g image k f) g.size c.digest (last_sector g c) ++ b
      all_covered =
          covered_all (old_sector g image k f) g.size c.digest (firmware g) (omega (arith, L.digest)) S.limits.small (old_sector_length g f S image k)
          c.end (last_sector g c) (last_there g S.limits c L) L.behind (last_from g S.limits c L) (last_end g S.limits c L)
          ∙ ap (λ (x : List ℕ). covers_before (old_sector g image k f) g.size c.digest (last_sector g c) ++ x) (sym eb)

      all_length : length (covered_by c (old_bytes g image k f)) ≡ c.digest + c.end - 256
      all_length =
          length_covered (old_bytes g image k f) c.digest (c.end - 256) (omega (arith, L.digest, L.behind, L.within, old_firmware_length g f S image k))
          (omega (arith, L.within, old_firmware_length g f S image k))
          ∙ omega (arith, L.behind)

      pub same_count : (length a + length b) % 64 ≡ (c.digest + c.end - 256) % 64
      same_count =
          ap (λ (x : List ℕ). (length x + length b) % 64) ea ∙ length_seam g f image k c.digest b (last_sector g c)
          ∙ ap (λ (x : List ℕ). length x % 64) (sym all_covered) ∙ ap (λ (x : ℕ). x % 64) all_length

      pub digest_taken : {h d : List ℕ} → h ≡ hash_before g image k f c (firmware g) → d ≡ digest_after h (a ++ b) (c.digest + c.end - 256)
          → d ≡ sha256 (covered_by c (old_bytes g image k f))
      unfolding hash_before
      digest_taken eh ed =
          let q : min (firmware g) (last_sector g c) ≡ last_sector g c = omega (arith, last_there g S.limits c L) in
          ed ∙ ap₂ (λ (x y : List ℕ). digest_after x (y ++ b) (c.digest + c.end - 256))
          (eh ∙ ap (λ (x : ℕ). hash_over H0 (covered_first g image k f c.digest x)) q) ea
          ∙ digest_seam g f image k c.digest b (last_sector g c) (c.digest + c.end - 256)
          ∙ ap₂ (digest_after H0) (sym all_covered) (sym all_length) ∙ digest_law (covered_by c (old_bytes g image k f))

    -- the digest, compared with the one that is stated
    pub digest_compared : {d s : List ℕ} {b : Bool} → d ≡ sha256 (covered_by c (old_bytes g image k f))
        → s ≡ part (c.digest + 4) 32 (old_sector g image k f 0) → (b ≡ true → d ≡ s) → (d ≡ s → b ≡ true) → b ≡ has_digest (old_bytes g image k f) c
    unfolding has_digest part
    digest_compared {d} {s} {b} ed es yes_is is_yes =
        let q : s ≡ take 32 (drop (c.digest + 4) (old_bytes g image k f)) = es ∙ in_first (c.digest + 4) 32 (omega (arith, L.digest)) in
        same_is _ _ b (λ e. sym ed ∙ yes_is e ∙ q) (λ e. is_yes (ed ∙ e ∙ sym q))
