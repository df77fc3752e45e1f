-- The flag bytes that are written so far, and how many of them differ.
use mathlib.Core.Path.{◌≡◌, refl, ap, ◌∙◌}
use mathlib.Core.List.{List}
use Prim.Native.Nat.{ℕ, zero, suc, ◌+◌, ◌*◌, ◌/◌, ◌≤◌, ◌<◌, min}
use native.Mathlib.Decide.{ℕ_discrete}
use native.Mathlib.Omega.{arith}
use lib.ListN.{length, get_or}
use borrow.Author.Tests.{eq-eqb, ne_eqb}
use Rattle.flash.specs.declared.Geometry.{Geometry}
use Rattle.flash.specs.Sizes.{firmware, partition_size}
use Rattle.flash.specs.Sectors.{Partition}
use Rattle.flash_flags.specs.SectorFlags.{flag_byte}
use Rattle.flash_flags.proofs.Laws.{same_flag_byte}
use Rattle.mending.specs.declared.Mark.{Mark}
use Rattle.mending.specs.Mending.{set_flags_to, differs, differing}
use Rattle.mending.proofs.Written.{length_to, byte_to}
use Rattle.mending_flags.specs.Inner.{WrotePair}
use Rattle.mending_flags.proofs.Pairs.{pair_to, byte_pair}

differs_small : (a b : ℕ) → differs a b ≤ 1
differs_small a b = by (ℕ_discrete a b)
  where
    by : Dec (a ≡ b) → differs a b ≤ 1
    by (yes e) = rw (eq-eqb a b e) (omega arith)
    by (no e) = rw (ne_eqb a b e) (omega arith)

-- a turn counts one byte at most
pub one_at_most : {g : Geometry} {k : Mark} {n : ℕ} {u v : List ℕ} {c : ℕ} → WrotePair g k n u v c → c ≤ 1
one_at_most {g = g} {n = n} {u = u} {v = v} W = omega (arith, W.count, differs_small (get_or u (flag_byte g (2 * n)) 0) (get_or v (flag_byte g (2 * n)) 0))

-- where the first n flag bytes are the same, as many differ
same_count : (g : Geometry) (u v w : List ℕ) (n : ℕ) → ((j : ℕ) → j < n → get_or w (flag_byte g (2 * j)) 0 ≡ get_or v (flag_byte g (2 * j)) 0)
    → differing g u w n ≡ differing g u v n
unfolding differing
same_count g u v w zero h = refl
same_count g u v w (suc n) h =
    omega (arith, same_count g u v w n (λ j l. h j (omega arith)), ap (λ (x : ℕ). differs (get_or u (flag_byte g (2 * n)) 0) x) (h n (omega arith)))

-- n flag bytes are written: UPDATE's bytes were u and are v, and c of the n bytes differ
pub record Passed (g : Geometry) (k : Mark) (u v : List ℕ) (c n : ℕ) : Type 0 where
  pub most : n ≤ (firmware g + 1) / 2
  pub few : c ≤ n
  pub bytes : v ≡ set_flags_to g k (min (2 * n) (firmware g)) u
  pub count : c ≡ differing g u v n

module _ (g : Geometry) (k : Mark) (u : List ℕ) where
  -- none of them
  pub passed_none : Passed g k u u 0 0
  unfolding set_flags_to differing
  passed_none =
      let z : 0 ≡ min (2 * 0) (firmware g) = omega arith in
      record { most = omega arith; few = omega arith; bytes = ap (λ (x : ℕ). set_flags_to g k x u) z; count = refl }

  module _ (U : Partition g u) where
    pub passed_length : (v : List ℕ) (c n : ℕ) → Passed g k u v c n → length v ≡ length u
    passed_length v c n P = ap length P.bytes ∙ length_to g U.limits k u U.whole (min (2 * n) (firmware g)) (omega arith)

    -- the flag byte of the next turn is as it was
    byte_before : (v : List ℕ) (n : ℕ) → 2 * n < firmware g → v ≡ set_flags_to g k (2 * n) u → get_or v (flag_byte g (2 * n)) 0 ≡ get_or u (flag_byte g (2 * n)) 0
    byte_before v n h e =
        ap (λ (x : List ℕ). get_or x (flag_byte g (2 * n)) 0) e
        ∙ byte_to g U.limits k u U.whole (2 * n) (omega arith) (flag_byte g (2 * n)) (λ i l q. omega (arith, same_flag_byte g U.limits (2 * n) i (omega arith) (omega arith) q))

    -- and those of the turns before stay
    bytes_behind : (v w : List ℕ) (d n j : ℕ) → j < n → WrotePair g k n v w d → length v ≡ partition_size g → 2 * n < firmware g
        → get_or w (flag_byte g (2 * j)) 0 ≡ get_or v (flag_byte g (2 * j)) 0
    bytes_behind v w d n j l W L h = ap (λ (x : List ℕ). get_or x (flag_byte g (2 * j)) 0) W.bytes ∙ byte_pair g k n U.limits j (omega arith) (omega arith) v L h

    pub passed_more : (v w : List ℕ) (c d n : ℕ) → Passed g k u v c n → 2 * n < firmware g → WrotePair g k n v w d → Passed g k u w (c + d) (n + 1)
    unfolding differing
    passed_more v w c d n P h W =
        let e : v ≡ set_flags_to g k (2 * n) u = P.bytes ∙ ap (λ (x : ℕ). set_flags_to g k x u) (omega arith) in
        let L : length v ≡ partition_size g = passed_length v c n P ∙ U.whole in
        let old : differing g u w n ≡ differing g u v n = same_count g u v w n (λ j l. bytes_behind v w d n j l W L h) in
        let one : n + 1 ≡ suc n = omega arith in
        record {
          most = omega arith;
          few = omega (arith, P.few, one_at_most W);
          bytes = W.bytes ∙ pair_to g k n u v h e ∙ ap (λ (x : ℕ). set_flags_to g k x u) (omega arith);
          count = rw one (omega (arith, P.count, W.count, old, ap (λ (x : ℕ). differs x (get_or w (flag_byte g (2 * n)) 0)) (byte_before v n h e)));
        }
