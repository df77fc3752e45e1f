-- One turn of the write: the flags of two sectors, which are in one byte.
use mathlib.Core.Path.{◌≡◌, sym, ap, ◌∙◌}
use mathlib.Core.Logic.{◌≢◌}
use mathlib.Core.List.{List}
use Prim.Native.Nat.{ℕ, suc, ◌+◌, ◌*◌, ◌/◌, ◌≤◌, ◌<◌, min}
use native.Mathlib.Decide.{dec_lt}
use native.Mathlib.Omega.{arith}
use lib.ListN.{length, get_or}
use borrow.Author.Tests.{lt-ltb, le-ltb}
use Rattle.flash.specs.declared.Geometry.{Geometry}
use Rattle.flash.specs.Sizes.{firmware, partition_size, Limits}
use Rattle.flash_flags.specs.declared.Flag.{Flag}
use Rattle.flash_flags.specs.SectorFlags.{flag_byte, set_flag}
use Rattle.flash_flags.proofs.Laws.{same_flag_byte, length_flag, byte_flag}
use Rattle.mending.specs.declared.Mark.{Mark}
use Rattle.mending.specs.Marks.{flag_under}
use Rattle.mending.specs.Mending.{set_flags_to}
use Rattle.mending_flags.specs.Inner.{set_one, set_pair}

module _ (g : Geometry) (k : Mark) (n : ℕ) where
  -- the flag writes of a turn whose second sector is a firmware sector, and of one whose second sector is not
  pub pair_two : (u v w : List ℕ) (a b : Flag) → 2 * n + 1 < firmware g → a ≡ flag_under k (2 * n) → v ≡ set_flag g (2 * n) a u → b ≡ flag_under k (2 * n + 1)
      → w ≡ set_flag g (2 * n + 1) b v → w ≡ set_pair g k n u
  unfolding set_pair
  pair_two u v w a b h p e q f =
      rw (lt-ltb (2 * n + 1) (firmware g) h)
      (f ∙ ap (λ (x : Flag). set_flag g (2 * n + 1) x v) q ∙ ap (set_one g k (2 * n + 1)) (e ∙ ap (λ (x : Flag). set_flag g (2 * n) x u) p))

  pub pair_one : (u v : List ℕ) (a : Flag) → firmware g ≤ 2 * n + 1 → a ≡ flag_under k (2 * n) → v ≡ set_flag g (2 * n) a u → v ≡ set_pair g k n u
  unfolding set_pair
  pair_one u v a h p e = rw (le-ltb (2 * n + 1) (firmware g) h) (e ∙ ap (λ (x : Flag). set_flag g (2 * n) x u) p)

  -- the next sector's flag, behind those of the first i
  next_to : (u : List ℕ) (i j : ℕ) → j ≡ suc i → set_one g k i (set_flags_to g k i u) ≡ set_flags_to g k j u
  unfolding set_flags_to
  next_to u i j e = sym (ap (λ (x : ℕ). set_flags_to g k x u) e)

  -- behind the flags of the first 2 n sectors a turn sets those of the next two, or of the one that is left
  pub pair_to : (u v : List ℕ) → 2 * n < firmware g → v ≡ set_flags_to g k (2 * n) u → set_pair g k n v ≡ set_flags_to g k (min (2 * n + 2) (firmware g)) u
  unfolding set_pair
  pair_to u v h e = by (dec_lt (2 * n + 1) (firmware g))
    where
      one : set_one g k (2 * n) v ≡ set_flags_to g k (2 * n + 1) u
      one = ap (set_one g k (2 * n)) e ∙ next_to u (2 * n) (2 * n + 1) (omega arith)

      by : Dec (2 * n + 1 < firmware g) → set_pair g k n v ≡ set_flags_to g k (min (2 * n + 2) (firmware g)) u
      by (yes l) =
          rw (lt-ltb (2 * n + 1) (firmware g) l)
          (ap (set_one g k (2 * n + 1)) one ∙ next_to u (2 * n + 1) (min (2 * n + 2) (firmware g)) (omega arith))
      by (no l) = rw (le-ltb (2 * n + 1) (firmware g) (omega arith)) (one ∙ ap (λ (x : ℕ). set_flags_to g k x u) (omega arith))

  -- a turn leaves the other flag bytes
  module _ (G : Limits g) (j : ℕ) (o : j ≢ n) (hj : 2 * j < firmware g) where
    byte_one : (u : List ℕ) → length u ≡ partition_size g → (i : ℕ) → i < firmware g → i / 2 ≡ n → get_or (set_one g k i u) (flag_byte g (2 * j)) 0 ≡ get_or u (flag_byte g (2 * j)) 0
    byte_one u U i h e =
        byte_flag g G u U i (flag_under k i) h (flag_byte g (2 * j)) 0 (λ q. o (omega (arith, same_flag_byte g G (2 * j) i (omega arith) (omega arith) q)))

    pub byte_pair : (u : List ℕ) → length u ≡ partition_size g → 2 * n < firmware g → get_or (set_pair g k n u) (flag_byte g (2 * j)) 0 ≡ get_or u (flag_byte g (2 * j)) 0
    unfolding set_pair
    byte_pair u U h = by (dec_lt (2 * n + 1) (firmware g))
      where
        first : get_or (set_one g k (2 * n) u) (flag_byte g (2 * j)) 0 ≡ get_or u (flag_byte g (2 * j)) 0
        first = byte_one u U (2 * n) h (omega arith)

        by : Dec (2 * n + 1 < firmware g) → get_or (set_pair g k n u) (flag_byte g (2 * j)) 0 ≡ get_or u (flag_byte g (2 * j)) 0
        by (yes l) =
            rw (lt-ltb (2 * n + 1) (firmware g) l)
            (byte_one (set_one g k (2 * n) u) (length_flag g G u U (2 * n) (flag_under k (2 * n)) h ∙ U) (2 * n + 1) l (omega arith) ∙ first)
        by (no l) = rw (le-ltb (2 * n + 1) (firmware g) (omega arith)) first
