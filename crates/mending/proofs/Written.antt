-- The flags of a mark, written sector by sector.
use mathlib.Core.Path.{◌≡◌, refl, sym, ap, ◌∙◌}
use mathlib.Core.Logic.{◌≢◌}
use mathlib.Core.List.{List}
use Prim.Native.Nat.{ℕ, zero, suc, ◌+◌, ◌*◌, ◌/◌, ◌%◌, ◌≤◌, ◌<◌}
use native.Mathlib.Decide.{ℕ_discrete}
use native.Mathlib.Omega.{arith}
use lib.ListN.{length, get_or, set}
use lib.Seq.{set-get_or}
use borrow.Author.Tests.{eq-eqb, ne_eqb}
use Rattle.std.specs.Prelude.{Some}
use Rattle.flash.specs.declared.Geometry.{Geometry}
use Rattle.flash.specs.Sizes.{firmware, partition_size, Limits}
use Rattle.flash.specs.Buffers.{Flash, flash}
use Rattle.flash_flags.specs.declared.Flag.{Flag}
use Rattle.flash_flags.specs.declared.Flag.TheVariants.{Untouched, Saved, Moved, Exchanged}
use Rattle.flash_flags.specs.SectorFlags.{flag_value, flag_of, flag_byte, half, with_half, flag_at, set_flag}
use Rattle.flash_flags.proofs.Halves.{half_even, half_odd, with_even, with_odd}
use Rattle.flash_flags.proofs.Laws.{reads_flag, length_flag, byte_flag, half_flag, flag_same, flag_other}
use Rattle.mending.specs.declared.Mark.{Mark}
use Rattle.mending.specs.Marks.{flag_under}
use Rattle.mending.specs.Mending.{set_flags_to, set_flags, differing, changed}
use Rattle.mending.specs.Mended.{OnlyFlags}

-- ---- a flag that is there already

-- a half byte that reads as a flag is its value
value_of : (h : ℕ) (v : Flag) → flag_of h ≡ Some v → h ≡ flag_value v
unfolding flag_of
value_of h v e = by (ℕ_discrete h 0xF) (ℕ_discrete h 7) (ℕ_discrete h 3) (ℕ_discrete h 0)
  where
    is : (w : Flag) → h ≡ flag_value w → h ≡ flag_value v
    is w q = let s : Some w ≡ Some v = sym (reads_flag w) ∙ ap flag_of (sym q) ∙ e in let n : w ≡ v = cc in q ∙ ap flag_value n

    by : Dec (h ≡ 0xF) → Dec (h ≡ 7) → Dec (h ≡ 3) → Dec (h ≡ 0) → h ≡ flag_value v
    by (yes q) b c d = is Untouched q
    by (no a) (yes q) c d = is Saved q
    by (no a) (no b) (yes q) d = is Moved q
    by (no a) (no b) (no c) (yes q) = is Exchanged q
    by (no a) (no b) (no c) (no d) =
        let s = rw (ne_eqb h 0xF a, ne_eqb h 7 b, ne_eqb h 3 c, ne_eqb h 0 d) at e in absurd (let z : ◌≡◌ {A = ℕ} 0 1 = cc in omega arith)

half_back : (i b : ℕ) → with_half i b (half i b) ≡ b
half_back i b = by (ℕ_discrete (i % 2) 0)
  where
    by : Dec (i % 2 ≡ 0) → with_half i b (half i b) ≡ b
    by (yes e) = rw (half_even i b e, with_even i b (b % 16) e) (omega arith)
    by (no e) = rw (half_odd i b e, with_odd i b (b / 16) e) (omega arith)

set_same : (g : Geometry) (u : List ℕ) (i : ℕ) (v : Flag) → flag_at g u i ≡ Some v → set_flag g i v u ≡ u
unfolding set_flag flag_at
set_same g u i v e =
    let b : ℕ = get_or u (flag_byte g i) 0 in
    let h : half i b ≡ flag_value v = value_of (half i b) v e in
    ap (λ (x : ℕ). set u (flag_byte g i) (with_half i b x)) (sym h) ∙ ap (λ (x : ℕ). set u (flag_byte g i) x) (half_back i b) ∙ set-get_or u (flag_byte g i) 0

-- ---- sector by sector

module _ (g : Geometry) (G : Limits g) (k : Mark) (u : List ℕ) (U : length u ≡ partition_size g) where
  pub length_to : (n : ℕ) → n ≤ firmware g → length (set_flags_to g k n u) ≡ length u
  unfolding set_flags_to
  length_to zero h = refl
  length_to (suc n) h =
      let e : length (set_flags_to g k n u) ≡ length u = length_to n (omega arith) in
      length_flag g G (set_flags_to g k n u) (e ∙ U) n (flag_under k n) (omega arith) ∙ e

  pub byte_to : (n : ℕ) → n ≤ firmware g → (p : ℕ) → ((i : ℕ) → i < n → p ≢ flag_byte g i) → get_or (set_flags_to g k n u) p 0 ≡ get_or u p 0
  unfolding set_flags_to
  byte_to zero h p q = refl
  byte_to (suc n) h p q =
      byte_flag g G (set_flags_to g k n u) (length_to n (omega arith) ∙ U) n (flag_under k n) (omega arith) p 0 (q n (omega arith)) ∙ byte_to n (omega arith) p (λ i l. q i (omega arith))

  half_to : (n : ℕ) → n ≤ firmware g → half (firmware g) (get_or (set_flags_to g k n u) (flag_byte g (firmware g)) 0) ≡ half (firmware g) (get_or u (flag_byte g (firmware g)) 0)
  unfolding set_flags_to
  half_to zero h = refl
  half_to (suc n) h =
      half_flag g G (set_flags_to g k n u) (length_to n (omega arith) ∙ U) n (flag_under k n) (omega arith) (firmware g) (omega arith) (λ e. absurd (omega arith))
      ∙ half_to n (omega arith)

  flag_to : (n : ℕ) → n ≤ firmware g → (j : ℕ) → j < n → flag_at g (set_flags_to g k n u) j ≡ Some (flag_under k j)
  unfolding set_flags_to
  flag_to zero h j hj = absurd (omega arith)
  flag_to (suc n) h j hj = by (ℕ_discrete j n) (λ l. flag_to n (omega arith) j l)
    where
      L : length (set_flags_to g k n u) ≡ partition_size g
      L = length_to n (omega arith) ∙ U

      by : Dec (j ≡ n) → (j < n → flag_at g (set_flags_to g k n u) j ≡ Some (flag_under k j)) → flag_at g (set_flag g n (flag_under k n) (set_flags_to g k n u)) j ≡ Some (flag_under k j)
      by (yes e) below =
          ap (flag_at g (set_flag g n (flag_under k n) (set_flags_to g k n u))) e ∙ flag_same g G (set_flags_to g k n u) L n (flag_under k n) (omega arith)
          ∙ ap (λ (i : ℕ). Some (flag_under k i)) (sym e)
      by (no e) below = flag_other g G (set_flags_to g k n u) L n (flag_under k n) (omega arith) j (omega arith) e ∙ below (omega arith)

  -- where the flags are there already
  same_to : ((j : ℕ) → j < firmware g → flag_at g u j ≡ Some (flag_under k j)) → (n : ℕ) → n ≤ firmware g → set_flags_to g k n u ≡ u
  unfolding set_flags_to
  same_to h zero l = refl
  same_to h (suc n) l = ap (set_flag g n (flag_under k n)) (same_to h n (omega arith)) ∙ set_same g u n (flag_under k n) (h n (omega arith))

-- ---- all of them

pub only_flags : (g : Geometry) (G : Limits g) (k : Mark) (f : Flash) → length f.update ≡ partition_size g
    → OnlyFlags g f (flash f.boot (set_flags g k f.update) f.swap) k
only_flags g G k f U = record {
  written = flag_to g G k f.update U (firmware g) (omega arith);
  rest = record {
    boot = refl;
    swap = refl;
    same_length = length_to g G k f.update U (firmware g) (omega arith);
    elsewhere = byte_to g G k f.update U (firmware g) (omega arith);
  };
  unused = half_to g G k f.update U (firmware g) (omega arith);
}

pub set_again : (g : Geometry) (G : Limits g) (k : Mark) (u : List ℕ) → length u ≡ partition_size g
    → ((j : ℕ) → j < firmware g → flag_at g u j ≡ Some (flag_under k j)) → set_flags g k u ≡ u
set_again g G k u U h = same_to g G k u U h (firmware g) (omega arith)

-- ---- bytes that differ

none_differ : (g : Geometry) (u : List ℕ) (n : ℕ) → differing g u u n ≡ 0
unfolding differing
none_differ g u zero = refl
none_differ g u (suc n) = rw (eq-eqb (get_or u (flag_byte g (2 * n)) 0) (get_or u (flag_byte g (2 * n)) 0) refl) (omega (arith, none_differ g u n))

pub none_changed : (g : Geometry) (u : List ℕ) → changed g u u ≡ 0
none_changed g u = none_differ g u ((firmware g + 1) / 2)
