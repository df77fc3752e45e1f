-- The old images that a mark shows: their lengths, their sectors, and that flag bytes have no part in them.
use mathlib.Core.Path.{◌≡◌, refl, sym, ap, ap₂, ◌∙◌}
use mathlib.Core.Bool.{Bool, true, false}
use mathlib.Core.List.{List, ◌++◌, append_assoc}
use Prim.Native.Nat.{ℕ, zero, suc, ◌+◌, ◌*◌, ◌≤◌, ◌<◌}
use native.Mathlib.Nat.{mul-le-mul_right, suc-mul}
use native.Mathlib.Decide.{ℕ_discrete}
use native.Mathlib.Omega.{arith}
use lib.ListN.{length, take, drop, length-append}
use lib.Seq.{take_at, drop_at, get_or-take, get_or-drop, ext_get_or}
use borrow.Author.Tests.{ltb-true, lt-ltb}
use Rattle.numbers.specs.Answer.{Answer, gives, refused}
use Rattle.flash.specs.declared.Geometry.{Geometry}
use Rattle.flash.specs.Sizes.{firmware, partition_size}
use Rattle.flash.specs.Sectors.{part, sector_of, firmware_of}
use Rattle.flash.specs.Buffers.{Flash, Shaped}
use Rattle.exchange.specs.declared.Area.{Area}
use Rattle.exchange.specs.declared.Area.TheVariants.{Boot, Update, Swap}
use Rattle.exchange.specs.Operations.{get}
use Rattle.exchange.specs.Decision.{Check}
use Rattle.exchange.specs.Demand.{ReadsFirmware}
use Rattle.exchange.specs.RuledOut.{Newer}
use Rattle.flash.proofs.Checked.{size_split, sector_end}
use Rattle.exchange.proofs.Accepted.{check_same}
use Rattle.flash.proofs.Bytes.{length_part}
use Rattle.flash_flags.proofs.Laws.{flag_place}
use Rattle.mending.specs.declared.Mark.{Mark}
use Rattle.mending.specs.declared.OldImage.{OldImage}
use Rattle.mending.specs.declared.OldImage.TheVariants.{Boot as BootImage, Update as UpdateImage}
use Rattle.mending.specs.Marks.{flag_under}
use Rattle.mending.specs.OldImages.{place_of, own_area, old_sector, joined, old_partition, Fits, greater, fits_mark}
use Rattle.mending.specs.Mended.{ButFlags, ShownByTables}

-- ---- sectors one behind the other

module _ (s : ℕ → List ℕ) (z : ℕ) where
  pub length_joined : (n : ℕ) → ((i : ℕ) → i < n → length (s i) ≡ z) → length (joined s n) ≡ n * z
  unfolding joined
  length_joined zero h = omega arith
  length_joined (suc n) h =
      omega (arith, length-append (joined s n) (s n), length_joined n (λ i k. h i (omega arith)), h n (omega arith), suc-mul n z)

  pub part_joined : (n : ℕ) (t : List ℕ) → ((i : ℕ) → i < n → length (s i) ≡ z) → (i : ℕ) → i < n → part (i * z) z (joined s n ++ t) ≡ s i
  unfolding joined part
  part_joined zero t h i hi = absurd (omega arith)
  part_joined (suc n) t h i hi =
      ap (λ (l : List ℕ). part (i * z) z l) (append_assoc (joined s n) (s n) t)
      ∙ by (ℕ_discrete i n) (λ l. part_joined n (s n ++ t) (λ j k. h j (omega arith)) i l)
    where
      by : Dec (i ≡ n) → (i < n → part (i * z) z (joined s n ++ (s n ++ t)) ≡ s i) → part (i * z) z (joined s n ++ (s n ++ t)) ≡ s i
      by (yes e) below =
          ap (λ (j : ℕ). part (j * z) z (joined s n ++ (s n ++ t))) e
          ∙ ap (λ (l : List ℕ). take z l) (drop_at (joined s n) (s n ++ t) (n * z) (length_joined n (λ j k. h j (omega arith))))
          ∙ take_at (s n) t z (h n (omega arith)) ∙ ap s (sym e)
      by (no e) below = below (omega arith)

-- ---- the old partitions

module _ (g : Geometry) (f : Flash) (S : Shaped g f) where
  get_length : (a : Area) (i : ℕ) → i ≤ firmware g → length (get g a i f) ≡ g.size
  get_length Boot i h = length_part (i * g.size) g.size f.boot (omega (arith, size_split g S.limits, mul-le-mul_right g.size h, S.boot))
  get_length Update i h = length_part (i * g.size) g.size f.update (omega (arith, size_split g S.limits, mul-le-mul_right g.size h, S.update))
  get_length Swap i h = S.swap

  module _ (image : OldImage) (k : Mark) where
    -- each sector of an old image is whole
    pub old_sector_length : (i : ℕ) → i < firmware g → length (old_sector g image k f i) ≡ g.size
    old_sector_length i h = get_length (place_of image (flag_under k i)) i (omega arith)

    -- its firmware sectors, and all of it
    pub old_firmware_length : length (joined (old_sector g image k f) (firmware g)) ≡ firmware g * g.size
    old_firmware_length = length_joined (old_sector g image k f) g.size (firmware g) old_sector_length

    pub old_length : length (old_partition g image k f) ≡ partition_size g
    unfolding old_partition
    old_length =
        omega (
          arith,
          length-append (joined (old_sector g image k f) (firmware g)) (get g (own_area image) (firmware g) f),
          old_firmware_length,
          get_length (own_area image) (firmware g) (omega arith),
          size_split g S.limits,
        )

    pub old_firmware : firmware_of g (old_partition g image k f) ≡ joined (old_sector g image k f) (firmware g)
    unfolding old_partition
    old_firmware = take_at (joined (old_sector g image k f) (firmware g)) (get g (own_area image) (firmware g) f) (firmware g * g.size) old_firmware_length

    pub old_sector_lem : (i : ℕ) → i < firmware g → sector_of g i (old_partition g image k f) ≡ old_sector g image k f i
    unfolding old_partition
    old_sector_lem i h = part_joined (old_sector g image k f) g.size (firmware g) (get g (own_area image) (firmware g) f) old_sector_length i h

pub shown_by_tables : ShownByTables
shown_by_tables g k f S = record {
  shaped = record { limits = S.limits; boot = old_length g f S BootImage k; update = old_length g f S UpdateImage k; swap = S.swap };
  boot = old_sector_lem g f S BootImage k;
  update = old_sector_lem g f S UpdateImage k;
}

-- ---- the test of a mark

pub greater_newer : (u b : Answer ℕ) → greater u b ≡ true → Newer u b
greater_newer (gives v) (gives w) e = record { new = v; old = w; update_good = refl; boot_good = refl; newer = ltb-true w v e }
greater_newer (gives v) (refused n p) e = absurd (let z : ◌≡◌ {A = ℕ} 0 1 = cc in omega arith)
greater_newer (refused n p) b e = absurd (let z : ◌≡◌ {A = ℕ} 0 1 = cc in omega arith)

pub newer_greater : (u b : Answer ℕ) → Newer u b → greater u b ≡ true
newer_greater u b N = rw (N.update_good, N.boot_good) (lt-ltb N.old N.new N.newer)

pub true_fits : (check : Check) (g : Geometry) (f : Flash) (k : Mark) → fits_mark check g f k ≡ true → Fits check g f k
unfolding fits_mark
true_fits check g f k e = greater_newer (check g (old_partition g UpdateImage k f)) (check g (old_partition g BootImage k f)) e

pub fits_true : (check : Check) (g : Geometry) (f : Flash) (k : Mark) → Fits check g f k → fits_mark check g f k ≡ true
unfolding fits_mark
fits_true check g f k N = newer_greater (check g (old_partition g UpdateImage k f)) (check g (old_partition g BootImage k f)) N

pub false_not : (check : Check) (g : Geometry) (f : Flash) (k : Mark) → fits_mark check g f k ≡ false → ¬ Fits check g f k
false_not check g f k e N = let q : fits_mark check g f k ≡ true = fits_true check g f k N in let z : ◌≡◌ {A = ℕ} 0 1 = cc in omega arith

pub not_false : (check : Check) (g : Geometry) (f : Flash) (k : Mark) → ¬ Fits check g f k → fits_mark check g f k ≡ false
not_false check g f k h = by (fits_mark check g f k) refl
  where
    by : (t : Bool) → fits_mark check g f k ≡ t → t ≡ false
    by true e = absurd (h (true_fits check g f k e))
    by false e = refl

-- ---- flag bytes have no part in it

module _ (g : Geometry) (f f' : Flash) (S : Shaped g f) (E : ButFlags g f f') where
  pub but_shaped : Shaped g f'
  but_shaped = record {
    limits = S.limits;
    boot = ap length E.boot ∙ S.boot;
    update = E.same_length ∙ S.update;
    swap = ap length E.swap ∙ S.swap;
  }

  -- a firmware sector
  but_sector : (i : ℕ) → i < firmware g → sector_of g i f'.update ≡ sector_of g i f.update
  unfolding part
  but_sector i h =
      let e : i * g.size + g.size ≤ firmware g * g.size = sector_end g.size i (firmware g) h in
      let L : length (sector_of g i f.update) ≡ g.size = get_length g f S Update i (omega arith) in
      let L' : length (sector_of g i f'.update) ≡ g.size = get_length g f' but_shaped Update i (omega arith) in
      ext_get_or 0 (sector_of g i f'.update) (sector_of g i f.update) (omega arith)
      (λ j k.
      get_or-take g.size (drop (i * g.size) f'.update) j 0 (omega arith) ∙ get_or-drop (i * g.size) f'.update j 0
      ∙ E.elsewhere (i * g.size + j) (λ n l q. absurd (omega (arith, (flag_place g S.limits n l).0)))
      ∙ sym (get_or-take g.size (drop (i * g.size) f.update) j 0 (omega arith) ∙ get_or-drop (i * g.size) f.update j 0))

  pub but_get : (a : Area) (i : ℕ) → i < firmware g → get g a i f' ≡ get g a i f
  but_get Boot i h = ap (sector_of g i) E.boot
  but_get Update i h = but_sector i h
  but_get Swap i h = E.swap

  module _ (check : Check) (R : ReadsFirmware check g) where
    pub but_fits : (k : Mark) → fits_mark check g f' k ≡ fits_mark check g f k
    unfolding fits_mark
    but_fits k =
        ap₂ greater (same UpdateImage) (same BootImage)
      where
        same : (image : OldImage) → check g (old_partition g image k f') ≡ check g (old_partition g image k f)
        same image =
            check_same check g R (old_partition g image k f') (old_partition g image k f) (old_length g f' but_shaped image k) (old_length g f S image k)
            (λ i h. old_sector_lem g f' but_shaped image k i h ∙ but_get (place_of image (flag_under k i)) i h ∙ sym (old_sector_lem g f S image k i h))
