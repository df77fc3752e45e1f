-- The invariant after a moves of the flags, and what each operation does to it.
use mathlib.Core.Path.{◌≡◌, refl, sym, ap, ◌∙◌, subst}
use mathlib.Core.Logic.{◌≢◌}
use mathlib.Core.List.{List}
use Prim.Native.Nat.{ℕ, suc, ◌+◌, ◌-◌, ◌*◌, ◌≤◌, ◌<◌}
use native.Mathlib.Decide.{ℕ_discrete, dec_lt}
use native.Mathlib.Omega.{arith}
use lib.ListN.{length}
use Rattle.std.specs.Prelude.{Some}
use Rattle.exchange.specs.Base.{Geometry, BootStatus, Flag, Untouched, Exchanged, Leg, UpdateToSwap, BootToUpdate, SwapToBoot}
use Rattle.exchange.specs.Base.{firmware, Limits, sector_number, erased, Flash, Shaped, boot_byte, boot_status_of, boot_status_at, update_status_of, update_status_at, moved, flag_at, set_flag}
use Rattle.exchange.specs.declared.Area.{Area}
use Rattle.exchange.specs.declared.Area.TheVariants.{Boot, Update, Swap}
use Rattle.exchange.specs.declared.Operation.TheVariants.{WriteFlag, EraseBootTrailer, EraseUpdateTrailer, WriteBootStatus}
use Rattle.exchange.specs.Operations.{get, put, perform, target, source, next_flag, old_boot_in, old_update_in}
use Rattle.flash.proofs.Bytes.{length_part}
use Rattle.flash.proofs.Laws.{length_sector, sector_same, sector_other, length_erased, sector_in}
use Rattle.flash_flags.proofs.Laws.{status_sector, flag_sector, length_flag, sector_flag, length_status, sector_status}
use Rattle.flash_flags.specs.SectorFlags.{leg_moves}
use Rattle.flash_flags.proofs.Moves.{moved_none, moved_all, leg_below, AfterMoves, moves_on_lem}

-- after a moves: the flags, and each old sector in its place
pub record Sound (g : Geometry) (old : Flash) (a : ℕ) (f : Flash) : Type 0 where
  pub shaped : Shaped g f
  pub moves : AfterMoves g f.update a
  pub boot_in : (j : ℕ) → j < firmware g → get g (old_boot_in (moved (a - 3 * j))) j f ≡ get g Boot j old
  pub update_in : (j : ℕ) → j < firmware g → get g (old_update_in (moved (a - 3 * j))) j f ≡ get g Update j old

-- all flags 0
pub record Crossed (g : Geometry) (old f : Flash) : Type 0 where
  pub shaped : Shaped g f
  pub flags0 : (j : ℕ) → j < firmware g → flag_at g f.update j ≡ Some Exchanged
  pub boot_is : (j : ℕ) → j < firmware g → get g Boot j f ≡ get g Update j old
  pub update_is : (j : ℕ) → j < firmware g → get g Update j f ≡ get g Boot j old

-- the sector that a leg writes holds what it is to hold
abbrev pub Ready : Geometry → Leg → ℕ → Flash → Type 0
Ready g leg i f = get g (target leg) i f ≡ get g (source leg) i f

-- a sector has S bytes
pub sized : (g : Geometry) (f : Flash) → Shaped g f → (a : Area) (i : ℕ) → i < firmware g → length (get g a i f) ≡ g.size
sized g f s Boot i hi =
    length_part (i * g.size) g.size f.boot (omega (arith, length_erased g.size, sector_in g s.limits i (erased g.size) f.boot (omega arith) s.boot (length_erased g.size)))
sized g f s Update i hi =
    length_part (i * g.size) g.size f.update (omega (arith, length_erased g.size, sector_in g s.limits i (erased g.size) f.update (omega arith) s.update (length_erased g.size)))
sized g f s Swap i hi = s.swap

pub next_moved : (leg : Leg) → next_flag leg ≡ moved (suc (leg_moves leg))
next_moved UpdateToSwap = refl
next_moved BootToUpdate = refl
next_moved SwapToBoot = refl

-- a sector that is not the front one: its flag is F or 0, and stays so through the leg
data Far (a j : ℕ) : Type 0 where
  ahead : moved (a - 3 * j) ≡ Untouched → moved (suc a - 3 * j) ≡ Untouched → Far a j
  behind : moved (a - 3 * j) ≡ Exchanged → moved (suc a - 3 * j) ≡ Exchanged → Far a j

far : (i : ℕ) (leg : Leg) (j : ℕ) → j ≢ i → Far (3 * i + leg_moves leg) j
far i leg j k = by_order (dec_lt j i)
  where
    by_order : Dec (j < i) → Far (3 * i + leg_moves leg) j
    by_order (yes l) = behind (moved_all (3 * i + leg_moves leg - 3 * j) (omega arith)) (moved_all (suc (3 * i + leg_moves leg) - 3 * j) (omega arith))
    by_order (no l) =
        ahead (moved_none (3 * i + leg_moves leg - 3 * j) (omega (arith, leg_below leg)))
        (moved_none (suc (3 * i + leg_moves leg) - 3 * j) (omega (arith, leg_below leg)))

same_moved : {a j : ℕ} → Far a j → moved (a - 3 * j) ≡ moved (suc a - 3 * j)
same_moved (ahead e k) = e ∙ sym k
same_moved (behind e k) = e ∙ sym k

-- by which sector j is: the front one, one ahead or one behind
keep : (g : Geometry) (f f' : Flash) (i : ℕ) (leg : Leg) (j : ℕ) (h : Flag → Area)
    → get g (h (moved (leg_moves leg))) j f' ≡ get g (h (moved (leg_moves leg))) j f
    → (j ≢ i → get g (h Untouched) j f' ≡ get g (h Untouched) j f)
    → (j ≢ i → get g (h Exchanged) j f' ≡ get g (h Exchanged) j f)
    → get g (h (moved (3 * i + leg_moves leg - 3 * j))) j f' ≡ get g (h (moved (3 * i + leg_moves leg - 3 * j))) j f
keep g f f' i leg j h front F0 F3 = by (ℕ_discrete j i)
  where
    at : Flag → Type 0
    at v = get g (h v) j f' ≡ get g (h v) j f

    apart : j ≢ i → Far (3 * i + leg_moves leg) j → at (moved (3 * i + leg_moves leg - 3 * j))
    apart k (ahead e e') = subst at (sym e) (F0 k)
    apart k (behind e e') = subst at (sym e) (F3 k)

    by : Dec (j ≡ i) → at (moved (3 * i + leg_moves leg - 3 * j))
    by (yes e) = let q : 3 * i + leg_moves leg - 3 * j ≡ leg_moves leg = omega arith in subst at (sym (ap moved q)) front
    by (no k) = apart k (far i leg j k)

module _ (g : Geometry) (G : Limits g) where
  -- ---- a sector is written
  pub put_shaped : (d : Area) (i : ℕ) (x : List ℕ) (f : Flash) → i ≤ firmware g → length x ≡ g.size → Shaped g f → Shaped g (put g d i x f)
  put_shaped Boot i x f hi X s =
      record { limits = G; boot = length_sector g G f.boot x s.boot X i hi ∙ s.boot; update = s.update; swap = s.swap }
  put_shaped Update i x f hi X s =
      record { limits = G; boot = s.boot; update = length_sector g G f.update x s.update X i hi ∙ s.update; swap = s.swap }
  put_shaped Swap i x f hi X s = record { limits = G; boot = s.boot; update = s.update; swap = X }

  module _ (d : Area) (i : ℕ) (x : List ℕ) (f : Flash) (X : length x ≡ g.size) (s : Shaped g f) where
    put_flag : (j : ℕ) → i < firmware g → j < firmware g → flag_at g (put g d i x f).update j ≡ flag_at g f.update j
    put_flag j hi hj = by d
      where
        by : (d : Area) → flag_at g (put g d i x f).update j ≡ flag_at g f.update j
        by Boot = refl
        by Update = flag_sector g G f.update x s.update X i hi j hj
        by Swap = refl

    pub put_boot_status : i < firmware g → boot_status_at g (put g d i x f).boot ≡ boot_status_at g f.boot
    put_boot_status hi = by d
      where
        by : (d : Area) → boot_status_at g (put g d i x f).boot ≡ boot_status_at g f.boot
        by Boot = ap boot_status_of (status_sector g G f.boot x s.boot X i hi)
        by Update = refl
        by Swap = refl

    pub put_update_status : i < firmware g → update_status_at g (put g d i x f).update ≡ update_status_at g f.update
    put_update_status hi = by d
      where
        by : (d : Area) → update_status_at g (put g d i x f).update ≡ update_status_at g f.update
        by Boot = refl
        by Update = ap update_status_of (status_sector g G f.update x s.update X i hi)
        by Swap = refl

    put_boot_other : (j : ℕ) → i ≤ firmware g → j ≢ i → get g Boot j (put g d i x f) ≡ get g Boot j f
    put_boot_other j hi k = by d
      where
        by : (d : Area) → get g Boot j (put g d i x f) ≡ get g Boot j f
        by Boot = sector_other g G f.boot x s.boot X i hi j k
        by Update = refl
        by Swap = refl

    put_update_other : (j : ℕ) → i ≤ firmware g → j ≢ i → get g Update j (put g d i x f) ≡ get g Update j f
    put_update_other j hi k = by d
      where
        by : (d : Area) → get g Update j (put g d i x f) ≡ get g Update j f
        by Boot = refl
        by Update = sector_other g G f.update x s.update X i hi j k
        by Swap = refl

  -- a leg writes neither place of its sector
  target_not_boot : (leg : Leg) (i j : ℕ) (x : List ℕ) (f : Flash)
      → get g (old_boot_in (moved (leg_moves leg))) j (put g (target leg) i x f) ≡ get g (old_boot_in (moved (leg_moves leg))) j f
  target_not_boot UpdateToSwap i j x f = refl
  target_not_boot BootToUpdate i j x f = refl
  target_not_boot SwapToBoot i j x f = refl

  target_not_update : (leg : Leg) (i j : ℕ) (x : List ℕ) (f : Flash)
      → get g (old_update_in (moved (leg_moves leg))) j (put g (target leg) i x f) ≡ get g (old_update_in (moved (leg_moves leg))) j f
  target_not_update UpdateToSwap i j x f = refl
  target_not_update BootToUpdate i j x f = refl
  target_not_update SwapToBoot i j x f = refl

  module _ (old : Flash) (i : ℕ) (leg : Leg) (hi : i < firmware g) (f : Flash) (s : Sound g old (3 * i + leg_moves leg) f) where
    -- any bytes in the sector that the leg writes
    pub scratch : (x : List ℕ) → length x ≡ g.size → Sound g old (3 * i + leg_moves leg) (put g (target leg) i x f)
    scratch x X = record {
      shaped = put_shaped d i x f (omega arith) X s.shaped;
      moves = λ j hj. put_flag d i x f X s.shaped j hi hj ∙ s.moves j hj;
      boot_in = λ j hj. keep g f f' i leg j old_boot_in (target_not_boot leg i j x f)
          (λ k. put_boot_other d i x f X s.shaped j (omega arith) k) (λ k. put_update_other d i x f X s.shaped j (omega arith) k) ∙ s.boot_in j hj;
      update_in = λ j hj. keep g f f' i leg j old_update_in (target_not_update leg i j x f)
          (λ k. put_update_other d i x f X s.shaped j (omega arith) k) (λ k. put_boot_other d i x f X s.shaped j (omega arith) k) ∙ s.update_in j hj;
    }
      where
        d : Area
        d = target leg

        f' : Flash
        f' = put g d i x f

    -- a copy makes it ready
    pub length_source : length (get g (source leg) i f) ≡ g.size
    length_source = sized g f s.shaped (source leg) i hi

    pub copied : Ready g leg i (put g (target leg) i (get g (source leg) i f) f)
    copied = by leg length_source
      where
        by : (leg : Leg) → length (get g (source leg) i f) ≡ g.size → Ready g leg i (put g (target leg) i (get g (source leg) i f) f)
        by UpdateToSwap X = refl
        by BootToUpdate X = sector_same g G f.update (get g Boot i f) s.shaped.update X i (omega arith)
        by SwapToBoot X = sector_same g G f.boot f.swap s.shaped.boot X i (omega arith)

    -- the flag moves on
    pub advance : Ready g leg i f → Sound g old (suc (3 * i + leg_moves leg)) (perform g (WriteFlag (sector_number i) (next_flag leg)) f)
    advance ready = record {
      shaped = record {
        limits = G;
        boot = s.shaped.boot;
        update = length_flag g G f.update s.shaped.update i v hi ∙ s.shaped.update;
        swap = s.shaped.swap;
      };
      moves = subst (λ (w : Flag). AfterMoves g (set_flag g i w f.update) (suc (3 * i + leg_moves leg))) (sym (next_moved leg))
          (moves_on_lem g G f.update s.shaped.update i leg hi s.moves);
      boot_in = λ j hj. place_by old_boot_in moved_boot j hj (ℕ_discrete j i) ∙ s.boot_in j hj;
      update_in = λ j hj. place_by old_update_in moved_update j hj (ℕ_discrete j i) ∙ s.update_in j hj;
    }
      where
        v : Flag
        v = next_flag leg

        f' : Flash
        f' = perform g (WriteFlag (sector_number i) v) f

        same_sector : (d : Area) (j : ℕ) → j < firmware g → get g d j f' ≡ get g d j f
        same_sector Boot j hj = refl
        same_sector Update j hj = sector_flag g G f.update s.shaped.update i v hi j hj
        same_sector Swap j hj = refl

        moved_boot : get g (old_boot_in (moved (suc (leg_moves leg)))) i f ≡ get g (old_boot_in (moved (leg_moves leg))) i f
        moved_boot = by leg ready
          where
            by : (leg : Leg) → Ready g leg i f → get g (old_boot_in (moved (suc (leg_moves leg)))) i f ≡ get g (old_boot_in (moved (leg_moves leg))) i f
            by UpdateToSwap r = refl
            by BootToUpdate r = r
            by SwapToBoot r = refl

        moved_update : get g (old_update_in (moved (suc (leg_moves leg)))) i f ≡ get g (old_update_in (moved (leg_moves leg))) i f
        moved_update = by leg ready
          where
            by : (leg : Leg) → Ready g leg i f → get g (old_update_in (moved (suc (leg_moves leg)))) i f ≡ get g (old_update_in (moved (leg_moves leg))) i f
            by UpdateToSwap r = r
            by BootToUpdate r = refl
            by SwapToBoot r = r

        place_by : (h : Flag → Area) → get g (h (moved (suc (leg_moves leg)))) i f ≡ get g (h (moved (leg_moves leg))) i f → (j : ℕ) → j < firmware g → Dec (j ≡ i)
            → get g (h (moved (suc (3 * i + leg_moves leg) - 3 * j))) j f' ≡ get g (h (moved (3 * i + leg_moves leg - 3 * j))) j f
        place_by h m j hj (yes e) =
            let q : suc (3 * i + leg_moves leg) - 3 * j ≡ suc (leg_moves leg) = omega arith in
            let q' : 3 * i + leg_moves leg - 3 * j ≡ leg_moves leg = omega arith in
            same_sector (h (moved (suc (3 * i + leg_moves leg) - 3 * j))) j hj
            ∙ ap (λ (b : ℕ). get g (h (moved b)) j f) q
            ∙ ap (λ (n : ℕ). get g (h (moved (suc (leg_moves leg)))) n f) e ∙ m ∙ ap (λ (n : ℕ). get g (h (moved (leg_moves leg))) n f) (sym e)
            ∙ ap (λ (b : ℕ). get g (h (moved b)) j f) (sym q')
        place_by h m j hj (no k) =
            same_sector (h (moved (suc (3 * i + leg_moves leg) - 3 * j))) j hj
            ∙ ap (λ (w : Flag). get g (h w) j f) (sym (same_moved (far i leg j k)))

  -- ---- after the last leg
  pub moved_end : (j : ℕ) → j < firmware g → moved (3 * firmware g - 3 * j) ≡ Exchanged
  moved_end j h = moved_all (3 * firmware g - 3 * j) (omega arith)

  pub crossed : (old f : Flash) → Sound g old (3 * firmware g) f → Crossed g old f
  crossed old f s = record {
    shaped = s.shaped;
    flags0 = λ j hj. s.moves j hj ∙ ap Some (moved_end j hj);
    boot_is = λ j hj. ap (λ (w : Flag). get g (old_update_in w) j f) (sym (moved_end j hj)) ∙ s.update_in j hj;
    update_is = λ j hj. ap (λ (w : Flag). get g (old_boot_in w) j f) (sym (moved_end j hj)) ∙ s.boot_in j hj;
  }

  module _ (old f : Flash) (s : Crossed g old f) where
    below : (j : ℕ) → j < firmware g → j ≢ firmware g
    below j h e = omega arith

    pub boot_trailer_lem : Crossed g old (perform g EraseBootTrailer f)
    boot_trailer_lem = record {
      shaped = put_shaped Boot (firmware g) (erased g.size) f (omega arith) (length_erased g.size) s.shaped;
      flags0 = s.flags0;
      boot_is = λ j hj. put_boot_other Boot (firmware g) (erased g.size) f (length_erased g.size) s.shaped j (omega arith) (below j hj) ∙ s.boot_is j hj;
      update_is = s.update_is;
    }

    pub boot_status_lem : (v : BootStatus) → Crossed g old (perform g (WriteBootStatus v) f)
    boot_status_lem v = record {
      shaped = record {
        limits = G;
        boot = length_status g G f.boot s.shaped.boot (boot_byte v) ∙ s.shaped.boot;
        update = s.shaped.update;
        swap = s.shaped.swap;
      };
      flags0 = s.flags0;
      boot_is = λ j hj. sector_status g G f.boot s.shaped.boot (boot_byte v) j hj ∙ s.boot_is j hj;
      update_is = s.update_is;
    }

    pub update_trailer_lem : (j : ℕ) → j < firmware g → get g Update j (perform g EraseUpdateTrailer f) ≡ get g Boot j old
    update_trailer_lem j hj =
        put_update_other Update (firmware g) (erased g.size) f (length_erased g.size) s.shaped j (omega arith) (below j hj) ∙ s.update_is j hj
