-- The front after each operation that the rules order is what the scan gives, and the flags stay well formed.
use mathlib.Core.Path.{◌≡◌, refl, sym, ap, ◌∙◌, subst}
use mathlib.Core.List.{List}
use Prim.Native.Nat.{ℕ, suc, ◌≤◌, ◌<◌}
use native.Mathlib.Omega.{arith}
use lib.ListN.{length}
use Rattle.std.specs.Prelude.{Option, Some, None}
use Rattle.flash.specs.declared.Geometry.{Geometry}
use Rattle.flash.specs.Sizes.{firmware}
use Rattle.flash.specs.Sectors.{write_sector, erased}
use Rattle.flash.specs.Buffers.{Flash, Shaped}
use Rattle.flash.proofs.Checked.{update_partition}
use Rattle.flash.proofs.Laws.{length_erased}
use Rattle.flash_status.specs.StatusBytes.{boot_status_at, update_byte, update_status_at}
use Rattle.flash_flags.specs.declared.Flag.{Flag}
use Rattle.flash_flags.specs.declared.Leg.{Leg}
use Rattle.flash_flags.specs.declared.Leg.TheVariants.{UpdateToSwap, BootToUpdate, SwapToBoot}
use Rattle.flash_flags.specs.SectorFlags.{moved, leg_moves, flag_at, set_flag, flags_at}
use Rattle.flash_flags.specs.Front.{front, by_front, WellFormed}
use Rattle.flash_flags.proofs.Laws.{flags_sector, flags_erased, flags_status}
use Rattle.flash_flags.proofs.Front.{sector_number_lem, front_within, front_tells, writes_front, front_leg, following_sector, formed_on, front_on}
use Rattle.exchange.specs.declared.Area.TheVariants.{Boot, Update, Swap}
use Rattle.exchange.specs.declared.Operation.{Operation}
use Rattle.exchange.specs.declared.Operation.TheVariants.{Erase, Copy, WriteFlag, EraseBootTrailer, EraseUpdateTrailer, WriteBootStatus, WriteUpdateStatus}
use Rattle.exchange.specs.Operations.{get, next_flag, perform}
use Rattle.exchange.specs.Order.{ordered_by, next_operation, perform_next, step}
use Rattle.exchange.proofs.Sound.{sized, next_moved}
use Rattle.exchange_front.specs.declared.Progress.{Progress}
use Rattle.exchange_front.specs.Inner.{front_after}
use Rattle.exchange_front.specs.Carried.{Current, SameNext, FrontFollows, StepsKeepForm}
use Rattle.exchange_front.proofs.Ordered.{Ordered, next_ordered}

-- UPDATE's bytes u' after the operation o on u
record Follows (g : Geometry) (u u' : List ℕ) (o : Operation) : Type 0 where
  formed : WellFormed g u'
  scanned : front g u' ≡ front_after o (front g u)

-- a leg ends: its flag is written, and the front is the sector of the next leg
after_leg : (leg : Leg) (i k : ℕ) (w : Flag) → w ≡ next_flag leg → k ≡ i → (o : Operation) → o ≡ WriteFlag (record { 0 = i }) w → following_sector leg i ≡ front_after o k
after_leg UpdateToSwap i k w e q o n = rw (n, e) (sym q)
after_leg BootToUpdate i k w e q o n = rw (n, e) (sym q)
after_leg SwapToBoot i k w e q o n = rw (n, e) (omega arith)

module _ (g : Geometry) (f : Flash) (s : Shaped g f) (h : WellFormed g f.update) where
  sector : (i : ℕ) (x : List ℕ) → i < firmware g → length x ≡ g.size → (o : Operation) → front_after o (front g f.update) ≡ front g f.update
      → Follows g f.update (write_sector g i x f.update) o
  sector i x hi X o e = record {
    formed = λ q. h (sym (flags_sector g s.limits f.update x s.update X i hi) ∙ q);
    scanned = (writes_front g f.update (update_partition g f s)).sector i x hi X ∙ sym e;
  }

  follows : (o : Operation) → Ordered g f.update o → Follows g f.update (perform g o f).update o
  follows (Erase Boot i) k = record { formed = h; scanned = refl }
  follows (Erase Update i) k = sector i.0 (erased g.size) k (length_erased g.size) (Erase Update i) refl
  follows (Erase Swap i) k = record { formed = h; scanned = refl }
  follows (Copy UpdateToSwap i) k = record { formed = h; scanned = refl }
  follows (Copy BootToUpdate i) k = sector i.0 (get g Boot i.0 f) k (sized g f s Boot i.0 k) (Copy BootToUpdate i) refl
  follows (Copy SwapToBoot i) k = record { formed = h; scanned = refl }
  follows (WriteFlag i v) k =
      let P = update_partition g f s in
      let e : moved (suc (leg_moves k.leg)) ≡ v = sym (next_moved k.leg) ∙ sym k.next in
      record {
        formed = subst (λ (w : Flag). WellFormed g (set_flag g i.0 w f.update)) e (formed_on g f.update P i.0 k.inside k.leg k.shows);
        scanned = ap (λ (w : Flag). front g (set_flag g i.0 w f.update)) (sym e) ∙ front_on g f.update P i.0 k.inside k.leg k.shows
            ∙ after_leg k.leg i.0 (front g f.update) v k.next (front_leg g f.update i.0 k.leg k.shows) (WriteFlag i v) refl;
      }
  follows EraseBootTrailer k = record { formed = h; scanned = refl }
  follows EraseUpdateTrailer k = record {
    formed = λ q. let z : ◌≡◌ {A = ℕ} 0 1 = cc (flags_erased g s.limits f.update s.update) in omega arith;
    scanned = (writes_front g f.update (update_partition g f s)).trailer;
  }
  follows (WriteBootStatus v) k = record { formed = h; scanned = refl }
  follows (WriteUpdateStatus v) k = record {
    formed = λ q. h (sym (flags_status g s.limits f.update s.update (update_byte v)) ∙ q);
    scanned = (writes_front g f.update (update_partition g f s)).status (update_byte v);
  }

pub front_follows : FrontFollows
front_follows job g p f o s h e = (follows g f s h o (next_ordered g s.limits job p f o e)).scanned

pub steps_keep_form : StepsKeepForm
unfolding step
steps_keep_form job g p f s h = by (next_operation job g p f) refl
  where
    by : (n : Option Operation) → next_operation job g p f ≡ n → WellFormed g (perform_next g n f).update
    by None e = h
    by (Some o) e = (follows g f s h o (next_ordered g s.limits job p f o e)).formed

-- ---- the next operation

pub same_next : SameNext
same_next job g at boot update G k =
    let e : by_front (firmware g) (front g update) (flag_at g update (front g update)) ≡ flags_at g update = sym ((front_tells g update G).alone k.formed) in
    ap (ordered_by job at.phase (boot_status_at g boot) (update_status_at g update))
    (ap (λ (i : ℕ). by_front (firmware g) i (flag_at g update i)) (sym (sector_number_lem k.scanned)) ∙ e)

-- the front that is carried is a firmware sector or m
pub current_within : (g : Geometry) (u : List ℕ) (at : Progress) → Current g u at → at.front.0 ≤ firmware g
current_within g u at k = omega (arith, sector_number_lem k.scanned, front_within g u)
