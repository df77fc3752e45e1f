-- Each operation leaves what 01 says, and touches nothing else. Assumes nothing.
use mathlib.Core.Path.{◌≡◌, refl}
use mathlib.Core.Logic.{inl, inr}
use mathlib.Core.Bool.{true, false}
use mathlib.Core.List.{List}
use Prim.Native.Nat.{ℕ, ◌≤◌}
use native.Mathlib.Omega.{arith}
use lib.ListN.{length}
use Rattle.flash_status.specs.StatusBytes.{set_status_byte}
use Rattle.exchange.specs.Base.{Geometry}
use Rattle.exchange.specs.Base.{Flash, Shaped, firmware, partition_size, erased, status_byte, boot_byte, update_byte}
use Rattle.exchange.specs.declared.Area.{Area}
use Rattle.exchange.specs.declared.Area.TheVariants.{Boot, Update, Swap}
use Rattle.exchange.specs.declared.Operation.{Operation}
use Rattle.exchange.specs.declared.Operation.TheVariants.{Erase, Copy, WriteFlag, EraseBootTrailer, EraseUpdateTrailer, WriteBootStatus, WriteUpdateStatus}
use Rattle.exchange.specs.Operations.{source, get, put, perform}
use Rattle.exchange.specs.LostPower.{Torn, perform_torn}
use Rattle.exchange.specs.Touches.{Other, WritesSector, WritesLast, AllOrNothing, Touches}
use Rattle.flash.proofs.Laws.{length_erased, sector_same, sector_other}
use Rattle.flash_flags.proofs.Laws.{length_flag, byte_flag, half_flag, flag_same, length_status, byte_status, status_same}
use Rattle.exchange.proofs.Sound.{put_shaped, sized}

-- a sector written by `put`
module _ (g : Geometry) (f : Flash) (s : Shaped g f) (i : ℕ) (hi : i ≤ firmware g) (x : List ℕ) (X : length x ≡ g.size) where
  there : (d : Area) → get g d i (put g d i x f) ≡ x
  there Boot = sector_same g s.limits f.boot x s.boot X i hi
  there Update = sector_same g s.limits f.update x s.update X i hi
  there Swap = refl

  others : (d a : Area) (j : ℕ) → Other d i a j → get g a j (put g d i x f) ≡ get g a j f
  others Boot Boot j (inl h) = absurd (h refl)
  others Boot Boot j (inr h) = sector_other g s.limits f.boot x s.boot X i hi j h.1
  others Boot Update j h = refl
  others Boot Swap j h = refl
  others Update Boot j h = refl
  others Update Update j (inl h) = absurd (h refl)
  others Update Update j (inr h) = sector_other g s.limits f.update x s.update X i hi j h.1
  others Update Swap j h = refl
  others Swap Boot j h = refl
  others Swap Update j h = refl
  others Swap Swap j (inl h) = absurd (h refl)
  others Swap Swap j (inr h) = absurd (h.0 refl)

  writes : (d : Area) → WritesSector g f d i x (put g d i x f)
  writes d = record { shaped = put_shaped g s.limits d i x f hi X s; there = there d; others = others d }

-- the last byte of a partition
last : (g : Geometry) (f : Flash) → Shaped g f → (l : List ℕ) → length l ≡ partition_size g → (b : ℕ) → WritesLast g l b (set_status_byte g b l)
unfolding status_byte
last g f s l e b = record {
  there = status_same g s.limits l e b;
  bytes = λ p h. byte_status g s.limits l e b p 0 h;
  extent = length_status g s.limits l e b;
}

new_stands : (g : Geometry) (f : Flash) (t : Torn) (o : Operation) → AllOrNothing o → t.new ≡ true → perform_torn g t o f ≡ perform g o f
new_stands g f t (Erase a i) h e = absurd h
new_stands g f t (Copy leg i) h e = absurd h
new_stands g f t (WriteFlag i v) h e = rw e refl
new_stands g f t EraseBootTrailer h e = rw e refl
new_stands g f t EraseUpdateTrailer h e = rw e refl
new_stands g f t (WriteBootStatus v) h e = rw e refl
new_stands g f t (WriteUpdateStatus v) h e = rw e refl

old_stands : (g : Geometry) (f : Flash) (t : Torn) (o : Operation) → AllOrNothing o → t.new ≡ false → perform_torn g t o f ≡ f
old_stands g f t (Erase a i) h e = absurd h
old_stands g f t (Copy leg i) h e = absurd h
old_stands g f t (WriteFlag i v) h e = rw e refl
old_stands g f t EraseBootTrailer h e = rw e refl
old_stands g f t EraseUpdateTrailer h e = rw e refl
old_stands g f t (WriteBootStatus v) h e = rw e refl
old_stands g f t (WriteUpdateStatus v) h e = rw e refl

pub touches : Touches
touches = record {
  erases = λ g f a i s hi. writes g f s i (omega arith) (erased g.size) (length_erased g.size) a;
  copies = λ g f leg i s hi. writes g f s i (omega arith) (get g (source leg) i f) (sized g f s (source leg) i hi) _;
  boot_trailer = λ g f s. writes g f s (firmware g) (omega arith) (erased g.size) (length_erased g.size) Boot;
  update_trailer = λ g f s. writes g f s (firmware g) (omega arith) (erased g.size) (length_erased g.size) Update;
  flag = λ g f i v s hi. record {
    there = flag_same g s.limits f.update s.update i v hi;
    halves = half_flag g s.limits f.update s.update i v hi;
    bytes = λ p h. byte_flag g s.limits f.update s.update i v hi p 0 h;
    extent = length_flag g s.limits f.update s.update i v hi;
    boot = refl;
    swap = refl;
  };
  boot_status = λ g f v s. last g f s f.boot s.boot (boot_byte v);
  update_status = λ g f v s. last g f s f.update s.update (update_byte v);
  torn_erase = λ g f t a i s hi e. writes g f s i (omega arith) t.bytes e a;
  torn_copy = λ g f t leg i s hi e. writes g f s i (omega arith) t.bytes e _;
  torn_new = new_stands;
  torn_old = old_stands;
}
