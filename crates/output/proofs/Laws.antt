-- Bytes written one behind another. Assumes nothing.
use mathlib.Core.Path.{◌≡◌, refl, sym, ap, ◌∙◌}
use Prim.Native.Nat.{ℕ, suc, ◌+◌, ◌≤◌}
use mathlib.Core.List.{List, [], ◌∷◌, ◌++◌, append_assoc}
use native.Mathlib.Omega.{arith}
use native.Mathlib.Nat.{add-zero}
use lib.ListN.{length, take, drop, set, length-append}
use lib.Seq.{sets, sets-eq, length-sets, drop-drop}
use borrow.Rule.Slice.PartMut.{put_mid}
use Rattle.output.specs.Puts.{Puts}

-- what is written behind is written with it
sets_append : (l : List ℕ) (i : ℕ) (a b : List ℕ) → sets (sets l i a) (i + length a) b ≡ sets l i (a ++ b)
sets_append l i [] b = ap (λ (k : ℕ). sets l k b) (add-zero i)
sets_append l i (x ∷ a) b =
    let e : i + suc (length a) ≡ suc i + length a = omega arith in
    ap (λ (k : ℕ). sets (sets (set l i x) (suc i) a) k b) e ∙ sets_append (set l i x) (suc i) a b

pub puts_then : {d e f a b : List ℕ} {p q r : ℕ} → Puts d e p a q → Puts e f q b r → Puts d f p (a ++ b) r
puts_then {d} {e} {f} {a} {b} {p} {q} {r} x y =
    record {
      is = y.is ∙ ap (λ (z : List ℕ). sets z q b) x.is ∙ ap (λ (k : ℕ). sets (sets d p a) k b) x.behind ∙ sets_append d p a b;
      behind = omega (arith, x.behind, y.behind, length-append a b);
    }

pub puts_none : {d : List ℕ} {p : ℕ} → Puts d d p [] p
puts_none {d} {p} = record { is = refl; behind = sym (add-zero p) }

pub puts_as : {d e a b : List ℕ} {p q : ℕ} → Puts d e p a q → a ≡ b → Puts d e p b q
puts_as {d} {e} {a} {b} {p} {q} x same = rw same at x

pub puts_length : {d e a : List ℕ} {p q : ℕ} → Puts d e p a q → length e ≡ length d
puts_length {d} {e} {a} {p} x = ap length x.is ∙ length-sets d p a

-- bytes copied over the part that is as long as they are
pub puts_copied : (d b y : List ℕ) (p k q : ℕ) → p + length b ≤ length d → k ≡ length b → q ≡ p + length b → y ≡ b → Puts d (put_mid p k d y) p b q
puts_copied d b y p k q fits long at e = record { is = rw (e, long, drop-drop (length b) p d) (sym (append_assoc (take p d) b (drop (p + length b) d)) ∙ sym (sets-eq b d p fits)); behind = at }

-- the bytes written from the start, and behind them what stood there
pub puts_whole : {d e a : List ℕ} {q : ℕ} → Puts d e 0 a q → length a ≤ length d → e ≡ a ++ drop (length a) d
puts_whole {d} {e} {a} x fits =
    let z : 0 + length a ≡ length a = omega arith in
    x.is ∙ sets-eq a d 0 (omega arith) ∙ ap (λ (k : ℕ). a ++ drop k d) z
