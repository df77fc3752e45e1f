-- The places that the reader finds lie within the header. Assumes nothing.
use mathlib.Core.Path.{◌≡◌}
use Prim.Native.Nat.{ℕ, zero, suc, ◌+◌, ◌≤◌, ◌<◌}
use mathlib.Core.List.{List, [], ◌∷◌}
use native.Mathlib.Omega.{arith}
use native.Mathlib.Decide.{ℕ_discrete}
use lib.Dec.{lit<}
use lib.ListN.{length, get_or}
use Rattle.numbers.specs.Answer.{gives}
use Rattle.header_places.specs.Table.{document_table}
use Rattle.header_places.specs.Judging.{places_in, TagsFit}
use Rattle.header_places.proofs.Before.{places_are_tags}

-- a bound of each number of a list is one of its entries
abbrev pub AllBelow : ℕ → List ℕ → Type 0
AllBelow b [] = Unit {0}
AllBelow b (x ∷ l) = (x < b) × AllBelow b l

pub entry_below : (b : ℕ) (l : List ℕ) → AllBelow b l → (r : ℕ) → r < length l → get_or l r 0 < b
entry_below b [] w r lt = absurd (omega arith)
entry_below b (x ∷ l) w zero lt = w.0
entry_below b (x ∷ l) w (suc r) lt = entry_below b l w.1 r (omega arith)

-- no row's length is above the signature's
longest : (r : ℕ) → r < 6 → get_or document_table.lengths r 0 < 65
longest = entry_below 65 document_table.lengths (lit< tt, (lit< tt, (lit< tt, (lit< tt, (lit< tt, (lit< tt, tt))))))

pub found_within : (h l : List ℕ) → 68 ≤ length h → places_in document_table h ≡ gives l → TagsFit document_table l (length h)
found_within h l room e = record { fits = λ r lt. go r lt (ℕ_discrete (get_or l r 0) 0) }
  where
    go : (r : ℕ) → r < 6 → Dec (get_or l r 0 ≡ 0) → get_or l r 0 + 4 + get_or document_table.lengths r 0 ≤ length h
    go r lt (yes z) = omega (arith, longest r lt)
    go r lt (no z) = (places_are_tags document_table h l r e (omega arith)).stands.fits
