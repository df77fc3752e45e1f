-- When the making refuses. Assumes nothing.
use mathlib.Core.Path.{◌≡◌, refl, sym, ap, ◌∙◌}
use mathlib.Core.Logic.{◌⊎◌, inl, inr, ⊎_elim}
use Prim.Native.Nat.{ℕ, ◌^◌, ◌≤◌, ◌<◌}
use mathlib.Core.List.{List}
use native.Mathlib.Omega.{arith}
use native.Mathlib.Decide.{dec_lt, ℕ_discrete}
use lib.ListN.{length}
use Rattle.numbers.specs.Answer.{Answer, gives, refused}
use Rattle.header_tags.proofs.Laws.{refused_gives}
use Rattle.header_tags.proofs.Padding.{number_same, gives_refused}
use Rattle.header_writer.specs.Writing.{Write, write, write_header}
use Rattle.header_writer.proofs.Putting.{written}
use Rattle.release_values.specs.declared.Stated.{Stated}
use Rattle.release_header.specs.Making.{header_for, make_header}
use Rattle.release_header.proofs.Answers.{too_short, empty, too_large, made}
use Rattle.release_round_trips.specs.Refuses.{MakingRefuses, WhenMakingRefuses}

-- an answer of what is left
abbrev told : {w u : Write} → w ≡ u → w.answer ≡ u.answer
told e = ap (λ (x : Write). x.answer) e

module _ (v : Stated) (f out : List ℕ) where
  abbrev w : Write
  w = make_header v f out

  -- a refusal that is given is the one that stands
  stands : {a b : ℕ} → w ≡ write (refused a b) out → (n p : ℕ) → w.answer ≡ refused n p → w ≡ write (refused n p) out
  stands is n p e = is ∙ ap (λ (x : Answer (Unit {0})). write x out) (sym (told is) ∙ e)

  by_short : length out < 256 → MakingRefuses v f out
  by_short lt =
      let is : w ≡ write (refused 16 0) out = sym (too_short v f out lt) in
      record {
        short = (λ e. lt, λ l. is);
        size = (λ e. absurd (omega (arith, number_same (sym (told is) ∙ told e))), λ t. absurd (omega (arith, t.0)));
        taken = (λ e. refused_gives (sym (told is) ∙ e), λ t. absurd (omega (arith, t.0)));
        unchanged = stands is;
      }

  by_size : 256 ≤ length out → (length f ≡ 0) ⊎ (2 ^ 32 ≤ length f) → MakingRefuses v f out
  by_size room bad =
      let is : w ≡ write (refused 3 4) out = ⊎_elim (λ e. sym (empty v f out room e)) (λ l. sym (too_large v f out room l)) bad in
      record {
        short = (λ e. absurd (omega (arith, number_same (sym (told is) ∙ told e))), λ l. absurd (omega arith));
        size = (λ e. (room, bad), λ t. is);
        taken = (
          λ e. refused_gives (sym (told is) ∙ e),
          λ t. absurd (⊎_elim (λ e. omega (arith, t.1)) (λ l. omega (arith, t.2)) bad),
        );
        unchanged = stands is;
      }

  by_taken : 256 ≤ length out → 0 < length f → length f < 2 ^ 32 → MakingRefuses v f out
  by_taken room some few =
      let is : w ≡ write_header (header_for v f) out = sym (made v f out room (λ e. omega arith) few refl) in
      let is_made : w.answer ≡ gives tt = told is ∙ sym (told (written (header_for v f) out room (λ e. omega arith) refl)) in
      record {
        short = (λ e. gives_refused (sym is_made ∙ told e), λ l. absurd (omega arith));
        size = (
          λ e. gives_refused (sym is_made ∙ told e),
          λ t. absurd (⊎_elim (λ e. omega arith) (λ l. omega arith) t.1),
        );
        taken = (λ e. (room, some, few), λ t. is_made);
        unchanged = λ n p e. gives_refused (sym is_made ∙ e);
      }

pub when_making_refuses : WhenMakingRefuses
when_making_refuses v f out = go (dec_lt (length out) 256) (ℕ_discrete (length f) 0) (dec_lt (length f) (2 ^ 32))
  where
    go : Dec (length out < 256) → Dec (length f ≡ 0) → Dec (length f < 2 ^ 32) → MakingRefuses v f out
    go (yes lt) a b = by_short v f out lt
    go (no ge) (yes z) b = by_size v f out (omega arith) (inl z)
    go (no ge) (no s) (no l) = by_size v f out (omega arith) (inr (omega arith))
    go (no ge) (no s) (yes l) = by_taken v f out (omega arith) (omega arith) l
