-- Which geometries are taken. Assumes nothing.
use mathlib.Core.Path.{◌≡◌, refl, sym}
use mathlib.Core.Logic.{◌↔◌}
use mathlib.Core.Bool.{Bool, true, false, true≢false}
use Prim.Native.Nat.{ℕ, ◌<◌}
use native.Mathlib.Decide.{dec_lt}
use native.Mathlib.Omega.{arith}
use borrow.Author.Tests.{leb-true, eqb-true, le-leb, eq-eqb}
use Rattle.numbers.specs.Answer.{Answer, gives, refused}
use Rattle.numbers.proofs.Tests.{both}
use Rattle.flash.specs.declared.Geometry.{Geometry}
use Rattle.std.specs.Prelude.{Some, None}
use Rattle.flash.specs.Sizes.{geometry, firmware, trailer_length, within_limits, geometry_answer, geometry_where, geometry_of}
use Rattle.flash.specs.Taken.{InRules, TakenIf, WhichAreTaken, TakenBefore, SomeAreTaken, SomeAreRefused, OnlyOneTooLong, TrailersNeed}

-- an answer gives or refuses
given_refused : {A : Type 0} {g : Geometry} {n p : ℕ} {a : Answer Geometry} → a ≡ gives g → a ≡ refused n p → A
given_refused x y = let z : ◌≡◌ {A = ℕ} 0 1 = cc in absurd (omega arith)

-- the tests hold of what is within the rules, and of nothing else
pub tests_hold : (g : Geometry) → InRules g.sectors g.size → within_limits g ≡ true
unfolding within_limits
tests_hold g w =
    let c = w.counts in
    simp (le-leb _ _ c.few, le-leb _ _ c.many, le-leb _ _ c.small, le-leb _ _ c.large, eq-eqb _ _ c.unit, le-leb _ _ w.trailer)

pub rules_hold : (g : Geometry) → within_limits g ≡ true → InRules g.sectors g.size
unfolding within_limits
rules_hold g h =
    let t = both _ _ h in
    let u = both _ _ t.0 in
    let l = both _ _ u.0 in
    let s = both _ _ l.0 in
    let n = both _ _ s.0 in
    record {
      counts = record {
        unit = eqb-true _ _ u.1;
        small = leb-true _ _ s.1;
        large = leb-true _ _ l.1;
        few = leb-true _ _ n.0;
        many = leb-true _ _ n.1;
      };
      trailer = leb-true _ _ t.1;
    }

-- an answer by one test, which holds exactly if P does
pub taken_if : (P : Type 0) (b : Bool) (n s : ℕ) → (b ≡ true) ↔ P → TakenIf P (geometry_where b n s) n s
taken_if P true n s t =
    let p = t.0 refl in
    record { taken = (λ x. p, λ x. refl); refusal = (λ x. given_refused refl x, λ x. absurd (x p)) }
taken_if P false n s t =
    let d : P → ⊥ = λ p. true≢false (sym (t.1 p)) in
    record { taken = (λ x. given_refused x refl, λ p. absurd (d p)); refusal = (λ x. d, λ x. refl) }

pub which_are_taken : WhichAreTaken
unfolding geometry_of
which_are_taken n s = taken_if (InRules n s) (within_limits (geometry n s)) n s (rules_hold (geometry n s), tests_hold (geometry n s))

-- the same of the code's answer
pub inside : (n s : ℕ) → InRules n s → geometry_answer (Some (geometry n s)) ≡ geometry_of n s
inside n s w = sym ((which_are_taken n s).taken.1 w)

pub outside : (n s : ℕ) → (InRules n s → ⊥) → geometry_answer None ≡ geometry_of n s
outside n s d = sym ((which_are_taken n s).refusal.1 d)

pub taken_before : TakenBefore
unfolding firmware
taken_before n s c = record {
  counts = record { unit = c.unit; small = c.small; large = c.large; few = c.few; many = omega (arith, c.many) };
  trailer = omega (arith, c.many, c.small);
}

-- by doing the tests
pub tested : (n s : ℕ) → geometry_of n s ≡ gives (geometry n s) → InRules n s
tested n s e = (which_are_taken n s).taken.0 e

pub some_are_taken : SomeAreTaken
unfolding geometry_of within_limits firmware
some_are_taken = (tested 2 256 refl, tested 3 768 refl, tested 511 256 refl, tested 512 512 refl, tested 512 131072 refl)

pub some_are_refused : SomeAreRefused
unfolding firmware
some_are_refused = record {
  many = λ w. omega (arith, w.counts.many);
  unit = λ w. omega (arith, w.counts.unit);
  few = λ w. omega (arith, w.counts.few);
  large = λ w. omega (arith, w.counts.large);
  trailer = λ w. omega (arith, w.trailer);
}

pub trailers_need : TrailersNeed
unfolding firmware
trailers_need s = (refl, refl)

pub only_one_too_long : OnlyOneTooLong
unfolding firmware
only_one_too_long n s c = (λ out. by_trailer out (dec_lt s (trailer_length (geometry n s))), λ e w. omega (arith, e.0, e.1, w.trailer))
  where
    by_trailer : (InRules n s → ⊥) → Dec (s < trailer_length (geometry n s)) → (n ≡ 512) × (s ≡ 256)
    by_trailer out (yes t) = omega (arith, t, c.unit, c.small, c.many, c.few)
    by_trailer out (no t) = absurd (out (record { counts = c; trailer = omega arith }))
