-- A command by its checks: geometry and lengths, and what the others decide.
use mathlib.Core.Path.{◌≡◌, refl, sym, ap, ◌∙◌}
use mathlib.Core.Bool.{Bool, true, false, cond}
use mathlib.Core.List.{List}
use Prim.Native.Nat.{ℕ}
use native.Mathlib.Omega.{arith}
use lib.ListN.{length}
use Rattle.std.specs.Prelude.{Option, Some, None}
use Rattle.std.specs.Option.{ok_or}
use Rattle.numbers.specs.declared.CommandRefusal.TheVariants.{OutsideRules}
use Rattle.numbers.specs.Answer.{Answer, gives, refused, then}
use Rattle.flash.specs.declared.Geometry.{Geometry}
use Rattle.flash.specs.Sizes.{geometry, geometry_where, geometry_answer}
use Rattle.flash.specs.Buffers.{Flash, fits, Shaped, flash_of}
use Rattle.flash.proofs.Checked.{shaped_of}
use Rattle.flash_flags.specs.SectorFlags.{flags_at}
use Rattle.exchange.specs.declared.Operation.{Operation}
use Rattle.exchange.specs.Operations.{perform_all}
use Rattle.exchange.specs.Commands.{command, checked}
use Rattle.exchange_commands.specs.declared.CommandKind.{CommandKind}
use Rattle.exchange_commands.specs.Numbers.{command_of}
use Rattle.exchange_commands.specs.Inner.{may_do, permit_at, permitted}

-- what the code makes of a geometry or none
pub asked : (x : Option Geometry) → command_of (ok_or x OutsideRules) ≡ geometry_answer x
asked (Some g) = refl
asked None = refl

-- what is given behind a check, and the check itself
then_given : {A B : Type 0} (a : Answer A) (b h : B) → gives h ≡ then a (λ t. gives b) → b ≡ h
then_given (gives a) b h e = cc
then_given (refused n p) b h e = absurd (let z : ◌≡◌ {A = ℕ} 0 1 = cc in omega arith)

then_back : {B : Type 0} (a : Answer (Unit {0})) (b : B) → then (then a (λ t. gives b)) (λ h. gives tt) ≡ a
then_back (gives t) b = refl
then_back (refused n p) b = refl

-- what is granted fits
fits_granted : (b : Bool) (a : Answer (Unit {0})) → gives tt ≡ cond b a (refused 1 0) → b ≡ true
fits_granted true a e = refl
fits_granted false a e = absurd (let z : ◌≡◌ {A = ℕ} 0 1 = cc in omega arith)

module _ (k : CommandKind) (n s : ℕ) (f : Flash) where
  -- ---- the checks, one after the other

  by_fit : permitted k (geometry n s) f ≡ then (flash_of n s f) (λ g. then (permit_at k g f.boot f.update) (λ t. gives g))
  unfolding flash_of
  by_fit = by (fits (geometry n s) f)
    where
      by : (b : Bool)
          → then (cond b (permit_at k (geometry n s) f.boot f.update) (refused 1 0)) (λ t. gives (geometry n s))
          ≡ then (geometry_where b n s) (λ g. then (permit_at k g f.boot f.update) (λ t. gives g))
      by true = refl
      by false = refl

  pub not_fit : {m p : ℕ} → refused m p ≡ flash_of n s f → refused m p ≡ permitted k (geometry n s) f
  not_fit e = ap (λ (a : Answer Geometry). then a (λ g. then (permit_at k g f.boot f.update) (λ t. gives g))) e ∙ sym by_fit

  pub decided : {g : Geometry} {a : Answer (Unit {0})} → gives g ≡ flash_of n s f → a ≡ permit_at k g f.boot f.update
      → then a (λ t. gives g) ≡ permitted k (geometry n s) f
  decided {g} e d =
      ap (λ (y : Answer (Unit {0})). then y (λ t. gives g)) d
      ∙ ap (λ (x : Answer Geometry). then x (λ h. then (permit_at k h f.boot f.update) (λ t. gives h))) e
      ∙ sym by_fit

  -- ---- the command, by what they answer

  check_is : {x : Answer Geometry} → x ≡ permitted k (geometry n s) f → then x (λ h. gives tt) ≡ checked (geometry n s) f (may_do k (flags_at (geometry n s) f.update))
  check_is e = ap (λ (y : Answer Geometry). then y (λ h. gives tt)) e ∙ then_back _ _

  pub refused_command : {m p : ℕ} (os : List Operation) → refused m p ≡ permitted k (geometry n s) f
      → record { answer = refused m p; flash = f } ≡ command (geometry n s) os (checked (geometry n s) f (may_do k (flags_at (geometry n s) f.update))) f
  refused_command os e = ap (λ (a : Answer (Unit {0})). command (geometry n s) os a f) (check_is e)

  module _ {g : Geometry} (e : gives g ≡ permitted k (geometry n s) f) where
    is_asked : geometry n s ≡ g
    is_asked = then_given _ _ _ e

    pub granted_shaped : Shaped g f
    granted_shaped = rw (← is_asked) (shaped_of (geometry n s) f (fits_granted _ _ (check_is e)))

    pub granted_command : (os : List Operation) {f' : Flash} → f' ≡ perform_all g os f
        → record { answer = gives (length os); flash = f' } ≡ command (geometry n s) os (checked (geometry n s) f (may_do k (flags_at (geometry n s) f.update))) f
    granted_command os d =
        ap (λ (y : Flash). record { answer = gives (length os); flash = y }) (d ∙ ap (λ (h : Geometry). perform_all h os f) (sym is_asked))
        ∙ ap (λ (a : Answer (Unit {0})). command (geometry n s) os a f) (check_is e)
