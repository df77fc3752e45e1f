-- What an image check gives, its error wrapped in a power-up's refusal.
use mathlib.Core.Path.{◌≡◌, refl, ap}
use mathlib.Core.Bool.{cond}
use Prim.Native.Nat.{ℕ}
use lib.Dec.{ltb}
use Rattle.std.specs.Prelude.{Result, Ok, Err}
use Rattle.std.specs.Result.{MatchResult, IsErrAnd}
use Rattle.numbers.specs.Answer.{Answer, gives, then, no_reason, because}
use Rattle.numbers.specs.declared.ImageRefusal.{ImageRefusal}
use Rattle.numbers.specs.declared.PowerUpRefusal.{PowerUpRefusal}
use Rattle.numbers.specs.declared.PowerUpRefusal.TheVariants.{BadBoot}
use Rattle.numbers.specs.GivenBack.{image_answer, power_up_says}
use Rattle.exchange.specs.declared.Job.TheVariants.{Update, TurnDown}
use Rattle.exchange.specs.Decision.{Plan, refuse, work, accept}
use Rattle.image.specs.declared.Release.{Release}

-- the version, as the rules take it
abbrev version_of : Result Release ImageRefusal → Answer ℕ
version_of r = then (image_answer r) (λ x. gives x.version)

-- what `map_err` says
abbrev Wraps : (ImageRefusal → PowerUpRefusal) → Result Release ImageRefusal → Result Release PowerUpRefusal → Type 0
Wraps wrap r s = MatchResult r (λ x. s ≡ Ok x) (λ i. IsErrAnd s (λ e. e ≡ wrap i))

-- an update to version v

abbrev goes : ℕ → Result Release PowerUpRefusal → Plan
goes v (Ok x) = cond (ltb x.version v) (work Update no_reason) (work TurnDown (because 15 0))
goes v (Err e) = refuse (power_up_says e)

pub gone : (v : ℕ) (r : Result Release ImageRefusal) (s : Result Release PowerUpRefusal) → Wraps BadBoot r s → goes v s ≡ accept (gives v) (version_of r)
gone v (Ok x) s h = rw h refl
gone v (Err i) (Ok x) h = absurd h
gone v (Err i) (Err e) h = ap (λ (q : PowerUpRefusal). refuse (power_up_says q)) h
