-- Two tests that hold together. Assumes nothing.
use mathlib.Core.Path.{◌≡◌, refl, sym}
use mathlib.Core.Bool.{Bool, true, false, ◌&&◌, true≢false}

pub both : (a b : Bool) → a && b ≡ true → (a ≡ true) × (b ≡ true)
both true b e = (refl, e)
both false b e = absurd (true≢false (sym e))

pub first_of : (a b : Bool) → a && b ≡ true → a ≡ true
first_of a b e = (both a b e).0

pub second_of : (a b : Bool) → a && b ≡ true → b ≡ true
second_of a b e = (both a b e).1
