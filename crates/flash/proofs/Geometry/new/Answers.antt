use native.Mathlib.Omega.{arith}
use Rattle.flash.specs.Sizes.{firmware}
use Rattle.flash.proofs.Taken.{inside, outside}
use Rattle.flash.proofs.Geometry.new.Goals as goal

pub returns-then-sectors-lt-MIN_SECTORS : goal.returns-then-sectors-lt-MIN_SECTORS
returns-then-sectors-lt-MIN_SECTORS c = let a = c.args in outside a.sectors a.size (λ w. omega (arith, w.counts.few))

pub returns-then-sectors-gt-MAX_SECTORS : goal.returns-then-sectors-gt-MAX_SECTORS
returns-then-sectors-gt-MAX_SECTORS c = let a = c.args in outside a.sectors a.size (λ w. omega (arith, w.counts.many))

pub returns-then-size-lt-MIN_SIZE : goal.returns-then-size-lt-MIN_SIZE
returns-then-size-lt-MIN_SIZE c = let a = c.args in outside a.sectors a.size (λ w. omega (arith, w.counts.small))

pub returns-then-size-gt-MAX_SIZE : goal.returns-then-size-gt-MAX_SIZE
returns-then-size-gt-MAX_SIZE c = let a = c.args in outside a.sectors a.size (λ w. omega (arith, w.counts.large))

pub returns-then-size-ne0 : goal.returns-then-size-ne0
returns-then-size-ne0 c = let a = c.args in outside a.sectors a.size (λ w. omega (arith, w.counts.unit))

pub returns-then-size-m : goal.returns-then-size-m
unfolding firmware
returns-then-size-m c =
    let a = c.args in
    outside a.sectors a.size (λ w. omega (arith, w.trailer))

pub returns : goal.returns
unfolding firmware
returns c =
    let a = c.args in
    inside a.sectors a.size (record {
      counts = record { unit = omega arith; small = omega arith; large = omega arith; few = omega arith; many = omega arith };
      trailer = omega arith;
    })
