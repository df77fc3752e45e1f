-- What a stage shows: the finish, where the old sectors stand, and flags that have moved on.
use mathlib.Core.Path.{◌≡◌, refl}
use mathlib.Core.Logic.{◌⊎◌, inl, inr}
use mathlib.Core.List.{List}
use Prim.Native.Nat.{ℕ, zero, suc, ◌+◌, ◌-◌, ◌*◌, ◌≤◌, ◌<◌, min}
use native.Mathlib.Omega.{arith}
use Rattle.numbers.specs.Answer.{gives}
use Rattle.exchange.specs.Base.{Geometry, BootStatus, UpdateStatus, Exchanged}
use Rattle.exchange.specs.Base.{firmware, Flash, boot_status_at, update_status_at, moved}
use Rattle.exchange.specs.Demand.{Exchange, Underway, from_new, from_success, from_testing, Finished, InPlace, FlagMovedOn, FlagNotBack, AtFinish}
use Rattle.flash_flags.specs.SectorFlags.{flag_rank, leg_moves}
use Rattle.flash_flags.proofs.Moves.{leg_below}
use Rattle.exchange.proofs.Stage.{Closing, erase_boot, write_testing, erase_update, write_success, closing, closing_left, Closed, on_test, fallen_back_lem, Swapped, Stage, in_leg_lem, at_last, at_end}
use Rattle.exchange.proofs.Walked.{closing_some}

-- ---- the finish

finished_closed : (x : Exchange) (b : BootStatus) (u : UpdateStatus) (c : Closed x b u) (g : Geometry) (f : Flash)
    → boot_status_at g f.boot ≡ gives b → update_status_at g f.update ≡ gives u → Finished x g f
finished_closed x b u on_test g f e₁ e₂ = e₂
finished_closed x b u fallen_back_lem g f e₁ e₂ = e₁

unfinished_begun : (x : Exchange) (b : BootStatus) (u : UpdateStatus) (B : Underway x b u) (g : Geometry) (f : Flash)
    → boot_status_at g f.boot ≡ gives b → update_status_at g f.update ≡ gives u → ¬ Finished x g f
unfinished_begun x b u from_new g f e₁ e₂ h = let z : ◌≡◌ {A = ℕ} 0 1 = cc in omega arith
unfinished_begun x b u from_success g f e₁ e₂ h = let z : ◌≡◌ {A = ℕ} 0 1 = cc in omega arith
unfinished_begun x b u from_testing g f e₁ e₂ h = let z : ◌≡◌ {A = ℕ} 0 1 = cc in omega arith

unfinished_closing : (x : Exchange) (b : BootStatus) (u : UpdateStatus) (c : Closing x b u) (g : Geometry) (f : Flash)
    → boot_status_at g f.boot ≡ gives b → update_status_at g f.update ≡ gives u → ¬ Finished x g f
unfinished_closing x b u erase_boot g f e₁ e₂ h = let z : ◌≡◌ {A = ℕ} 0 1 = cc in omega arith
unfinished_closing x b u write_testing g f e₁ e₂ h = let z : ◌≡◌ {A = ℕ} 0 1 = cc in omega arith
unfinished_closing x b u erase_update g f e₁ e₂ h = let z : ◌≡◌ {A = ℕ} 0 1 = cc in omega arith
unfinished_closing x b u write_success g f e₁ e₂ h = let z : ◌≡◌ {A = ℕ} 0 1 = cc in omega arith

rank_moved : (a : ℕ) → flag_rank (moved a) ≡ min 3 a
rank_moved zero = refl
rank_moved (suc zero) = refl
rank_moved (suc (suc zero)) = refl
rank_moved (suc (suc (suc a))) = omega arith

closed_as : (x : Exchange) (b : BootStatus) (u : UpdateStatus) (c : Closed x b u) (g : Geometry) (old f : Flash)
    → boot_status_at g f.boot ≡ gives b → update_status_at g f.update ≡ gives u → Swapped x g old f → AtFinish x g old f
closed_as x b u on_test g old f e₁ e₂ y = record {
  exchanged = λ i hi. record { boot_holds = y.boot_is i hi; update_holds = y.update_is i hi };
  last_bytes = y.last_bytes;
  boot_status = e₁;
  update_status = e₂;
  flags = y.flags;
}
closed_as x b u fallen_back_lem g old f e₁ e₂ y = record {
  exchanged = λ i hi. record { boot_holds = y.boot_is i hi; update_holds = y.update_is i hi };
  last_bytes = y.last_bytes;
  boot_status = e₁;
  update_status = e₂;
  flags = y.flags;
}

module _ {D : List ℕ → List ℕ → Type 0} (g : Geometry) (old : Flash) {x : Exchange} {b₀ : BootStatus} {u₀ : UpdateStatus} (B : Underway x b₀ u₀) where
  pub end_of : (f : Flash) (p : ℕ) → Stage D g old B f p 0 → Finished x g f
  end_of f p (in_leg_lem i leg hi hp s d e₁ e₂ ready n) = absurd (omega (arith, leg_below leg))
  end_of f p (at_last b u c le s e₁ e₂ n z) = absurd (omega (arith, closing_some c))
  end_of f p (at_end b u c y s e₁ e₂ n z) = finished_closed x b u c g f e₁ e₂

  pub end_phase : (f : Flash) (p : ℕ) → Stage D g old B f p 0 → p ≡ 0
  end_phase f p (in_leg_lem i leg hi hp s d e₁ e₂ ready n) = absurd (omega (arith, leg_below leg))
  end_phase f p (at_last b u c le s e₁ e₂ n z) = z
  end_phase f p (at_end b u c y s e₁ e₂ n z) = z

  pub unfinished : (f : Flash) (p r : ℕ) → Stage D g old B f p (suc r) → ¬ Finished x g f
  unfinished f p r (in_leg_lem i leg hi hp s d e₁ e₂ ready n) h = unfinished_begun x b₀ u₀ B g f e₁ e₂ h
  unfinished f p r (at_last b u c le s e₁ e₂ n z) h = unfinished_closing x b u c g f e₁ e₂ h
  unfinished f p r (at_end b u c y s e₁ e₂ n z) h = absurd (omega arith)

  -- three operations or more
  pub moved_on : (f f' : Flash) (p r q : ℕ) → 3 ≤ q → q ≤ r → Stage D g old B f 0 r → Stage D g old B f' p (r - q) → Finished x g f' ⊎ FlagMovedOn g f f'
  moved_on f f' p r q h k s (at_end b u c y s' e₁ e₂ n z) = inl (finished_closed x b u c g f' e₁ e₂)
  moved_on f f' p r q h k (at_last b u c le s e₁ e₂ n z) (in_leg_lem i' leg' hi' hp' s' d' e₁' e₂' ready' n') = absurd (omega (arith, closing_some c, leg_below leg'))
  moved_on f f' p r q h k (at_last b u c le s e₁ e₂ n z) (at_last b' u' c' le' s' e₁' e₂' n' z') = absurd (omega (arith, closing_some c, closing_some c'))
  moved_on f f' p r q h k (at_end b u c y s e₁ e₂ n z) (in_leg_lem i' leg' hi' hp' s' d' e₁' e₂' ready' n') = absurd (omega arith)
  moved_on f f' p r q h k (at_end b u c y s e₁ e₂ n z) (at_last b' u' c' le' s' e₁' e₂' n' z') = absurd (omega arith)
  moved_on f f' p r q h k (in_leg_lem i leg hi hp s d e₁ e₂ ready n) (in_leg_lem i' leg' hi' hp' s' d' e₁' e₂' ready' n') =
      inr (record {
        sector = i;
        is_firmware = hi;
        was = moved (3 * i + leg_moves leg - 3 * i);
        is = moved (3 * i' + leg_moves leg' - 3 * i);
        read_before = s.moves i hi;
        read_after = s'.moves i hi;
        on = rw (rank_moved (3 * i + leg_moves leg - 3 * i), rank_moved (3 * i' + leg_moves leg' - 3 * i)) (omega (arith, leg_below leg, leg_below leg'));
      })
  moved_on f f' p r q h k (in_leg_lem i leg hi hp s d e₁ e₂ ready n) (at_last b' u' c' le' s' e₁' e₂' n' z') =
      inr (record {
        sector = i;
        is_firmware = hi;
        was = moved (3 * i + leg_moves leg - 3 * i);
        is = Exchanged;
        read_before = s.moves i hi;
        read_after = s'.flags0 i hi;
        on = rw (rank_moved (3 * i + leg_moves leg - 3 * i)) (omega (arith, leg_below leg));
      })

  -- no flag moves back
  pub none_back : (f f' : Flash) (r r' : ℕ) → r' ≤ suc r + 2 → Stage D g old B f 0 (suc r) → Stage D g old B f' 0 r' → ¬ Finished x g f'
      → (i : ℕ) → i < firmware g → FlagNotBack g f f' i
  none_back f f' r r' h s (at_end b u c y s' e₁ e₂ n z) e j hj = absurd (e (finished_closed x b u c g f' e₁ e₂))
  none_back f f' r r' h (at_last b u c le s e₁ e₂ n z) (in_leg_lem i' leg' hi' hp' s' d' e₁' e₂' ready' n') e j hj = absurd (omega (arith, leg_below leg'))
  none_back f f' r r' h (at_last b u c le s e₁ e₂ n z) (at_last b' u' c' le' s' e₁' e₂' n' z') e j hj =
      record { was = Exchanged; is = Exchanged; read_before = s.flags0 j hj; read_after = s'.flags0 j hj; not_back = omega arith }
  none_back f f' r r' h (at_end b u c y s e₁ e₂ n z) (in_leg_lem i' leg' hi' hp' s' d' e₁' e₂' ready' n') e j hj = absurd (omega arith)
  none_back f f' r r' h (at_end b u c y s e₁ e₂ n z) (at_last b' u' c' le' s' e₁' e₂' n' z') e j hj = absurd (omega arith)
  none_back f f' r r' h (in_leg_lem i leg hi hp s d e₁ e₂ ready n) (in_leg_lem i' leg' hi' hp' s' d' e₁' e₂' ready' n') e j hj = record {
    was = moved (3 * i + leg_moves leg - 3 * j);
    is = moved (3 * i' + leg_moves leg' - 3 * j);
    read_before = s.moves j hj;
    read_after = s'.moves j hj;
    not_back = rw (rank_moved (3 * i + leg_moves leg - 3 * j), rank_moved (3 * i' + leg_moves leg' - 3 * j)) (omega (arith, leg_below leg, leg_below leg'));
  }
  none_back f f' r r' h (in_leg_lem i leg hi hp s d e₁ e₂ ready n) (at_last b' u' c' le' s' e₁' e₂' n' z') e j hj = record {
    was = moved (3 * i + leg_moves leg - 3 * j);
    is = Exchanged;
    read_before = s.moves j hj;
    read_after = s'.flags0 j hj;
    not_back = rw (rank_moved (3 * i + leg_moves leg - 3 * j)) (omega arith);
  }

  pub in_place_lem : (f : Flash) (r : ℕ) → Stage D g old B f 0 r → ¬ Finished x g f → (i : ℕ) → i < firmware g → InPlace g old f i
  in_place_lem f zero s e i hi = absurd (e (end_of f 0 s))
  in_place_lem f (suc r) (in_leg_lem k leg hk hp s d e₁ e₂ ready n) e i hi =
      record { flag = moved (3 * k + leg_moves leg - 3 * i); reads = s.moves i hi; old_boot = s.boot_in i hi; old_update = s.update_in i hi }
  in_place_lem f (suc r) (at_last b u c le s e₁ e₂ n z) e i hi =
      record { flag = Exchanged; reads = s.flags0 i hi; old_boot = s.update_is i hi; old_update = s.boot_is i hi }
  in_place_lem f (suc r) (at_end b u c y s e₁ e₂ n z) e i hi = absurd (omega arith)

  pub at_finish_lem : (f : Flash) (r : ℕ) → Stage D g old B f 0 r → Finished x g f → AtFinish x g old f
  at_finish_lem f zero (in_leg_lem k leg hk hp s d e₁ e₂ ready n) e = absurd (omega (arith, leg_below leg))
  at_finish_lem f zero (at_last b u c le s e₁ e₂ n z) e = absurd (omega (arith, closing_some c))
  at_finish_lem f zero (at_end b u c y s e₁ e₂ n z) e = closed_as x b u c g old f e₁ e₂ y
  at_finish_lem f (suc r) s e = absurd (unfinished f 0 r s e)

  -- no fewer moves than a are behind what follows
  pub none_undone : (f f' : Flash) (a r r' : ℕ) → a ≤ 3 * firmware g → r' ≤ suc r + 2 → suc r + 3 * a ≤ 9 * firmware g + closing_left (closing B) → Stage D g old B f 0 (suc r)
      → Stage D g old B f' 0 r' → r' + 3 * a ≤ 9 * firmware g + closing_left (closing B)
  none_undone f f' a r r' h k l s (at_end b u c y s' e₁ e₂ n z) = omega arith
  none_undone f f' a r r' h k l s (at_last b u c le s' e₁ e₂ n z) = omega arith
  none_undone f f' a r r' h k l (in_leg_lem i leg hi hp s d e₁ e₂ ready n) (in_leg_lem i' leg' hi' hp' s' d' e₁' e₂' ready' n') = omega (arith, leg_below leg, leg_below leg')
  none_undone f f' a r r' h k l (at_last b u c le s e₁ e₂ n z) (in_leg_lem i' leg' hi' hp' s' d' e₁' e₂' ready' n') = absurd (omega (arith, leg_below leg'))
  none_undone f f' a r r' h k l (at_end b u c y s e₁ e₂ n z) (in_leg_lem i' leg' hi' hp' s' d' e₁' e₂' ready' n') = absurd (omega arith)
