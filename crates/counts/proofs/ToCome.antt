-- The erases of a place that are still to come in a run of steps, over any bytes: each leg from the first sector whose flag is not 0 on erases
-- one sector, and the operations that close a job erase each trailer once at most.
use mathlib.Core.Path.{◌≡◌, refl, sym, ap, ◌∙◌, subst}
use mathlib.Core.Logic.{◌≢◌}
use mathlib.Core.List.{List}
use Prim.Native.Nat.{ℕ, zero, suc, ◌+◌, ◌-◌, ◌*◌, ◌≤◌, ◌<◌}
use native.Mathlib.Decide.{ℕ_discrete, dec_lt}
use native.Mathlib.Omega.{arith}
use lib.ListN.{length}
use Rattle.std.specs.Prelude.{Some, None}
use Rattle.numbers.specs.Answer.{Answer, gives, refused}
use Rattle.flash.specs.declared.Geometry.{Geometry}
use Rattle.flash.specs.Sizes.{firmware, Limits}
use Rattle.flash.specs.Sectors.{sector_number, erased}
use Rattle.flash.specs.Buffers.{Flash, Shaped}
use Rattle.flash.proofs.Checked.{sectors_are, some_firmware}
use Rattle.flash.proofs.Laws.{length_erased}
use Rattle.flash_status.specs.declared.BootStatus.{BootStatus}
use Rattle.flash_status.specs.declared.BootStatus.TheVariants.{New as BootNew, Testing, Success}
use Rattle.flash_status.specs.declared.UpdateStatus.{UpdateStatus}
use Rattle.flash_status.specs.declared.UpdateStatus.TheVariants.{New as UpdateNew, Updating}
use Rattle.flash_status.specs.StatusBytes.{boot_byte, boot_status_at, update_status_of, update_status_at}
use Rattle.flash_flags.specs.declared.Flag.{Flag}
use Rattle.flash_flags.specs.declared.Leg.{Leg}
use Rattle.flash_flags.specs.declared.Leg.TheVariants.{UpdateToSwap, BootToUpdate, SwapToBoot}
use Rattle.flash_flags.specs.declared.Flags.{Flags}
use Rattle.flash_flags.specs.declared.Flags.TheVariants.{Malformed, AllF, At, All0}
use Rattle.flash_flags.specs.SectorFlags.{moved, leg_moves, set_flag, flags_at}
use Rattle.flash_flags.proofs.Laws.{flag_sector, length_flag, length_status, status_flag, boot_erased, update_erased, boot_written}
use Rattle.flash_flags.proofs.Shown.{each_at}
use Rattle.flash_flags.proofs.Moves.{AfterMoves, at_leg, at_leg_lem, shown_leg, shown_every, moves_leg, moves_on_lem}
use Rattle.exchange.specs.declared.Area.{Area}
use Rattle.exchange.specs.declared.Area.TheVariants.{Boot, Update as UpdateArea, Swap}
use Rattle.exchange.specs.declared.Job.{Job}
use Rattle.exchange.specs.declared.Job.TheVariants.{Update, Fallback, TurnDown}
use Rattle.exchange.specs.declared.Operation.{Operation}
use Rattle.exchange.specs.declared.Operation.TheVariants.{Erase, Copy, WriteFlag, EraseBootTrailer, EraseUpdateTrailer, WriteBootStatus}
use Rattle.exchange.specs.Operations.{get, put, source, target, next_flag, leg_operation, phase_after, perform}
use Rattle.exchange.specs.Order.{closing, exchange_next, ordered_by, next_operation, operations}
use Rattle.exchange.proofs.Orders.{next_by_reads}
use Rattle.exchange.proofs.Runs.{operations_none, operations_some}
use Rattle.exchange.proofs.Sound.{sized, next_moved, put_shaped, put_boot_status, put_update_status}
use Rattle.exchange.proofs.Stage.{at_leg_next}
use Rattle.counts.specs.Row.{row_place, slot}
use Rattle.counts.specs.Claims.{raises_at, erases_at}
use Rattle.counts.proofs.Rows.{raises_here, raises_elsewhere}

-- ---- how many are to come

module _ (g : Geometry) (k : ℕ) where
  -- whether the sector i of an area has the place k, as a number
  abbrev pub at : Area → ℕ → ℕ
  at a i = raises_at k (Some (row_place g a i))

  -- in sector i, from a phase of a leg on; and in r sectors from sector i on
  abbrev legs_from : ℕ → Leg → ℕ → ℕ
  legs_from i UpdateToSwap zero = at Swap i + (at UpdateArea i + at Boot i)
  legs_from i UpdateToSwap (suc p) = at UpdateArea i + at Boot i
  legs_from i BootToUpdate zero = at UpdateArea i + at Boot i
  legs_from i BootToUpdate (suc p) = at Boot i
  legs_from i SwapToBoot zero = at Boot i
  legs_from i SwapToBoot (suc p) = 0

  abbrev sectors_from : ℕ → ℕ → ℕ
  sectors_from i zero = 0
  sectors_from i (suc r) = legs_from i UpdateToSwap 0 + sectors_from (suc i) r

-- statuses with which a job has legs to do, and what closes it then
data Busy : Job → BootStatus → UpdateStatus → Type 0 where
  updates : (b : BootStatus) → Busy Update b Updating
  falls_back_lem : (u : UpdateStatus) → Busy Fallback Testing u

abbrev last_of : {job : Job} {b : BootStatus} {u : UpdateStatus} → Busy job b u → Operation
last_of (updates b) = closing b
last_of (falls_back_lem u) = WriteBootStatus Success

abbrev closing_of : (g : Geometry) (k : ℕ) {job : Job} {b : BootStatus} {u : UpdateStatus} → Busy job b u → ℕ
closing_of g k (updates Success) = at g k Boot (firmware g) + at g k UpdateArea (firmware g)
closing_of g k (updates BootNew) = at g k UpdateArea (firmware g)
closing_of g k (updates Testing) = at g k UpdateArea (firmware g)
closing_of g k (falls_back_lem u) = 0

-- ---- no more than m

module _ (g : Geometry) (G : Limits g) (k : ℕ) where
  pub place_once : (a : Area) (i : ℕ) → at g k a i ≤ 1
  place_once a i = by (ℕ_discrete (row_place g a i) k)
    where
      by : Dec (row_place g a i ≡ k) → at g k a i ≤ 1
      by (yes e) = omega (arith, raises_here (row_place g a i) k e)
      by (no n) = omega (arith, raises_elsewhere (row_place g a i) k n)

  missed : (a : Area) (i : ℕ) → row_place g a i ≢ k → at g k a i ≡ 0
  missed a i n = raises_elsewhere (row_place g a i) k n

  -- SWAP, once for each sector
  all_in_swap : k ≡ 2 * g.sectors → (r i : ℕ) → i + r ≤ firmware g → sectors_from g k i r ≤ r
  all_in_swap e zero i h = omega arith
  all_in_swap e (suc r) i h =
      let n = sectors_are g G in
      omega (arith, place_once Swap i, missed UpdateArea i (λ q. omega arith), missed Boot i (λ q. omega arith), all_in_swap e r (suc i) (omega arith))

  none_there : k ≢ 2 * g.sectors → (r i : ℕ) → ((j : ℕ) → i ≤ j → j < i + r → (j ≢ k) × (g.sectors + j ≢ k)) → sectors_from g k i r ≡ 0
  none_there s zero i h = refl
  none_there s (suc r) i h =
      let here = h i (omega arith) (omega arith) in
      omega (arith, missed Swap i (λ q. s (sym q)), missed UpdateArea i here.1, missed Boot i here.0, none_there s r (suc i) (λ j a b. h j (omega arith) (omega arith)))

  once_elsewhere : k ≢ 2 * g.sectors → (r i : ℕ) → i + r ≤ firmware g → sectors_from g k i r ≤ 1
  once_elsewhere s zero i h = omega arith
  once_elsewhere s (suc r) i h = by (ℕ_discrete i k) (ℕ_discrete (g.sectors + i) k) (once_elsewhere s r (suc i) (omega arith))
    where
      n : g.sectors ≡ suc (firmware g)
      n = sectors_are g G

      by : Dec (i ≡ k) → Dec (g.sectors + i ≡ k) → sectors_from g k (suc i) r ≤ 1 → sectors_from g k i (suc r) ≤ 1
      by (yes e) d more =
          omega (
            arith,
            missed Swap i (λ q. s (sym q)),
            missed UpdateArea i (λ q. omega arith),
            place_once Boot i,
            none_there s r (suc i) (λ j a b. (λ q. omega arith, λ q. omega arith)),
          )
      by (no e) (yes d) more =
          omega (
            arith,
            missed Swap i (λ q. s (sym q)),
            place_once UpdateArea i,
            missed Boot i e,
            none_there s r (suc i) (λ j a b. (λ q. omega (arith, n), λ q. omega arith)),
          )
      by (no e) (no d) more = omega (arith, missed Swap i (λ q. s (sym q)), missed UpdateArea i d, missed Boot i e, more)

  -- with what closes the job
  few : {job : Job} {b : BootStatus} {u : UpdateStatus} (B : Busy job b u) (i r : ℕ) → i + r ≡ firmware g → sectors_from g k i r + closing_of g k B ≤ firmware g
  few B i r h = by (ℕ_discrete k (2 * g.sectors)) (ℕ_discrete k (firmware g)) (ℕ_discrete k (g.sectors + firmware g))
    where
      n : g.sectors ≡ suc (firmware g)
      n = sectors_are g G

      m : 1 ≤ firmware g
      m = some_firmware g G

      closes : {job : Job} {b : BootStatus} {u : UpdateStatus} (B : Busy job b u) → closing_of g k B ≤ at g k Boot (firmware g) + at g k UpdateArea (firmware g)
      closes (updates Success) = omega arith
      closes (updates BootNew) = omega arith
      closes (updates Testing) = omega arith
      closes (falls_back_lem u) = omega arith

      by : Dec (k ≡ 2 * g.sectors) → Dec (k ≡ firmware g) → Dec (k ≡ g.sectors + firmware g) → sectors_from g k i r + closing_of g k B ≤ firmware g
      by (yes s) d e =
          omega (arith, closes B, missed Boot (firmware g) (λ q. omega (arith, n)), missed UpdateArea (firmware g) (λ q. omega (arith, n)), all_in_swap s r i (omega arith))
      by (no s) (yes d) e =
          omega (
            arith,
            m,
            closes B,
            place_once Boot (firmware g),
            missed UpdateArea (firmware g) (λ q. omega (arith, n)),
            none_there s r i (λ j a b. (λ q. omega arith, λ q. omega (arith, n))),
          )
      by (no s) (no d) (yes e) =
          omega (
            arith,
            m,
            closes B,
            place_once UpdateArea (firmware g),
            missed Boot (firmware g) (λ q. omega (arith, n)),
            none_there s r i (λ j a b. (λ q. omega (arith, n), λ q. omega arith)),
          )
      by (no s) (no d) (no e) =
          omega (arith, m, closes B, missed Boot (firmware g) (λ q. d (sym q)), missed UpdateArea (firmware g) (λ q. e (sym q)), once_elsewhere s r i (omega arith))

-- ---- where a run stands

-- with e erases of the place k to come
module _ (g : Geometry) (G : Limits g) (k : ℕ) where
  data Trail (job : Job) (f : Flash) (p e : ℕ) : Type 0 where
    in_leg_lem : (b : BootStatus) (u : UpdateStatus) (B : Busy job b u) (i : ℕ) (leg : Leg) → i < firmware g → p < 3 → Shaped g f
        → AfterMoves g f.update (3 * i + leg_moves leg) → boot_status_at g f.boot ≡ gives b → update_status_at g f.update ≡ gives u
        → e ≡ legs_from g k i leg p + sectors_from g k (suc i) (firmware g - suc i) + closing_of g k B → Trail job f p e
    at_last : (b : BootStatus) (u : UpdateStatus) (B : Busy job b u) → Shaped g f → flags_at g f.update ≡ All0
        → boot_status_at g f.boot ≡ gives b → update_status_at g f.update ≡ gives u → e ≡ closing_of g k B → Trail job f p e
    turning_down : (b : BootStatus) → job ≡ TurnDown → Shaped g f → boot_status_at g f.boot ≡ gives b → update_status_at g f.update ≡ gives Updating
        → e ≡ at g k UpdateArea (firmware g) → Trail job f p e
    at_end : next_operation job g p f ≡ None → Trail job f p e

  -- one step: an erase of k is one of those that were to come
  data Steps (job : Job) (f : Flash) (p e : ℕ) : Type 0 where
    steps : (o : Operation) (e' : ℕ) → next_operation job g p f ≡ Some o → raises_at k (slot g o) + e' ≤ e → Trail job (perform g o f) (phase_after o) e' → Steps job f p e
    ends : next_operation job g p f ≡ None → Steps job f p e

  next_busy : {job : Job} {b : BootStatus} {u : UpdateStatus} (B : Busy job b u) (p : ℕ) (f : Flash) (v : Flags)
      → boot_status_at g f.boot ≡ gives b → update_status_at g f.update ≡ gives u → flags_at g f.update ≡ v → next_operation job g p f ≡ exchange_next p v (last_of B)
  next_busy (updates b) p f v e₁ e₂ e₃ = next_by_reads Update g p f b Updating v e₁ e₂ e₃
  next_busy (falls_back_lem u) p f v e₁ e₂ e₃ = next_by_reads Fallback g p f Testing u v e₁ e₂ e₃

  -- a firmware or SWAP sector is written: flags and statuses stay
  moves_kept : (a : Area) (i : ℕ) (x : List ℕ) (f : Flash) (n : ℕ) → Shaped g f → i < firmware g → length x ≡ g.size → AfterMoves g f.update n
      → AfterMoves g (put g a i x f).update n
  moves_kept Boot i x f n s hi X h = h
  moves_kept UpdateArea i x f n s hi X h = λ j hj. flag_sector g G f.update x s.update X i hi j hj ∙ h j hj
  moves_kept Swap i x f n s hi X h = h

  module _ {job : Job} {b : BootStatus} {u : UpdateStatus} (B : Busy job b u) (i : ℕ) (leg : Leg) (hi : i < firmware g) (f : Flash) (s : Shaped g f)
      (h : AfterMoves g f.update (3 * i + leg_moves leg)) (e₁ : boot_status_at g f.boot ≡ gives b) (e₂ : update_status_at g f.update ≡ gives u) where
    next_leg : (p : ℕ) → next_operation job g p f ≡ Some (leg_operation leg p (sector_number i))
    next_leg p = next_busy B p f (at_leg i leg) e₁ e₂ (shown_leg g f.update i leg hi h) ∙ at_leg_next p i leg (last_of B)

    -- the leg's sector is written with y
    written : (p e : ℕ) (y : List ℕ) → length y ≡ g.size → p < 3 → e ≡ legs_from g k i leg p + sectors_from g k (suc i) (firmware g - suc i) + closing_of g k B
        → Trail job (put g (target leg) i y f) p e
    written p e y Y hp q =
        in_leg_lem b u B i leg hi hp (put_shaped g G (target leg) i y f (omega arith) Y s) (moves_kept (target leg) i y f (3 * i + leg_moves leg) s hi Y h)
        (put_boot_status g G (target leg) i y f Y s hi ∙ e₁) (put_update_status g G (target leg) i y f Y s hi ∙ e₂) q

  -- a leg is over
  turned : {job : Job} {b : BootStatus} {u : UpdateStatus} (B : Busy job b u) (i : ℕ) (leg : Leg) → i < firmware g → (f : Flash) → Shaped g f
      → AfterMoves g f.update (suc (3 * i + leg_moves leg)) → boot_status_at g f.boot ≡ gives b → update_status_at g f.update ≡ gives u
      → (e : ℕ) → e ≡ legs_from g k i leg 2 + sectors_from g k (suc i) (firmware g - suc i) + closing_of g k B → Trail job f 0 e
  turned {job} {b} {u} B i UpdateToSwap hi f s h e₁ e₂ e q =
      let n : suc (3 * i + 0) ≡ 3 * i + 1 = omega arith in
      in_leg_lem b u B i BootToUpdate hi (omega arith) s (subst (λ (a : ℕ). AfterMoves g f.update a) n h) e₁ e₂ q
  turned {job} {b} {u} B i BootToUpdate hi f s h e₁ e₂ e q =
      let n : suc (3 * i + 1) ≡ 3 * i + 2 = omega arith in
      in_leg_lem b u B i SwapToBoot hi (omega arith) s (subst (λ (a : ℕ). AfterMoves g f.update a) n h) e₁ e₂ q
  turned {job} {b} {u} B i SwapToBoot hi f s h e₁ e₂ e q = by (dec_lt (suc i) (firmware g))
    where
      by : Dec (suc i < firmware g) → Trail job f 0 e
      by (yes l) =
          let n : suc (3 * i + 2) ≡ 3 * suc i + 0 = omega arith in
          let r : firmware g - suc i ≡ suc (firmware g - suc (suc i)) = omega arith in
          let w : e ≡ 0 + sectors_from g k (suc i) (suc (firmware g - suc (suc i))) + closing_of g k B = q ∙ ap (λ (j : ℕ). 0 + sectors_from g k (suc i) j + closing_of g k B) r in
          in_leg_lem b u B (suc i) UpdateToSwap l (omega arith) s (subst (λ (a : ℕ). AfterMoves g f.update a) n h) e₁ e₂ (omega (arith, w))
      by (no l) =
          let n : suc (3 * i + 2) ≡ 3 * firmware g = omega arith in
          let r : firmware g - suc i ≡ 0 = omega arith in
          let w : e ≡ 0 + sectors_from g k (suc i) 0 + closing_of g k B = q ∙ ap (λ (j : ℕ). 0 + sectors_from g k (suc i) j + closing_of g k B) r in
          at_last b u B s (shown_every g f.update (some_firmware g G) (subst (λ (a : ℕ). AfterMoves g f.update a) n h)) e₁ e₂ (omega (arith, w))

  -- the first operation of a leg is its erase, the second is none
  leg_erases : (i : ℕ) (leg : Leg) → legs_from g k i leg 0 ≡ at g k (target leg) i + legs_from g k i leg 1
  leg_erases i UpdateToSwap = refl
  leg_erases i BootToUpdate = refl
  leg_erases i SwapToBoot = omega arith

  leg_copies : (i : ℕ) (leg : Leg) → legs_from g k i leg 1 ≡ legs_from g k i leg 2
  leg_copies i UpdateToSwap = refl
  leg_copies i BootToUpdate = refl
  leg_copies i SwapToBoot = refl

  -- BOOT's status is written
  shaped_written : (f : Flash) → Shaped g f → (v : BootStatus) → Shaped g (perform g (WriteBootStatus v) f)
  shaped_written f s v = record { limits = G; boot = length_status g G f.boot s.boot (boot_byte v) ∙ s.boot; update = s.update; swap = s.swap }

  shaped_flag : (f : Flash) → Shaped g f → (i : ℕ) → i < firmware g → (leg : Leg) → Shaped g (perform g (WriteFlag (sector_number i) (next_flag leg)) f)
  shaped_flag f s i hi leg = record { limits = G; boot = s.boot; update = length_flag g G f.update s.update i (next_flag leg) hi ∙ s.update; swap = s.swap }

  -- the UPDATE trailer is erased, and nothing is next for a job that is done once UPDATE is NEW
  erased_update : (f : Flash) → Shaped g f → update_status_at g (perform g EraseUpdateTrailer f).update ≡ gives UpdateNew
  erased_update f s = update_erased g G f.update s.update

  last_step : {job : Job} {b : BootStatus} {u : UpdateStatus} (B : Busy job b u) (f : Flash) (p e : ℕ) → Shaped g f → flags_at g f.update ≡ All0
      → boot_status_at g f.boot ≡ gives b → update_status_at g f.update ≡ gives u → e ≡ closing_of g k B → Steps job f p e
  last_step (updates Success) f p e s v e₁ e₂ q =
      steps EraseBootTrailer (at g k UpdateArea (firmware g)) (next_busy (updates Success) p f All0 e₁ e₂ v) (omega arith)
      (at_last BootNew Updating (updates BootNew) (put_shaped g G Boot (firmware g) (erased g.size) f (omega arith) (length_erased g.size) s) v
      (boot_erased g G f.boot s.boot) e₂ refl)
  last_step (updates BootNew) f p e s v e₁ e₂ q =
      steps (WriteBootStatus Testing) e (next_busy (updates BootNew) p f All0 e₁ e₂ v) (omega arith)
      (at_last Testing Updating (updates Testing) (shaped_written f s Testing) v (boot_written g G f.boot s.boot Testing) e₂ q)
  last_step (updates Testing) f p e s v e₁ e₂ q =
      steps EraseUpdateTrailer 0 (next_busy (updates Testing) p f All0 e₁ e₂ v) (omega arith)
      (at_end (next_by_reads Update g 0 (perform g EraseUpdateTrailer f) Testing UpdateNew (flags_at g (perform g EraseUpdateTrailer f).update) e₁ (erased_update f s) refl))
  last_step (falls_back_lem u) f p e s v e₁ e₂ q =
      steps (WriteBootStatus Success) 0 (next_busy (falls_back_lem u) p f All0 e₁ e₂ v) (omega arith)
      (at_end (next_by_reads Fallback g 0 (perform g (WriteBootStatus Success) f) Success u (flags_at g f.update) (boot_written g G f.boot s.boot Success) e₂ refl))

  one_step : (job : Job) (f : Flash) (p e : ℕ) → Trail job f p e → Steps job f p e
  one_step job f zero e (in_leg_lem b u B i leg hi hp s h e₁ e₂ q) =
      steps (Erase (target leg) (sector_number i)) (legs_from g k i leg 1 + sectors_from g k (suc i) (firmware g - suc i) + closing_of g k B)
      (next_leg B i leg hi f s h e₁ e₂ 0) (omega (arith, leg_erases i leg))
      (written B i leg hi f s h e₁ e₂ 1 _ (erased g.size) (length_erased g.size) (omega arith) refl)
  one_step job f (suc zero) e (in_leg_lem b u B i leg hi hp s h e₁ e₂ q) =
      steps (Copy leg (sector_number i)) e (next_leg B i leg hi f s h e₁ e₂ 1) (omega arith)
      (written B i leg hi f s h e₁ e₂ 2 e (get g (source leg) i f) (sized g f s (source leg) i hi) (omega arith)
      (q ∙ ap (λ (n : ℕ). n + sectors_from g k (suc i) (firmware g - suc i) + closing_of g k B) (leg_copies i leg)))
  one_step job f (suc (suc zero)) e (in_leg_lem b u B i leg hi hp s h e₁ e₂ q) =
      let w : moved (suc (leg_moves leg)) ≡ next_flag leg = sym (next_moved leg) in
      steps (WriteFlag (sector_number i) (next_flag leg)) e (next_leg B i leg hi f s h e₁ e₂ 2) (omega arith)
      (turned B i leg hi (perform g (WriteFlag (sector_number i) (next_flag leg)) f) (shaped_flag f s i hi leg)
      (subst (λ (v : Flag). AfterMoves g (set_flag g i v f.update) (suc (3 * i + leg_moves leg))) w (moves_on_lem g G f.update s.update i leg hi h))
      e₁ (ap update_status_of (status_flag g G f.update s.update i (next_flag leg) hi) ∙ e₂) e q)
  one_step job f (suc (suc (suc p))) e (in_leg_lem b u B i leg hi hp s h e₁ e₂ q) = absurd (omega arith)
  one_step job f p e (at_last b u B s v e₁ e₂ q) = last_step B f p e s v e₁ e₂ q
  one_step job f p e (turning_down b t s e₁ e₂ q) =
      steps EraseUpdateTrailer 0 (ap (λ (j : Job). next_operation j g p f) t ∙ next_by_reads TurnDown g p f b Updating (flags_at g f.update) e₁ e₂ refl) (omega arith)
      (at_end (ap (λ (j : Job). next_operation j g 0 (perform g EraseUpdateTrailer f)) t
      ∙ next_by_reads TurnDown g 0 (perform g EraseUpdateTrailer f) b UpdateNew (flags_at g (perform g EraseUpdateTrailer f).update) e₁ (erased_update f s) refl))
  one_step job f p e (at_end n) = ends n

  -- a run erases the place no more often than was to come
  run_few : (n : ℕ) (job : Job) (f : Flash) (p e : ℕ) → Trail job f p e → erases_at g k (operations job g n p f) ≤ e
  unfolding operations
  run_few zero job f p e t = omega arith
  run_few (suc n) job f p e t = on (one_step job f p e t) (λ o e' t'. run_few n job (perform g o f) (phase_after o) e' t')
    where
      on : Steps job f p e → ((o : Operation) (e' : ℕ) → Trail job (perform g o f) (phase_after o) e' → erases_at g k (operations job g n (phase_after o) (perform g o f)) ≤ e')
          → erases_at g k (operations job g (suc n) p f) ≤ e
      on (ends q) more = rw (operations_none job g (suc n) p f q) (omega arith)
      on (steps o e' q paid t') more = rw (operations_some job g n p f o q) (omega (arith, paid, more o e' t'))

  -- ---- where it starts

  record Begins (job : Job) (f : Flash) : Type 0 where
    most : ℕ
    bounded : most ≤ firmware g
    trail : Trail job f 0 most

  nothing_next : (job : Job) (f : Flash) → next_operation job g 0 f ≡ None → Begins job f
  nothing_next job f e = record { most = 0; bounded = omega arith; trail = at_end e }

  leg_part : (i : ℕ) (leg : Leg) → legs_from g k i leg 0 ≤ legs_from g k i UpdateToSwap 0
  leg_part i UpdateToSwap = omega arith
  leg_part i BootToUpdate = omega arith
  leg_part i SwapToBoot = omega arith

  module _ (f : Flash) (s : Shaped g f) where
    at_a_leg : {job : Job} {b : BootStatus} {u : UpdateStatus} (B : Busy job b u) → boot_status_at g f.boot ≡ gives b → update_status_at g f.update ≡ gives u
        → (i : ℕ) (leg : Leg) → i < firmware g → flags_at g f.update ≡ at_leg i leg → Begins job f
    at_a_leg {job} {b} {u} B e₁ e₂ i leg hi v =
        let r : firmware g - i ≡ suc (firmware g - suc i) = omega arith in
        let n : i + suc (firmware g - suc i) ≡ firmware g = omega arith in
        record {
          most = legs_from g k i leg 0 + sectors_from g k (suc i) (firmware g - suc i) + closing_of g k B;
          bounded = omega (arith, leg_part i leg, few g G k B i (suc (firmware g - suc i)) n);
          trail = in_leg_lem b u B i leg hi (omega arith) s (moves_leg g f.update i leg v) e₁ e₂ refl;
        }

    busy : {job : Job} {b : BootStatus} {u : UpdateStatus} (B : Busy job b u) → boot_status_at g f.boot ≡ gives b → update_status_at g f.update ≡ gives u
        → (v : Flags) → flags_at g f.update ≡ v → Begins job f
    busy B e₁ e₂ AllF v = at_a_leg B e₁ e₂ 0 UpdateToSwap (some_firmware g G) v
    busy B e₁ e₂ (At i leg) v = let w = each_at g f.update i leg v in at_a_leg B e₁ e₂ i.0 leg w.inside (v ∙ at_leg_lem i.0 leg w.not_all_f)
    busy {job} {b} {u} B e₁ e₂ All0 v =
        record { most = closing_of g k B; bounded = omega (arith, few g G k B (firmware g) 0 (omega arith)); trail = at_last b u B s v e₁ e₂ refl }
    busy {job} B e₁ e₂ Malformed v = nothing_next job f (next_busy B 0 f Malformed e₁ e₂ v)

    by_reads : (job : Job) (b : BootStatus) (u : UpdateStatus) → boot_status_at g f.boot ≡ gives b → update_status_at g f.update ≡ gives u → Begins job f
    by_reads Update b Updating e₁ e₂ = busy (updates b) e₁ e₂ (flags_at g f.update) refl
    by_reads Update b UpdateNew e₁ e₂ = nothing_next Update f (next_by_reads Update g 0 f b UpdateNew (flags_at g f.update) e₁ e₂ refl)
    by_reads Fallback Testing u e₁ e₂ = busy (falls_back_lem u) e₁ e₂ (flags_at g f.update) refl
    by_reads Fallback BootNew u e₁ e₂ = nothing_next Fallback f (next_by_reads Fallback g 0 f BootNew u (flags_at g f.update) e₁ e₂ refl)
    by_reads Fallback Success u e₁ e₂ = nothing_next Fallback f (next_by_reads Fallback g 0 f Success u (flags_at g f.update) e₁ e₂ refl)
    by_reads TurnDown b Updating e₁ e₂ =
        record { most = at g k UpdateArea (firmware g); bounded = omega (arith, place_once g G k UpdateArea (firmware g), some_firmware g G); trail = turning_down b refl s e₁ e₂ refl }
    by_reads TurnDown b UpdateNew e₁ e₂ = nothing_next TurnDown f (next_by_reads TurnDown g 0 f b UpdateNew (flags_at g f.update) e₁ e₂ refl)

    unread : (job : Job) (B : Answer BootStatus) (U : Answer UpdateStatus) → boot_status_at g f.boot ≡ B → update_status_at g f.update ≡ U
        → ordered_by job 0 B U (flags_at g f.update) ≡ None → next_operation job g 0 f ≡ None
    unfolding next_operation
    unread job B U e₁ e₂ n = rw (e₁, e₂) n

    begins : (job : Job) (B : Answer BootStatus) (U : Answer UpdateStatus) → boot_status_at g f.boot ≡ B → update_status_at g f.update ≡ U → Begins job f
    begins job (gives b) (gives u) e₁ e₂ = by_reads job b u e₁ e₂
    begins job (gives b) (refused n q) e₁ e₂ = nothing_next job f (unread job (gives b) (refused n q) e₁ e₂ refl)
    begins job (refused n q) U e₁ e₂ = nothing_next job f (unread job (refused n q) U e₁ e₂ refl)

-- whatever the bytes: m times at most
pub no_more_than_m : (g : Geometry) (f : Flash) → Shaped g f → (job : Job) (n k : ℕ) → erases_at g k (operations job g n 0 f) ≤ firmware g
no_more_than_m g f s job n k =
    let b = begins g s.limits k f s job (boot_status_at g f.boot) (update_status_at g f.update) refl refl in
    omega (arith, b.bounded, run_few g s.limits k n job f 0 b.most b.trail)
