-- Where an exchange stands: in a leg, at the closing operations, or at the end; the operations left; the single step.
use mathlib.Core.Path.{◌≡◌, refl, sym, ap, ◌∙◌, subst}
use mathlib.Core.Bool.{Bool, true, false, cond}
use mathlib.Core.List.{List}
use Prim.Native.Nat.{ℕ, zero, suc, ◌+◌, ◌*◌, ◌≤◌, ◌<◌}
use native.Mathlib.Decide.{dec_lt}
use native.Mathlib.Omega.{arith}
use lib.ListN.{length}
use Rattle.std.specs.Prelude.{Some, None}
use Rattle.numbers.specs.Answer.{gives}
use Rattle.exchange.specs.Base.{Geometry, BootStatus, BootNew, Testing, Success, UpdateStatus, UpdateNew, Updating, Leg, UpdateToSwap, BootToUpdate, SwapToBoot, All0}
use Rattle.exchange.specs.Base.{firmware, Limits, sector_number, erased, Flash, Shaped, boot_status_at, update_status_of, update_status_at, flags_at}
use Rattle.exchange.specs.declared.Area.TheVariants.{Boot, Update as UpdateArea}
use Rattle.exchange.specs.declared.Operation.{Operation}
use Rattle.exchange.specs.declared.Operation.TheVariants.{Erase, Copy, WriteFlag, EraseBootTrailer, EraseUpdateTrailer, WriteBootStatus}
use Rattle.exchange.specs.declared.Job.TheVariants.{Update, Fallback}
use Rattle.exchange.specs.Operations.{get, put, perform, target, source, next_flag, leg_operation, phase_after}
use Rattle.exchange.specs.Order.{exchange_next, next_operation}
use Rattle.exchange.specs.LostPower.{Torn, perform_torn}
use Rattle.exchange.specs.Demand.{Exchange, update, fallback, job_of, LastBytes, flags_at_finish, Underway, from_new, from_success, from_testing}
use Rattle.flash.proofs.Checked.{some_firmware}
use Rattle.flash.proofs.Laws.{length_erased, sector_same}
use Rattle.flash_flags.proofs.Laws.{boot_erased, update_erased, flags_erased, boot_written, status_flag}
use Rattle.flash_flags.proofs.Shown.{shown_all_0}
use Rattle.flash_flags.specs.SectorFlags.{leg_moves}
use Rattle.flash_flags.proofs.Moves.{at_leg, shown_leg}
use Rattle.exchange.proofs.Orders.{next_by_reads}
use Rattle.exchange.proofs.Sound.{Sound, Crossed, Ready, put_shaped, put_boot_status, put_update_status, scratch, length_source, copied, advance, crossed, boot_trailer_lem, boot_status_lem, update_trailer_lem}

-- BOOT's and UPDATE's status while the closing operations run
pub data Closing : Exchange → BootStatus → UpdateStatus → Type 0 where
  erase_boot : Closing update Success Updating
  write_testing : Closing update BootNew Updating
  erase_update : Closing update Testing Updating
  write_success : Closing fallback Testing UpdateNew

-- and at the end
pub data Closed : Exchange → BootStatus → UpdateStatus → Type 0 where
  on_test : Closed update Testing UpdateNew
  fallen_back_lem : Closed fallback Success UpdateNew

abbrev pub closing_left : {x : Exchange} {b : BootStatus} {u : UpdateStatus} → Closing x b u → ℕ
closing_left erase_boot = 3
closing_left write_testing = 2
closing_left erase_update = 1
closing_left write_success = 1

abbrev pub closing : {x : Exchange} {b : BootStatus} {u : UpdateStatus} → Underway x b u → Closing x b u
closing from_new = write_testing
closing from_success = erase_boot
closing from_testing = write_success

abbrev pub closing_operation : {x : Exchange} {b : BootStatus} {u : UpdateStatus} → Closing x b u → Operation
closing_operation erase_boot = EraseBootTrailer
closing_operation write_testing = WriteBootStatus Testing
closing_operation erase_update = EraseUpdateTrailer
closing_operation write_success = WriteBootStatus Success

pub record Swapped (x : Exchange) (g : Geometry) (old f : Flash) : Type 0 where
  pub boot_is : (j : ℕ) → j < firmware g → get g Boot j f ≡ get g UpdateArea j old
  pub update_is : (j : ℕ) → j < firmware g → get g UpdateArea j f ≡ get g Boot j old
  pub last_bytes : LastBytes x g f
  pub flags : flags_at g f.update ≡ flags_at_finish x

-- at the phase p of a leg, with r operations left. D is what else holds of BOOT's and UPDATE's bytes while no flag has moved.
pub data Stage (D : List ℕ → List ℕ → Type 0) (g : Geometry) (old : Flash) {x : Exchange} {b₀ : BootStatus} {u₀ : UpdateStatus} (B : Underway x b₀ u₀) (f : Flash) (p r : ℕ) : Type 0 where
  in_leg_lem : (i : ℕ) (leg : Leg) → i < firmware g → p < 3 → Sound g old (3 * i + leg_moves leg) f → (3 * i + leg_moves leg ≡ 0 → D f.boot f.update)
      → boot_status_at g f.boot ≡ gives b₀ → update_status_at g f.update ≡ gives u₀ → (p ≡ 2 → Ready g leg i f)
      → r + 3 * (3 * i + leg_moves leg) + p ≡ 9 * firmware g + closing_left (closing B) → Stage D g old B f p r
  at_last : (b : BootStatus) (u : UpdateStatus) (c : Closing x b u) → closing_left c ≤ closing_left (closing B) → Crossed g old f
      → boot_status_at g f.boot ≡ gives b → update_status_at g f.update ≡ gives u → r ≡ closing_left c → p ≡ 0 → Stage D g old B f p r
  at_end : (b : BootStatus) (u : UpdateStatus) (c : Closed x b u) → Swapped x g old f → Shaped g f
      → boot_status_at g f.boot ≡ gives b → update_status_at g f.update ≡ gives u → r ≡ 0 → p ≡ 0 → Stage D g old B f p r

pub data Stepped (D : List ℕ → List ℕ → Type 0) (g : Geometry) (old : Flash) {x : Exchange} {b₀ : BootStatus} {u₀ : UpdateStatus} (B : Underway x b₀ u₀) (f : Flash) (p r : ℕ) : Type 0 where
  stepped : (o : Operation) → next_operation (job_of x) g p f ≡ Some o → Stage D g old B (perform g o f) (phase_after o) r
      → ((t : Torn) → length t.bytes ≡ g.size → (q : ℕ) × (q ≤ suc r + p) × Stage D g old B (perform_torn g t o f) 0 q)
      → Stepped D g old B f p r

-- ---- the next operation

pub at_leg_next : (p i : ℕ) (leg : Leg) (last : Operation) → exchange_next p (at_leg i leg) last ≡ Some (leg_operation leg p (sector_number i))
at_leg_next p zero UpdateToSwap last = refl
at_leg_next p zero BootToUpdate last = refl
at_leg_next p zero SwapToBoot last = refl
at_leg_next p (suc i) leg last = refl

pub next_leg : (g : Geometry) (x : Exchange) (b : BootStatus) (u : UpdateStatus) (B : Underway x b u) (p i : ℕ) (leg : Leg) (f : Flash)
    → boot_status_at g f.boot ≡ gives b → update_status_at g f.update ≡ gives u → flags_at g f.update ≡ at_leg i leg
    → next_operation (job_of x) g p f ≡ Some (leg_operation leg p (sector_number i))
next_leg g x b u from_new p i leg f e₁ e₂ e₃ =
    next_by_reads Update g p f b u (at_leg i leg) e₁ e₂ e₃ ∙ at_leg_next p i leg (WriteBootStatus Testing)
next_leg g x b u from_success p i leg f e₁ e₂ e₃ =
    next_by_reads Update g p f b u (at_leg i leg) e₁ e₂ e₃ ∙ at_leg_next p i leg EraseBootTrailer
next_leg g x b u from_testing p i leg f e₁ e₂ e₃ =
    next_by_reads Fallback g p f b u (at_leg i leg) e₁ e₂ e₃ ∙ at_leg_next p i leg (WriteBootStatus Success)

next_last : (g : Geometry) (x : Exchange) (b : BootStatus) (u : UpdateStatus) (c : Closing x b u) (p : ℕ) (f : Flash)
    → boot_status_at g f.boot ≡ gives b → update_status_at g f.update ≡ gives u → flags_at g f.update ≡ All0
    → next_operation (job_of x) g p f ≡ Some (closing_operation c)
next_last g x b u erase_boot p f e₁ e₂ e₃ = next_by_reads Update g p f b u All0 e₁ e₂ e₃
next_last g x b u write_testing p f e₁ e₂ e₃ = next_by_reads Update g p f b u All0 e₁ e₂ e₃
next_last g x b u erase_update p f e₁ e₂ e₃ = next_by_reads Update g p f b u All0 e₁ e₂ e₃
next_last g x b u write_success p f e₁ e₂ e₃ = next_by_reads Fallback g p f b u All0 e₁ e₂ e₃

pub next_end : (g : Geometry) (x : Exchange) (b : BootStatus) (u : UpdateStatus) (c : Closed x b u) (p : ℕ) (f : Flash)
    → boot_status_at g f.boot ≡ gives b → update_status_at g f.update ≡ gives u → next_operation (job_of x) g p f ≡ None
next_end g x b u on_test p f e₁ e₂ = next_by_reads Update g p f b u (flags_at g f.update) e₁ e₂ refl
next_end g x b u fallen_back_lem p f e₁ e₂ = next_by_reads Fallback g p f b u (flags_at g f.update) e₁ e₂ refl

-- ---- the single step

-- old or new
either : {D : List ℕ → List ℕ → Type 0} (g : Geometry) (old : Flash) (x : Exchange) (b₀ : BootStatus) (u₀ : UpdateStatus) (B : Underway x b₀ u₀) (n : Bool) (f f' : Flash) (p r : ℕ)
    → Stage D g old B f' 0 r → Stage D g old B f 0 (suc r + p) → (q : ℕ) × (q ≤ suc r + p) × Stage D g old B (cond n f' f) 0 q
either g old x b₀ u₀ B true f f' p r a b = (r, omega arith, a)
either g old x b₀ u₀ B false f f' p r a b = (suc r + p, omega arith, b)

pub all_0 : (g : Geometry) (G : Limits g) (old f : Flash) → Crossed g old f → flags_at g f.update ≡ All0
all_0 g G old f s = shown_all_0 g f.update (some_firmware g G) s.flags0

last_step : {D : List ℕ → List ℕ → Type 0} (g : Geometry) (G : Limits g) (old : Flash) (x : Exchange) (b₀ : BootStatus) (u₀ : UpdateStatus) (B : Underway x b₀ u₀) (f : Flash) (r : ℕ)
    (b : BootStatus) (u : UpdateStatus) (c : Closing x b u) → closing_left c ≤ closing_left (closing B)
    → Crossed g old f → boot_status_at g f.boot ≡ gives b → update_status_at g f.update ≡ gives u → suc r ≡ closing_left c → Stepped D g old B f 0 r
last_step {D} g G old x b₀ u₀ B f r b u erase_boot le s e₁ e₂ n =
    let next : Stage D g old B (perform g EraseBootTrailer f) 0 r
    = at_last BootNew Updating write_testing (omega arith) (boot_trailer_lem g G old f s) (boot_erased g G f.boot s.shaped.boot) e₂ (omega arith) refl in
    stepped EraseBootTrailer (next_last g x b u erase_boot 0 f e₁ e₂ (all_0 g G old f s)) next
    (λ y Y. either g old x b₀ u₀ B y.new f (perform g EraseBootTrailer f) 0 r next (at_last Success Updating erase_boot le s e₁ e₂ (omega arith) refl))
last_step {D} g G old x b₀ u₀ B f r b u write_testing le s e₁ e₂ n =
    let next : Stage D g old B (perform g (WriteBootStatus Testing) f) 0 r
    = at_last Testing Updating erase_update (omega arith) (boot_status_lem g G old f s Testing) (boot_written g G f.boot s.shaped.boot Testing) e₂ (omega arith) refl in
    stepped (WriteBootStatus Testing) (next_last g x b u write_testing 0 f e₁ e₂ (all_0 g G old f s)) next
    (λ y Y. either g old x b₀ u₀ B y.new f (perform g (WriteBootStatus Testing) f) 0 r next (at_last BootNew Updating write_testing le s e₁ e₂ (omega arith) refl))
last_step {D} g G old x b₀ u₀ B f r b u erase_update le s e₁ e₂ n =
    let next : Stage D g old B (perform g EraseUpdateTrailer f) 0 r
    = at_end Testing UpdateNew on_test (record {
      boot_is = s.boot_is;
      update_is = update_trailer_lem g G old f s;
      last_bytes = sector_same g G f.update (erased g.size) s.shaped.update (length_erased g.size) (firmware g) (omega arith);
      flags = flags_erased g G f.update s.shaped.update;
    })
    (put_shaped g G UpdateArea (firmware g) (erased g.size) f (omega arith) (length_erased g.size) s.shaped) e₁
    (update_erased g G f.update s.shaped.update) (omega arith) refl in
    stepped EraseUpdateTrailer (next_last g x b u erase_update 0 f e₁ e₂ (all_0 g G old f s)) next
    (λ y Y. either g old x b₀ u₀ B y.new f (perform g EraseUpdateTrailer f) 0 r next (at_last Testing Updating erase_update le s e₁ e₂ (omega arith) refl))
last_step {D} g G old x b₀ u₀ B f r b u write_success le s e₁ e₂ n =
    let s' : Crossed g old (perform g (WriteBootStatus Success) f) = boot_status_lem g G old f s Success in
    let next : Stage D g old B (perform g (WriteBootStatus Success) f) 0 r
    = at_end Success UpdateNew fallen_back_lem (record {
      boot_is = s'.boot_is;
      update_is = s'.update_is;
      last_bytes = boot_written g G f.boot s.shaped.boot Success;
      flags = all_0 g G old f s;
    })
    s'.shaped
    (boot_written g G f.boot s.shaped.boot Success) e₂ (omega arith) refl in
    stepped (WriteBootStatus Success) (next_last g x b u write_success 0 f e₁ e₂ (all_0 g G old f s)) next
    (λ y Y. either g old x b₀ u₀ B y.new f (perform g (WriteBootStatus Success) f) 0 r next (at_last Testing UpdateNew write_success le s e₁ e₂ (omega arith) refl))

-- a leg from all flags F writes SWAP only
kept : (D : List ℕ → List ℕ → Type 0) (g : Geometry) (i : ℕ) (leg : Leg) (y : List ℕ) (f : Flash) → (3 * i + leg_moves leg ≡ 0 → D f.boot f.update)
    → 3 * i + leg_moves leg ≡ 0 → D (put g (target leg) i y f).boot (put g (target leg) i y f).update
kept D g i UpdateToSwap y f d e = d e
kept D g i BootToUpdate y f d e = absurd (omega arith)
kept D g i SwapToBoot y f d e = absurd (omega arith)

module _ {D : List ℕ → List ℕ → Type 0} (g : Geometry) (G : Limits g) (old : Flash) {x : Exchange} {b₀ : BootStatus} {u₀ : UpdateStatus} (B : Underway x b₀ u₀) where
  -- a leg is over
  turned : (i : ℕ) (leg : Leg) (r : ℕ) (f : Flash) → i < firmware g → Sound g old (suc (3 * i + leg_moves leg)) f
      → boot_status_at g f.boot ≡ gives b₀ → update_status_at g f.update ≡ gives u₀
      → suc r + 3 * (3 * i + leg_moves leg) + 2 ≡ 9 * firmware g + closing_left (closing B) → Stage D g old B f 0 r
  turned i UpdateToSwap r f hi s e₁ e₂ n =
      let e : suc (3 * i + 0) ≡ 3 * i + 1 = omega arith in
      in_leg_lem i BootToUpdate hi (omega arith) (subst (λ (a : ℕ). Sound g old a f) e s) (λ k. absurd (omega arith)) e₁ e₂ (λ k. absurd (omega arith)) (omega arith)
  turned i BootToUpdate r f hi s e₁ e₂ n =
      let e : suc (3 * i + 1) ≡ 3 * i + 2 = omega arith in
      in_leg_lem i SwapToBoot hi (omega arith) (subst (λ (a : ℕ). Sound g old a f) e s) (λ k. absurd (omega arith)) e₁ e₂ (λ k. absurd (omega arith)) (omega arith)
  turned i SwapToBoot r f hi s e₁ e₂ n = by (dec_lt (suc i) (firmware g))
    where
      by : Dec (suc i < firmware g) → Stage D g old B f 0 r
      by (yes h) =
          let e : suc (3 * i + 2) ≡ 3 * suc i + 0 = omega arith in
          in_leg_lem (suc i) UpdateToSwap h (omega arith) (subst (λ (a : ℕ). Sound g old a f) e s) (λ k. absurd (omega arith)) e₁ e₂ (λ k. absurd (omega arith)) (omega arith)
      by (no h) =
          let e : suc (3 * i + 2) ≡ 3 * firmware g = omega arith in
          at_last b₀ u₀ (closing B) (omega arith) (crossed g G old f (subst (λ (a : ℕ). Sound g old a f) e s)) e₁ e₂ (omega arith) refl

  -- the leg's sector is written with y
  within : (i : ℕ) (leg : Leg) (p r : ℕ) (f : Flash) → i < firmware g → Sound g old (3 * i + leg_moves leg) f
      → (3 * i + leg_moves leg ≡ 0 → D f.boot f.update)
      → boot_status_at g f.boot ≡ gives b₀ → update_status_at g f.update ≡ gives u₀ → (y : List ℕ) → length y ≡ g.size
      → p < 3 → (p ≡ 2 → Ready g leg i (put g (target leg) i y f)) → r + 3 * (3 * i + leg_moves leg) + p ≡ 9 * firmware g + closing_left (closing B)
      → Stage D g old B (put g (target leg) i y f) p r
  within i leg p r f hi s d e₁ e₂ y Y hp ready n =
      in_leg_lem i leg hi hp (scratch g G old i leg hi f s y Y) (kept D g i leg y f d)
      (put_boot_status g G (target leg) i y f Y s.shaped hi ∙ e₁)
      (put_update_status g G (target leg) i y f Y s.shaped hi ∙ e₂)
      ready n

  pub step : (f : Flash) (p r : ℕ) → Stage D g old B f p (suc r) → Stepped D g old B f p r
  step f zero r (in_leg_lem i leg hi hp s d e₁ e₂ ready n) =
      stepped (Erase (target leg) (sector_number i))
      (next_leg g x b₀ u₀ B 0 i leg f e₁ e₂ (shown_leg g f.update i leg hi s.moves))
      (within i leg 1 r f hi s d e₁ e₂ (erased g.size) (length_erased g.size) (omega arith) (λ k. absurd (omega arith)) (omega arith))
      (λ t T. (suc r + 0, omega arith, within i leg 0 (suc r + 0) f hi s d e₁ e₂ t.bytes T (omega arith) (λ k. absurd (omega arith)) (omega arith)))
  step f (suc zero) r (in_leg_lem i leg hi hp s d e₁ e₂ ready n) =
      stepped (Copy leg (sector_number i))
      (next_leg g x b₀ u₀ B 1 i leg f e₁ e₂ (shown_leg g f.update i leg hi s.moves))
      (within i leg 2 r f hi s d e₁ e₂ (get g (source leg) i f) (length_source g G old i leg hi f s) (omega arith) (λ k. copied g G old i leg hi f s) (omega arith))
      (λ t T. (suc r + 1, omega arith, within i leg 0 (suc r + 1) f hi s d e₁ e₂ t.bytes T (omega arith) (λ k. absurd (omega arith)) (omega arith)))
  step f (suc (suc zero)) r (in_leg_lem i leg hi hp s d e₁ e₂ ready n) =
      let next : Stage D g old B (perform g (WriteFlag (sector_number i) (next_flag leg)) f) 0 r
      = turned i leg r (perform g (WriteFlag (sector_number i) (next_flag leg)) f) hi (advance g G old i leg hi f s (ready refl)) e₁
      (ap update_status_of (status_flag g G f.update s.shaped.update i (next_flag leg) hi) ∙ e₂) n in
      stepped (WriteFlag (sector_number i) (next_flag leg))
      (next_leg g x b₀ u₀ B 2 i leg f e₁ e₂ (shown_leg g f.update i leg hi s.moves))
      next
      (λ t T. either g old x b₀ u₀ B t.new f (perform g (WriteFlag (sector_number i) (next_flag leg)) f) 2 r next
      (in_leg_lem i leg hi (omega arith) s d e₁ e₂ (λ k. absurd (omega arith)) (omega arith)))
  step f (suc (suc (suc p))) r (in_leg_lem i leg hi hp s d e₁ e₂ ready n) = absurd (omega arith)
  step f p r (at_last b u c le s e₁ e₂ n z) =
      subst (λ (q : ℕ). Stepped D g old B f q r) (sym z) (last_step g G old x b₀ u₀ B f r b u c le s e₁ e₂ n)
  step f p r (at_end b u c y s e₁ e₂ n z) = absurd (omega arith)
