-- The marked cases 1 to 6: one law predicts every list of untorn power-ups by numbers alone, and each case is that law, computed.
use mathlib.Core.Path.{◌≡◌, refl, sym, ap, ap₂, ◌∙◌, subst}
use mathlib.Core.Bool.{Bool, true, false, cond, ◌&&◌}
use mathlib.Core.List.{List, [], ◌∷◌}
use Prim.Native.Nat.{ℕ, zero, suc, ◌+◌, ◌-◌, ◌*◌, ◌/◌, ◌%◌, ◌≤◌, ◌<◌, min}
use native.Mathlib.Omega.{arith}
use lib.ListN.{get_or}
use lib.Dec.{leb, ltb, eqb}
use borrow.Author.Tests.{eqb-true, lt-leb, le-leb, lt-ltb, le-ltb}
use Rattle.std.specs.Prelude.{Option, Some, None}
use Rattle.numbers.specs.Answer.{Answer, gives, refused, no_reason, Refusal, number_of}
use Rattle.exchange.specs.declared.Operation.{Operation}
use Rattle.exchange.specs.Base.{BootStatus, BootNew, Testing, Success, UpdateStatus, UpdateNew, Updating, Flag, Flags, Malformed, AllF, At, All0}
use Rattle.exchange.specs.Base.{firmware, Limits, Flash, Shaped, fits, boot_status_at, update_status_at, moved, flag_value, flag_of, flag_byte, half, flag_at, flags_from, flags, all_f, past_zeros, flags_shown, flags_at}
use Rattle.exchange.specs.declared.Job.TheVariants.{Update}
use Rattle.exchange.specs.Order.{next_operation, Run, run}
use Rattle.exchange.specs.Decision.{Check, work, decide_by, decide}
use Rattle.exchange.specs.PowerUp.{Outcome, refusal, cut, runs, runs_on_test, runs_fallen_back, PowerUp, done_outcome, outcome_by, worked, power_up}
use Rattle.exchange.specs.Demand.{Exchange, update, fallback, job_of, ReadsFirmware, Underway, from_new, from_success, from_testing}
use Rattle.numbers.specs.Every.{Every}
use Rattle.exchange.specs.Cases.{three, flag_byte_of, after, counts, last_outcome, Leaves, ExchangeCase, power_ups, malformed, FlagByteIs, LeavesAs, ExchangeCaseHolds, exchange_cases, MarkedExchange}
use Rattle.flash.proofs.Checked.{shaped_of}
use Rattle.flash_flags.specs.SectorFlags.{leg_moves}
use Rattle.flash_flags.proofs.Moves.{leg_below}
use Rattle.exchange.proofs.Orders.{decide_by_reads}
use Rattle.exchange.proofs.Accepted.{Images, update_good_lem, begun}
use Rattle.exchange.proofs.Stage.{Closing, erase_boot, write_testing, erase_update, write_success, closing_left, closing, Closed, on_test, fallen_back_lem, Stage, in_leg_lem, at_last, at_end, Stepped, stepped, step}
use Rattle.exchange.proofs.Walked.{closing_some, Walked, walked, ended, restart}
use Rattle.exchange.proofs.Decided.{Decides}
use Rattle.exchange.proofs.Played.{OldRuns, old_runs, works, end_good}
use Rattle.exchange.proofs.Whole.{begins, stands_first}
use Rattle.numbers.proofs.Every.{every}
use Rattle.numbers.proofs.Tests.{second_of}

two : firmware three ≡ 2
unfolding firmware
two = refl

-- ---- what the numbers predict: l closing operations, r operations left

abbrev phase_left : ℕ → ℕ → ℕ
phase_left l q = cond (leb q l) 0 ((18 + l - q) % 3)

abbrev next_left : ℕ → ℕ → ℕ → ℕ
next_left l r b = r - min b r + phase_left l (r - min b r)

abbrev left_after : ℕ → ℕ → List ℕ → ℕ
left_after l r [] = r
left_after l r (b ∷ bs) = left_after l (next_left l r b) bs

abbrev counts_after : ℕ → ℕ → List ℕ → List ℕ
counts_after l r [] = []
counts_after l r (b ∷ bs) = min b r ∷ counts_after l (next_left l r b) bs

abbrev last_after : Exchange → ℕ → ℕ → List ℕ → Outcome → Outcome
last_after x l r [] o = o
last_after x l r (b ∷ bs) o = last_after x l (next_left l r b) bs (cond (ltb b r) cut (done_outcome (job_of x)))

-- no power-up after the finish
abbrev going : ℕ → ℕ → List ℕ → Bool
going l r [] = true
going l r (b ∷ bs) = ltb 0 r && going l (next_left l r b) bs

abbrev byte_left : ℕ → ℕ → ℕ
byte_left l q = cond (leb q l) 0 (flag_value (moved ((18 + l - q) / 3)) + 16 * flag_value (moved ((18 + l - q) / 3 - 3)))

abbrev boot_left : Exchange → ℕ → BootStatus
boot_left update zero = Testing
boot_left update (suc zero) = Testing
boot_left update (suc (suc zero)) = BootNew
boot_left update (suc (suc (suc q))) = Success
boot_left fallback zero = Success
boot_left fallback (suc q) = Testing

abbrev update_left : Exchange → ℕ → UpdateStatus
update_left update zero = UpdateNew
update_left update (suc q) = Updating
update_left fallback q = UpdateNew

-- ---- a half byte that reads as v is v's value

read_back : (h : ℕ) (v : Flag) → flag_of h ≡ Some v → h ≡ flag_value v
unfolding flag_of
read_back h v e = by (eqb h 15) refl
  where
    value : (w : Flag) → Some w ≡ Some v → flag_value w ≡ flag_value v
    value w k = let e : w ≡ v = cc in ap flag_value e

    by₀ : (t : Bool) → eqb h 0 ≡ t → eqb h 3 ≡ false → eqb h 7 ≡ false → eqb h 15 ≡ false → h ≡ flag_value v
    by₀ true a b c d = eqb-true h 0 a ∙ value _ (rw (d, c, b, a) at e)
    by₀ false a b c d = absurd (let k = rw (d, c, b, a) at e in let z : ◌≡◌ {A = ℕ} 0 1 = cc in omega arith)

    by₃ : (t : Bool) → eqb h 3 ≡ t → eqb h 7 ≡ false → eqb h 15 ≡ false → h ≡ flag_value v
    by₃ true b c d = eqb-true h 3 b ∙ value _ (rw (d, c, b) at e)
    by₃ false b c d = by₀ (eqb h 0) refl b c d

    by₇ : (t : Bool) → eqb h 7 ≡ t → eqb h 15 ≡ false → h ≡ flag_value v
    by₇ true c d = eqb-true h 7 c ∙ value _ (rw (d, c) at e)
    by₇ false c d = by₃ (eqb h 3) refl c d

    by : (t : Bool) → eqb h 15 ≡ t → h ≡ flag_value v
    by true d = eqb-true h 15 d ∙ value _ (rw d at e)
    by false d = by₇ (eqb h 7) refl d

-- the flag byte by the two flags
byte_by_flags : (u : List ℕ) (v w : Flag) → flag_at three u 0 ≡ Some v → flag_at three u 1 ≡ Some w → get_or u 766 0 ≡ flag_value v + 16 * flag_value w
unfolding flag_at flag_byte half
byte_by_flags u v w e₀ e₁ =
    let h₀ : get_or u 766 0 % 16 ≡ flag_value v = read_back (get_or u 766 0 % 16) v e₀ in
    let h₁ : get_or u 766 0 / 16 ≡ flag_value w = read_back (get_or u 766 0 / 16) w e₁ in
    omega arith

-- ---- the statuses by the operations left

record Statuses (x : Exchange) (b : BootStatus) (u : UpdateStatus) (q : ℕ) : Type 0 where
  boot : b ≡ boot_left x q
  update : u ≡ update_left x q

left_begun : (x : Exchange) (b : BootStatus) (u : UpdateStatus) (B : Underway x b u) (q : ℕ)
    → ((b : BootStatus) (u : UpdateStatus) (c : Closing x b u) → closing_left c ≤ closing_left (closing B)) → closing_left (closing B) < q → Statuses x b u q
left_begun x b u from_new q top h = absurd (omega (arith, top Success Updating erase_boot))
left_begun x b u from_success zero top h = absurd (omega arith)
left_begun x b u from_success (suc zero) top h = absurd (omega arith)
left_begun x b u from_success (suc (suc zero)) top h = absurd (omega arith)
left_begun x b u from_success (suc (suc (suc q))) top h = record { boot = refl; update = refl }
left_begun x b u from_testing zero top h = absurd (omega arith)
left_begun x b u from_testing (suc q) top h = record { boot = refl; update = refl }

left_closing : (x : Exchange) (b : BootStatus) (u : UpdateStatus) (c : Closing x b u) → Statuses x b u (closing_left c)
left_closing x b u erase_boot = record { boot = refl; update = refl }
left_closing x b u write_testing = record { boot = refl; update = refl }
left_closing x b u erase_update = record { boot = refl; update = refl }
left_closing x b u write_success = record { boot = refl; update = refl }

left_closed : (x : Exchange) (b : BootStatus) (u : UpdateStatus) (c : Closed x b u) → Statuses x b u 0
left_closed x b u on_test = record { boot = refl; update = refl }
left_closed x b u fallen_back_lem = record { boot = refl; update = refl }

-- ---- what a case says agrees with the numbers

abbrev ByteAgrees : Option ℕ → ℕ → ℕ → Type 0
ByteAgrees None l q = Unit {0}
ByteAgrees (Some b) l q = (0 < q) × (byte_left l q ≡ b)

record Predicted (x : Exchange) (l r : ℕ) (bs : List ℕ) (y : Leaves) : Type 0 where
  goes : going l r bs ≡ true
  counted : counts_after l r bs ≡ y.counted
  outcome : last_after x l r bs cut ≡ y.outcome
  byte : ByteAgrees y.flag_byte l (left_after l r bs)
  boot : boot_left x (left_after l r bs) ≡ y.boot_status
  update : update_left x (left_after l r bs) ≡ y.update_status

module _ (check : Check) (old : Flash) (G : Limits three) {x : Exchange} {b₀ : BootStatus} {u₀ : UpdateStatus} (B : Underway x b₀ u₀)
    (I : OldRuns check three old)
    (top : (b : BootStatus) (u : UpdateStatus) (c : Closing x b u) → closing_left c ≤ closing_left (closing B)) where
  -- the phase is known by the operations left
  phase_of : (f : Flash) (p q : ℕ) → Stage (Decides check three B) three old B f p q → p ≡ phase_left (closing_left (closing B)) q
  phase_of f p q (in_leg_lem i leg hi hp s d e₁ e₂ ready n) =
      rw (lt-leb q (closing_left (closing B)) (omega (arith, two, leg_below leg))) (omega (arith, two, leg_below leg))
  phase_of f p q (at_last b u c le s e₁ e₂ n z) = rw (le-leb q (closing_left (closing B)) (omega (arith, top b u c))) z
  phase_of f p q (at_end b u c y s e₁ e₂ n z) = rw (le-leb q (closing_left (closing B)) (omega arith)) z

  record Ran (f : Flash) (r : ℕ) (bs : List ℕ) (o : Outcome) : Type 0 where
    stage : Stage (Decides check three B) three old B (after check f bs) 0 (left_after (closing_left (closing B)) r bs)
    counted : counts check f bs ≡ counts_after (closing_left (closing B)) r bs
    ends : last_outcome check f bs o ≡ last_after x (closing_left (closing B)) r bs o

  record One (f : Flash) (r b : ℕ) (a : PowerUp) : Type 0 where
    stage : Stage (Decides check three B) three old B a.flash 0 (next_left (closing_left (closing B)) r b)
    counted : a.count ≡ min b r
    ends : a.outcome ≡ cond (ltb b r) cut (done_outcome (job_of x))

  one_run : (f : Flash) (r b : ℕ) (w : Run) → Walked (Decides check three B) three old B (suc r) b w → One f (suc r) b (worked check three (job_of x) no_reason w)
  one_run f r b w v = record {
    stage =
        let y : Stage (Decides check three B) three old B w.flash w.phase (suc r - min b (suc r)) = subst (λ (n : ℕ). Stage (Decides check three B) three old B w.flash w.phase (suc r - n)) v.counted v.stage in
        subst (λ (p : ℕ). Stage (Decides check three B) three old B w.flash 0 (suc r - min b (suc r) + p)) (phase_of w.flash w.phase (suc r - min b (suc r)) y)
        (restart three G old B w.flash w.phase (suc r - min b (suc r)) y);
    counted = v.counted;
    ends = by (suc r - w.count) refl v.stage;
  }
    where
      goal : Type 0
      goal = (worked check three (job_of x) no_reason w).outcome ≡ cond (ltb b (suc r)) cut (done_outcome (job_of x))

      by : (q : ℕ) → suc r - w.count ≡ q → Stage (Decides check three B) three old B w.flash w.phase q → goal
      by zero e y =
          rw (le-ltb b (suc r) (omega (arith, v.counted)))
          (ap₂ (λ (o : Option Operation) (z : Answer ℕ). outcome_by o (job_of x) z) (ended three G old B w.flash w.phase y)
          (end_good check three G old B I w.flash w.phase y).good)
      by (suc q) e y = cuts (step three G old B w.flash w.phase q y)
        where
          cuts : Stepped (Decides check three B) three old B w.flash w.phase q → goal
          cuts (stepped o n s' torn) = rw (lt-ltb b (suc r) (omega (arith, v.counted))) (ap (λ (z : Option Operation). outcome_by z (job_of x) (check three w.flash.boot)) n)

  one : (f : Flash) (r b : ℕ) → Stage (Decides check three B) three old B f 0 (suc r) → One f (suc r) b (power_up check three f b)
  one f r b s =
      subst (λ (a : PowerUp). One f (suc r) b a) (sym (works check three G old B I f r s b))
      (one_run f r b (run (job_of x) three b 0 f) (walked three G old B b f 0 (suc r) s))

  ran : (bs : List ℕ) (f : Flash) (r : ℕ) (o : Outcome) → Stage (Decides check three B) three old B f 0 r → going (closing_left (closing B)) r bs ≡ true → Ran f r bs o
  unfolding counts last_outcome
  ran [] f r o s h = record { stage = s; counted = refl; ends = refl }
  ran (b ∷ bs) f zero o s h = absurd (let z : ◌≡◌ {A = ℕ} 0 1 = cc in omega arith)
  ran (b ∷ bs) f (suc r) o s h =
      on (one f r b s) (λ y. ran bs (power_up check three f b).flash (next_left (closing_left (closing B)) (suc r) b) (power_up check three f b).outcome y
      (second_of (ltb 0 (suc r)) (going (closing_left (closing B)) (next_left (closing_left (closing B)) (suc r) b) bs) h))
    where
      on : One f (suc r) b (power_up check three f b)
          → (Stage (Decides check three B) three old B (power_up check three f b).flash 0 (next_left (closing_left (closing B)) (suc r) b)
          → Ran (power_up check three f b).flash (next_left (closing_left (closing B)) (suc r) b) bs (power_up check three f b).outcome)
          → Ran f (suc r) (b ∷ bs) o
      on p rest = record {
        stage = (rest p.stage).stage;
        counted = ap₂ (λ (n : ℕ) (ns : List ℕ). n ∷ ns) p.counted (rest p.stage).counted;
        ends = (rest p.stage).ends
            ∙ ap (λ (y : Outcome). last_after x (closing_left (closing B)) (next_left (closing_left (closing B)) (suc r) b) bs y) p.ends;
      }

  byte_of : (f : Flash) (q : ℕ) → Stage (Decides check three B) three old B f 0 (suc q) → flag_byte_of f ≡ byte_left (closing_left (closing B)) (suc q)
  byte_of f q (in_leg_lem i leg hi hp s d e₁ e₂ ready n) =
      let e : (18 + closing_left (closing B) - suc q) / 3 ≡ 3 * i + leg_moves leg = omega (arith, two, leg_below leg) in
      let z : 3 * i + leg_moves leg - 3 * 0 ≡ 3 * i + leg_moves leg = omega arith in
      rw (lt-leb (suc q) (closing_left (closing B)) (omega (arith, two, leg_below leg)), e)
      (byte_by_flags f.update (moved (3 * i + leg_moves leg)) (moved (3 * i + leg_moves leg - 3))
      (s.moves 0 (omega (arith, two)) ∙ ap (λ (a : ℕ). Some (moved a)) z) (s.moves 1 (omega (arith, two))))
  byte_of f q (at_last b u c le s e₁ e₂ n z) =
      rw (le-leb (suc q) (closing_left (closing B)) (omega (arith, top b u c)))
      (byte_by_flags f.update (moved 3) (moved 3) (s.flags0 0 (omega (arith, two))) (s.flags0 1 (omega (arith, two))))
  byte_of f q (at_end b u c y s e₁ e₂ n z) = absurd (omega arith)

  record StatusesAt (f : Flash) (q : ℕ) : Type 0 where
    boot : boot_status_at three f.boot ≡ gives (boot_left x q)
    update : update_status_at three f.update ≡ gives (update_left x q)

  statuses_at : (f : Flash) (q : ℕ) (b : BootStatus) (u : UpdateStatus) → boot_status_at three f.boot ≡ gives b → update_status_at three f.update ≡ gives u
      → Statuses x b u q → StatusesAt f q
  statuses_at f q b u e₁ e₂ k = record { boot = e₁ ∙ ap gives k.boot; update = e₂ ∙ ap gives k.update }

  status_of : (f : Flash) (q : ℕ) → Stage (Decides check three B) three old B f 0 q → StatusesAt f q
  status_of f q (in_leg_lem i leg hi hp s d e₁ e₂ ready n) = statuses_at f q b₀ u₀ e₁ e₂ (left_begun x b₀ u₀ B q top (omega (arith, two, leg_below leg)))
  status_of f q (at_last b u c le s e₁ e₂ n z) = statuses_at f q b u e₁ e₂ (subst (Statuses x b u) (sym n) (left_closing x b u c))
  status_of f q (at_end b u c y s e₁ e₂ n z) = statuses_at f q b u e₁ e₂ (subst (Statuses x b u) (sym n) (left_closed x b u c))

  byte_is : (b : Option ℕ) (f : Flash) (q : ℕ) → ByteAgrees b (closing_left (closing B)) q → Stage (Decides check three B) three old B f 0 q → FlagByteIs b f
  byte_is None f q h s = tt
  byte_is (Some b) f zero h s = absurd (omega (arith, h.0))
  byte_is (Some b) f (suc q) h s = byte_of f q s ∙ h.1

  -- a case, by what the numbers predict
  predicted : (bs : List ℕ) (y : Leaves) → Stage (Decides check three B) three old B old 0 (18 + closing_left (closing B))
      → Predicted x (closing_left (closing B)) (18 + closing_left (closing B)) bs y → LeavesAs check old bs y
  predicted bs y s a =
      let r : Ran old (18 + closing_left (closing B)) bs cut = ran bs old (18 + closing_left (closing B)) cut s a.goes in
      let q : ℕ = left_after (closing_left (closing B)) (18 + closing_left (closing B)) bs in
      let t : StatusesAt (after check old bs) q = status_of (after check old bs) q r.stage in
      record {
        counted = r.counted ∙ a.counted;
        outcome = r.ends ∙ a.outcome;
        flag_byte = byte_is y.flag_byte (after check old bs) q a.byte r.stage;
        boot_status = t.boot ∙ ap gives a.boot;
        update_status = t.update ∙ ap gives a.update;
      }

-- ---- the start

top_update : (b : BootStatus) (u : UpdateStatus) (c : Closing update b u) → closing_left c ≤ 3
top_update b u c = (closing_some c).1

top_fallback : (b : BootStatus) (u : UpdateStatus) (c : Closing fallback b u) → closing_left c ≤ 1
top_fallback b u write_success = omega arith

from_start : (check : Check) (x : Exchange) (f : Flash) → ReadsFirmware check three → {b : BootStatus} {u : UpdateStatus} (B : Underway x b u) → fits three f ≡ true
    → boot_status_at three f.boot ≡ gives b → update_status_at three f.update ≡ gives u → flags_at three f.update ≡ AllF
    → Images x (check three f.update) (check three f.boot) → ((b : BootStatus) (u : UpdateStatus) (c : Closing x b u) → closing_left c ≤ closing_left (closing B))
    → (bs : List ℕ) (y : Leaves) → Predicted x (closing_left (closing B)) (18 + closing_left (closing B)) bs y → LeavesAs check f bs y
from_start check x f R {b} {u} B fit e₁ e₂ e₃ I top bs y a =
    let v = begins check three f f 0 B fit e₁ e₂ (stands_first three f e₃)
    (λ k. decide_by_reads check three f b u AllF fit e₁ e₂ k ∙ begun B (check three f.update) (check three f.boot) I) in
    let s : Shaped three f = shaped_of three f fit in
    let z : v.left ≡ 18 + closing_left (closing B) = omega (arith, two, v.counted) in
    predicted check f s.limits B (old_runs check three f R s.update (update_good_lem x (check three f.update) (check three f.boot) I)) top bs y
    (subst (λ (n : ℕ). Stage (Decides check three B) three f B f 0 n) z v.stage) a

update_case : (check : Check) → ReadsFirmware check three → (bs : List ℕ) (y : Leaves) → Predicted update 3 21 bs y → ExchangeCaseHolds check (power_ups update bs y)
update_case check R bs y a f r =
    from_start check update f R from_success r.fit r.boot_is r.update_is r.flags_f
    (record { new = r.new_version; old = r.old_version; update_good = r.update_good; boot_good = r.boot_good; newer = r.newer }) top_update bs y a

fallback_case : (check : Check) → ReadsFirmware check three → (bs : List ℕ) (y : Leaves) → Predicted fallback 1 19 bs y → ExchangeCaseHolds check (power_ups fallback bs y)
fallback_case check R bs y a f r =
    from_start check fallback f R from_testing r.fit r.boot_is r.update_is r.flags_f (record { version = r.version; good = r.update_good }) top_fallback bs y a

-- ---- a flag byte

abbrev shown_by : ℕ → Flags
shown_by b = flags_shown (flag_of (b % 16) ∷ flag_of (b / 16) ∷ [])

flags_by_byte : (u : List ℕ) (b : ℕ) → get_or u 766 0 ≡ b → flags_at three u ≡ shown_by b
unfolding flags_at flags flags_from flag_at flag_byte half firmware
flags_by_byte u b e = rw e refl

-- an outcome's number; 0 stands for none
abbrev outcome_number : Outcome → ℕ
outcome_number (refusal r) = number_of r
outcome_number cut = 0
outcome_number runs = 0
outcome_number runs_on_test = 0
outcome_number runs_fallen_back = 0

not_11 : (o : Option Operation) (v : Answer ℕ) (r : Refusal) → number_of r ≡ 11 → outcome_by o Update v ≡ refusal r → ⊥
not_11 None (gives v) r n e = omega (arith, ap outcome_number e ∙ n)
not_11 None (refused m q) r n e = omega (arith, ap outcome_number e ∙ n)
not_11 (Some o) v r n e = omega (arith, ap outcome_number e ∙ n)

-- an exchange that has begun
abbrev Resumes : Flags → Type 0
Resumes Malformed = ⊥
Resumes AllF = ⊥
Resumes (At i leg) = Unit {0}
Resumes All0 = Unit {0}

resumes_update : (v : Flags) (u b : Answer ℕ) → Resumes v → decide_by Success Updating v u b ≡ work Update no_reason
resumes_update Malformed u b h = absurd h
resumes_update AllF u b h = absurd h
resumes_update (At i leg) u b h = refl
resumes_update All0 u b h = refl

-- ---- the law of a case

abbrev Agrees : ExchangeCase → Type 0
Agrees (power_ups update bs y) = Predicted update 3 21 bs y
Agrees (power_ups fallback bs y) = Predicted fallback 1 19 bs y
Agrees (malformed b true) = shown_by b ≡ Malformed
Agrees (malformed b false) = Resumes (shown_by b)

law : (check : Check) → ReadsFirmware check three → (c : ExchangeCase) → Agrees c → ExchangeCaseHolds check c
unfolding power_up decide
law check R (power_ups update bs y) a = update_case check R bs y a
law check R (power_ups fallback bs y) a = fallback_case check R bs y a
law check R (malformed b true) a = λ f budget fit e₁ e₂ e. rw (fit, e₁, e₂, flags_by_byte f.update b e ∙ a) refl
law check R (malformed b false) a = λ f budget fit e₁ e₂ e r n k.
    not_11 (next_operation Update three (run Update three budget 0 f).phase (run Update three budget 0 f).flash) (check three (run Update three budget 0 f).flash.boot) r n
    (rw (fit, e₁, e₂, flags_by_byte f.update b e, resumes_update (shown_by b) (check three f.update) (check three f.boot) a) at k)

-- the numbers are computed
computed : (x : Exchange) (l r : ℕ) (bs : List ℕ) (y : Leaves) → going l r bs ≡ true → counts_after l r bs ≡ y.counted → last_after x l r bs cut ≡ y.outcome
    → ByteAgrees y.flag_byte l (left_after l r bs) → boot_left x (left_after l r bs) ≡ y.boot_status → update_left x (left_after l r bs) ≡ y.update_status → Predicted x l r bs y
computed x l r bs y a b c d e f = record { goes = a; counted = b; outcome = c; byte = d; boot = e; update = f }

agreed : Every Agrees exchange_cases
unfolding flag_of flags_shown past_zeros all_f
agreed =
    (computed _ _ _ _ _ refl refl refl (omega arith, refl) refl refl, (computed _ _ _ _ _ refl refl refl (omega arith, refl) refl refl, (computed _ _ _ _ _ refl refl refl (omega arith, refl) refl refl, (computed _ _ _ _ _ refl refl refl (omega arith, refl) refl refl, (computed _ _ _ _ _ refl refl refl (omega arith, refl) refl refl, (computed _ _ _ _ _ refl refl refl (omega arith, refl) refl refl, (computed _ _ _ _ _ refl refl refl tt refl refl, (computed _ _ _ _ _ refl refl refl tt refl refl, (computed _ _ _ _ _ refl refl refl tt refl refl, (computed _ _ _ _ _ refl refl refl tt refl refl, (computed _ _ _ _ _ refl refl refl (omega arith, refl) refl refl, (computed _ _ _ _ _ refl refl refl tt refl refl, (refl, (tt, tt))))))))))))))

pub marked_exchange : MarkedExchange
marked_exchange check R = every Agrees (ExchangeCaseHolds check) (law check R) exchange_cases agreed
