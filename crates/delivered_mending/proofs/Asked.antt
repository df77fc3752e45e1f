-- What one call of `mend` gives. Assumes nothing.
use mathlib.Core.Path.{◌≡◌, refl, sym, ap, ◌∙◌, subst}
use mathlib.Core.Bool.{Bool, true, false, cond}
use mathlib.Core.List.{List, [], ◌∷◌}
use Prim.Native.Nat.{ℕ}
use native.Mathlib.Omega.{arith}
use lib.Dec.{eqb}
use Rattle.std.specs.Prelude.{Ok, Err}
use Rattle.numbers.specs.Answer.{Answer, gives, refused}
use Rattle.numbers.specs.GivenBack.{mend_number}
use Rattle.numbers.specs.declared.MendRefusal.{MendRefusal}
use Rattle.numbers.specs.declared.MendRefusal.TheVariants.{OutsideRules, StatusNotAllowed, WrongTime, NoMarkFits}
use Rattle.flash.specs.declared.Geometry.{Geometry}
use Rattle.flash.specs.Sizes.{geometry, firmware}
use Rattle.flash.specs.Buffers.{Flash, fits}
use Rattle.flash_status.specs.declared.BootStatus.{BootStatus}
use Rattle.flash_status.specs.declared.BootStatus.TheVariants.{New as BootNew, Testing, Success}
use Rattle.flash_status.specs.declared.UpdateStatus.{UpdateStatus}
use Rattle.flash_status.specs.declared.UpdateStatus.TheVariants.{New as UpdateNew, Updating}
use Rattle.flash_status.specs.StatusBytes.{boot_status_at, update_status_at}
use Rattle.exchange.specs.Decision.{Check}
use Rattle.exchange.specs.Demand.{update, Underway, from_new, from_success}
use Rattle.exchange.specs.RuledOut.{StatusBad, in_boot, in_update}
use Rattle.image.specs.Verdict.{check_of}
use Rattle.mending.specs.declared.Mark.{Mark}
use Rattle.mending.specs.Marks.{marks}
use Rattle.mending.specs.OldImages.{fits_mark}
use Rattle.mending.specs.Mending.{first_fitting, may_mend, found, Given, given, Mend, with_mark, mending}
use Rattle.exchange.specs.CommandsRuledOut.{outside_rules, status_not_allowed, wrong_time}
use Rattle.mending.specs.Mended.{MayMend, MendRefusedFirst, MendNumber, as_arm, no_mark_fits}
use Rattle.mending.proofs.Found.{found_by, mend_by, gives_first, gives_if_fits, seventeen_if_none, refuses_in_order, refuses_with, writes_flags, counts_bytes}
use Rattle.mend.specs.Delivered.{MendAnswer, mended_with, mend_of, mended, MendDelivers}
use Rattle.mend.proofs.Calls.{mend_new}
use Rattle.delivered_mending.specs.Asked.{left_by, OtherPair, MarkWritten, EveryCallAsAsked}
use Rattle.delivered_mending.specs.Called.{EveryMendCalled}

-- ---- an answer of the code for each answer of the rules

abbrev refusal_numbered : ℕ → MendRefusal
refusal_numbered n = cond (eqb n 1) OutsideRules (cond (eqb n 10) StatusNotAllowed (cond (eqb n 14) WrongTime NoMarkFits))

abbrev coded : Answer Given → MendAnswer
coded (gives r) = mended_with r.mark r.bytes
coded (refused n p) = Err (refusal_numbered n)

-- so an answer of the code is told by the rules' answer
code_of : (a : MendAnswer) → coded (mend_of a) ≡ a
code_of (Ok m) = refl
code_of (Err OutsideRules) = refl
code_of (Err StatusNotAllowed) = refl
code_of (Err WrongTime) = refl
code_of (Err NoMarkFits) = refl

number_coded : {n : ℕ} (p : ℕ) → MendNumber n → p ≡ 0 → mend_of (coded (refused n p)) ≡ refused n p
number_coded p (as_arm outside_rules) e = ap (refused 1) (sym e)
number_coded p (as_arm status_not_allowed) e = ap (refused 10) (sym e)
number_coded p (as_arm wrong_time) e = ap (refused 14) (sym e)
number_coded p no_mark_fits e = ap (refused 17) (sym e)

-- ---- one call

module _ (n s : ℕ) (f : Flash) (answer : MendAnswer) (u : List ℕ) (d : MendDelivers n s f answer u) where
  abbrev g : Geometry
  g = geometry n s

  pub answer_is : mend_of answer ≡ (mending check_of g f).answer
  answer_is = ap (λ (r : Mend). r.answer) d

  pub flash_is : left_by f u ≡ (mending check_of g f).flash
  flash_is = ap (λ (r : Mend). r.flash) d

  -- an answer of the code and the rules' answer to which it belongs
  pub ruled_answer : (a : MendAnswer) → answer ≡ a → (mending check_of g f).answer ≡ mend_of a
  ruled_answer a e = sym answer_is ∙ ap mend_of e

  pub coded_answer : (a : MendAnswer) → (mending check_of g f).answer ≡ mend_of a → answer ≡ a
  coded_answer a e = sym (code_of answer) ∙ ap coded (answer_is ∙ e) ∙ code_of a

-- ---- where each refusal comes

-- lengths, statuses and the pair of them decide, before any mark
data Before (g : Geometry) (f : Flash) : Type 0 where
  outside : fits g f ≡ false → Before g f
  bad_status : fits g f ≡ true → StatusBad g f → Before g f
  other_pair : OtherPair g f → Before g f
  leave : MayMend g f → Before g f

-- 02's pairs are those that may mend
may_pair : {b : BootStatus} {v : UpdateStatus} → Underway update b v → may_mend b v ≡ gives tt
may_pair from_new = refl
may_pair from_success = refl

module _ (g : Geometry) (f : Flash) (h : fits g f ≡ true) where
  another : (b : BootStatus) (v : UpdateStatus) → may_mend b v ≡ refused 14 0 → boot_status_at g f.boot ≡ gives b → update_status_at g f.update ≡ gives v → Before g f
  another b v r e₁ e₂ =
      other_pair (record {
        fit = h;
        boot_is = b;
        update_is = v;
        read_boot = e₁;
        read_update = e₂;
        other = λ w. let q = may_pair w in let z : ◌≡◌ {A = ℕ} 0 1 = cc in omega arith;
      })

  by_pair : (b : BootStatus) (v : UpdateStatus) → boot_status_at g f.boot ≡ gives b → update_status_at g f.update ≡ gives v → Before g f
  by_pair BootNew Updating e₁ e₂ = leave (record { fit = h; boot = BootNew; statuses = from_new; read_boot = e₁; read_update = e₂ })
  by_pair Success Updating e₁ e₂ = leave (record { fit = h; boot = Success; statuses = from_success; read_boot = e₁; read_update = e₂ })
  by_pair Testing Updating e₁ e₂ = another Testing Updating refl e₁ e₂
  by_pair b UpdateNew e₁ e₂ = another b UpdateNew (mend_new b) e₁ e₂

  by_statuses : (b : Answer BootStatus) (v : Answer UpdateStatus) → boot_status_at g f.boot ≡ b → update_status_at g f.update ≡ v → Before g f
  by_statuses (refused n p) v e₁ e₂ = bad_status h (in_boot n p e₁)
  by_statuses (gives b) (refused n p) e₁ e₂ = bad_status h (in_update n p e₂)
  by_statuses (gives b) (gives v) e₁ e₂ = by_pair b v e₁ e₂

before : (g : Geometry) (f : Flash) → Before g f
before g f = by (fits g f) refl
  where
    by : (t : Bool) → fits g f ≡ t → Before g f
    by true h = by_statuses g f h (boot_status_at g f.boot) (update_status_at g f.update) refl refl
    by false h = outside h

-- after leave, a refusal is 17
first_17 : (fit : Mark → Bool) (l : List Mark) (n p : ℕ) → first_fitting fit l ≡ refused n p → n ≡ 17
unfolding first_fitting
first_17 fit [] n p e = cc
first_17 fit (k ∷ l) n p e = by (fit k) e (first_17 fit l n p)
  where
    by : (t : Bool) → cond t (gives k) (first_fitting fit l) ≡ refused n p → (first_fitting fit l ≡ refused n p → n ≡ 17) → n ≡ 17
    by true q more = absurd (let z : ◌≡◌ {A = ℕ} 0 1 = cc in omega arith)
    by false q more = more q

module _ (check : Check) (g : Geometry) (f : Flash) where
  leave_17 : MayMend g f → (n p : ℕ) → (mending check g f).answer ≡ refused n p → n ≡ 17
  leave_17 M n p e = by (first_fitting (fits_mark check g f) (marks (firmware g))) refl
    where
      by : (r : Answer Mark) → first_fitting (fits_mark check g f) (marks (firmware g)) ≡ r → n ≡ 17
      by (gives k) q =
          let w = ap (λ (z : Mend). z.answer) (mend_by check g f (gives k) (found_by check g f M ∙ q)) in
          absurd (let z : ◌≡◌ {A = ℕ} 0 1 = cc in omega arith)
      by (refused a c) q =
          let w = ap (λ (z : Mend). z.answer) (mend_by check g f (refused a c) (found_by check g f M ∙ q)) in
          let i : a ≡ n = cc in
          sym i ∙ first_17 (fits_mark check g f) (marks (firmware g)) a c q

  R : MendRefusedFirst check g f
  R = refuses_in_order check g f

  -- the number of the answer, by what decides
  same_number : (n n' : ℕ) → (mending check g f).answer ≡ refused n 0 → (mending check g f).answer ≡ refused n' 0 → n ≡ n'
  same_number n n' e e' = cc

  pair_14 : OtherPair g f → (mending check g f).answer ≡ refused 14 0
  pair_14 o = R.pair o.fit o.boot_is o.update_is o.read_boot o.read_update o.other

  only_1 : (mending check g f).answer ≡ refused 1 0 → fits g f ≡ false
  only_1 e = by (before g f)
    where
      by : Before g f → fits g f ≡ false
      by (outside h) = h
      by (bad_status h b) = absurd (omega (arith, same_number 1 10 e (R.status h b)))
      by (other_pair o) = absurd (omega (arith, same_number 1 14 e (pair_14 o)))
      by (leave M) = absurd (omega (arith, leave_17 M 1 0 e))

  only_10 : (mending check g f).answer ≡ refused 10 0 → (fits g f ≡ true) × StatusBad g f
  only_10 e = by (before g f)
    where
      by : Before g f → (fits g f ≡ true) × StatusBad g f
      by (outside h) = absurd (omega (arith, same_number 10 1 e (R.outside h)))
      by (bad_status h b) = (h, b)
      by (other_pair o) = absurd (omega (arith, same_number 10 14 e (pair_14 o)))
      by (leave M) = absurd (omega (arith, leave_17 M 10 0 e))

  only_14 : (mending check g f).answer ≡ refused 14 0 → OtherPair g f
  only_14 e = by (before g f)
    where
      by : Before g f → OtherPair g f
      by (outside h) = absurd (omega (arith, same_number 14 1 e (R.outside h)))
      by (bad_status h b) = absurd (omega (arith, same_number 14 10 e (R.status h b)))
      by (other_pair o) = o
      by (leave M) = absurd (omega (arith, leave_17 M 14 0 e))

-- ---- all of it

pub as_asked : EveryCallAsAsked
as_asked n s f answer u d = record {
  written = written;
  where_one_fits = λ M j a F.
      let r = gives_if_fits check_of (geometry n s) f j M a F in (r.0.mark, r.0.bytes, told (mended_with r.0.mark r.0.bytes) r.1);
  one = (λ e. only_1 check_of (geometry n s) f (says (Err OutsideRules) e), λ h. told (Err OutsideRules) ((R check_of (geometry n s) f).outside h));
  ten = (
    λ e. only_10 check_of (geometry n s) f (says (Err StatusNotAllowed) e),
    λ h. told (Err StatusNotAllowed) ((R check_of (geometry n s) f).status h.0 h.1),
  );
  fourteen = (λ e. only_14 check_of (geometry n s) f (says (Err WrongTime) e), λ o. told (Err WrongTime) (pair_14 check_of (geometry n s) f o));
  seventeen = (
    λ e. (seventeen_if_none check_of (geometry n s) f).0 (says (Err NoMarkFits) e),
    λ h. told (Err NoMarkFits) ((seventeen_if_none check_of (geometry n s) f).1 h),
  );
  unchanged = λ r e.
      ap (λ (y : Flash). y.update) (flash_is n s f answer u d ∙ (refuses_with check_of (geometry n s) f (mend_number r) 0 (says (Err r) e)).2);
}
  where
    says : (a : MendAnswer) → answer ≡ a → (mending check_of (geometry n s) f).answer ≡ mend_of a
    says a e = ruled_answer n s f answer u d a e

    told : (a : MendAnswer) → (mending check_of (geometry n s) f).answer ≡ mend_of a → answer ≡ a
    told a e = coded_answer n s f answer u d a e

    written : (k : Mark) (bytes : ℕ) → answer ≡ mended_with k bytes → MarkWritten (geometry n s) f k bytes (left_by f u)
    written k bytes e =
        let q : (mending check_of (geometry n s) f).answer ≡ gives (given k bytes) = says (mended_with k bytes) e in
        let y = gives_first check_of (geometry n s) f k bytes q in
        subst (λ (z : Flash). MarkWritten (geometry n s) f k bytes z) (sym (flash_is n s f answer u d))
        (record { may = y.0; first = y.1; flags = writes_flags check_of (geometry n s) f k bytes q; counted = counts_bytes check_of (geometry n s) f k bytes q })

-- ---- a call for every input

-- the rules leave BOOT and SWAP, and give an answer of the code
has_code : (check : Check) (g : Geometry) (f : Flash) → mended (coded (mending check g f).answer) f (mending check g f).flash.update ≡ mending check g f
unfolding mending
has_code check g f = by (found check g f) refl
  where
    by : (r : Answer Mark) → found check g f ≡ r → mended (coded (with_mark g f r).answer) f (with_mark g f r).flash.update ≡ with_mark g f r
    by (gives k) e = refl
    by (refused n p) e =
        ap (λ (a : Answer Given). record { answer = a; flash = f })
        (let w = refuses_with check g f n p (ap (λ (z : Mend). z.answer) (mend_by check g f (refused n p) e)) in number_coded p w.0 w.1)

pub every_mend_called : EveryMendCalled
every_mend_called n s f = record {
  answer = coded (mending check_of (geometry n s) f).answer;
  bytes = (mending check_of (geometry n s) f).flash.update;
  delivers = has_code check_of (geometry n s) f;
  only = λ a u d. (sym (code_of a) ∙ ap coded (answer_is n s f a u d), ap (λ (y : Flash). y.update) (flash_is n s f a u d));
}
