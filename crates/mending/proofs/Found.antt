-- The mark that is found: after which checks, which one, what is then written; and that flag bytes have no say in it.
use mathlib.Core.Path.{◌≡◌, refl, sym, ap, ap₂, ◌∙◌, subst}
use mathlib.Core.Bool.{Bool, true, false, cond}
use mathlib.Core.List.{List, [], ◌∷◌}
use Prim.Native.Nat.{ℕ}
use native.Mathlib.Omega.{arith}
use Rattle.numbers.specs.Answer.{Answer, gives, refused, then}
use Rattle.flash.specs.declared.Geometry.{Geometry}
use Rattle.flash.specs.Sizes.{firmware, partition_size, Limits}
use Rattle.flash.specs.Buffers.{Flash, flash, Shaped, fits}
use Rattle.flash_status.specs.declared.BootStatus.{BootStatus}
use Rattle.flash_status.specs.declared.BootStatus.TheVariants.{New as BootNew, Testing, Success}
use Rattle.flash_status.specs.declared.UpdateStatus.{UpdateStatus}
use Rattle.flash_status.specs.declared.UpdateStatus.TheVariants.{New as UpdateNew, Updating}
use Rattle.flash_status.specs.StatusBytes.{status_place, status_byte, boot_status_at, update_status_of, update_status_at}
use Rattle.flash_flags.specs.SectorFlags.{flags_at}
use Rattle.exchange.specs.Decision.{Check}
use Rattle.exchange.specs.Commands.{checked}
use Rattle.exchange.specs.Demand.{ReadsFirmware, update, Underway, from_new, from_success}
use Rattle.exchange.specs.RuledOut.{Reads, StatusBad, in_boot, in_update}
use Rattle.exchange.specs.CommandsRuledOut.{ArmNumber, outside_rules, status_not_allowed, wrong_time}
use Rattle.flash.proofs.Checked.{shaped_of}
use Rattle.flash_flags.proofs.Laws.{flag_place}
use Rattle.exchange.proofs.CommandsRuledOut.{by_outside, by_boot, by_update, Listed, listed, passed, not_passed}
use Rattle.mending.specs.declared.Mark.{Mark}
use Rattle.mending.specs.Marks.{marks}
use Rattle.mending.specs.OldImages.{fits_mark}
use Rattle.mending.specs.Mending.{first_fitting, may_mend, found, set_flags, changed, Given, given, Mend, with_mark, mending}
use Rattle.mending.specs.Mended.{GivesIfFits, GivesFirst, MayMend, NoneFits, SeventeenIfNone, MendRefusedFirst, RefusesInOrder, MendNumber, as_arm, no_mark_fits, RefusesWith, ButFlags, OnlyFlags, WritesFlags, bytes_differing, CountsBytes, FlagsNotRead, mark_of}
use Rattle.mending.proofs.Order.{given_first, refused_none, none_refused, before_moves, some_given}
use Rattle.mending.proofs.Images.{fits_true, true_fits, false_not, not_false, but_fits}
use Rattle.mending.proofs.Counted.{all_counted_lem}
use Rattle.mending.proofs.Written.{only_flags}

-- ---- a refusal

-- 14 for every status pair but two
other_pair : (b : BootStatus) (u : UpdateStatus) → ¬ Underway update b u → may_mend b u ≡ refused 14 0
other_pair BootNew Updating k = absurd (k from_new)
other_pair Success Updating k = absurd (k from_success)
other_pair Testing Updating k = refl
other_pair BootNew UpdateNew k = refl
other_pair Success UpdateNew k = refl
other_pair Testing UpdateNew k = refl

-- it writes nothing
refused_same : (g : Geometry) (f : Flash) (n p : ℕ) → (with_mark g f (refused n p)).flash ≡ f
refused_same g f n p = refl

module _ (check : Check) (g : Geometry) (f : Flash) where
  -- the checks come before the marks
  refused_by : (n p : ℕ) → checked g f may_mend ≡ refused n p → (mending check g f).answer ≡ refused n p
  unfolding mending found
  refused_by n p e = rw e refl

  status_bad : fits g f ≡ true → StatusBad g f → checked g f may_mend ≡ refused 10 0
  status_bad h (in_boot n p e) = by_boot g f may_mend n p h e
  status_bad h (in_update n p e) = by_update g f may_mend n p h e

  refused_first : MendRefusedFirst check g f
  refused_first = record {
    outside = λ h. refused_by 1 0 (by_outside g f may_mend h);
    status = λ h s. refused_by 10 0 (status_bad h s);
    pair = λ h b u e₁ e₂ k. refused_by 14 0 (rw (h, e₁, e₂) (other_pair b u k));
  }

pub refuses_in_order : RefusesInOrder
refuses_in_order check g f = refused_first check g f

-- ---- what the checks leave

underway_mends : (b : BootStatus) → Underway update b Updating → may_mend b Updating ≡ gives tt
underway_mends b from_new = refl
underway_mends b from_success = refl

mends_underway : (b : BootStatus) (u : UpdateStatus) → may_mend b u ≡ gives tt → Underway update b u
mends_underway BootNew Updating e = from_new
mends_underway Success Updating e = from_success
mends_underway Testing Updating e = absurd (let z : ◌≡◌ {A = ℕ} 0 1 = cc in omega arith)
mends_underway BootNew UpdateNew e = absurd (let z : ◌≡◌ {A = ℕ} 0 1 = cc in omega arith)
mends_underway Success UpdateNew e = absurd (let z : ◌≡◌ {A = ℕ} 0 1 = cc in omega arith)
mends_underway Testing UpdateNew e = absurd (let z : ◌≡◌ {A = ℕ} 0 1 = cc in omega arith)

pair_number : (b : BootStatus) (u : UpdateStatus) (n p : ℕ) → may_mend b u ≡ refused n p → Listed ArmNumber n p
pair_number BootNew Updating n p e = absurd (let z : ◌≡◌ {A = ℕ} 0 1 = cc in omega arith)
pair_number Success Updating n p e = absurd (let z : ◌≡◌ {A = ℕ} 0 1 = cc in omega arith)
pair_number Testing Updating n p e = listed ArmNumber wrong_time (cc) (cc)
pair_number BootNew UpdateNew n p e = listed ArmNumber wrong_time (cc) (cc)
pair_number Success UpdateNew n p e = listed ArmNumber wrong_time (cc) (cc)
pair_number Testing UpdateNew n p e = listed ArmNumber wrong_time (cc) (cc)

module _ (g : Geometry) (f : Flash) where
  may_checked : MayMend g f → checked g f may_mend ≡ gives tt
  may_checked M = rw (M.fit, M.read_boot, M.read_update) (underway_mends M.boot M.statuses)

  checked_may : checked g f may_mend ≡ gives tt → MayMend g f
  checked_may e = let P = passed g f may_mend e in by P.boot P.update (mends_underway P.boot P.update P.granted) P.reads
    where
      by : (b : BootStatus) (u : UpdateStatus) → Underway update b u → Reads g f b u (flags_at g f.update) → MayMend g f
      by b u from_new r = record { fit = r.fit; boot = b; statuses = from_new; read_boot = r.boot; read_update = r.update }
      by b u from_success r = record { fit = r.fit; boot = b; statuses = from_success; read_boot = r.boot; read_update = r.update }

  checked_number : (n p : ℕ) → checked g f may_mend ≡ refused n p → Listed ArmNumber n p
  checked_number n p e = not_passed g f may_mend ArmNumber outside_rules status_not_allowed pair_number n p e

arm_not_17 : {n : ℕ} → ArmNumber n → ¬ (n ≡ 17)
arm_not_17 outside_rules e = omega arith
arm_not_17 status_not_allowed e = omega arith
arm_not_17 wrong_time e = omega arith

-- ---- the mark that is found

module _ (check : Check) (g : Geometry) (f : Flash) where
  data Found : Answer Mark → Type 0 where
    looked : MayMend g f → Found (first_fitting (fits_mark check g f) (marks (firmware g)))
    before : (n p : ℕ) → Listed ArmNumber n p → Found (refused n p)

  finds : Found (found check g f)
  unfolding found
  finds = by (checked g f may_mend) refl
    where
      by : (c : Answer (Unit {0})) → checked g f may_mend ≡ c → Found (then c (λ t. first_fitting (fits_mark check g f) (marks (firmware g))))
      by (gives t) e = looked (checked_may g f e)
      by (refused n p) e = before n p (checked_number g f n p e)

  pub found_by : MayMend g f → found check g f ≡ first_fitting (fits_mark check g f) (marks (firmware g))
  unfolding found
  found_by M = rw (may_checked g f M)

  pub record Looked (r : Answer Mark) : Type 0 where
    pub may : MayMend g f
    pub is : first_fitting (fits_mark check g f) (marks (firmware g)) ≡ r

  pub found_mark : (k : Mark) → found check g f ≡ gives k → Looked (gives k)
  found_mark k e = by finds e
    where
      by : {r : Answer Mark} → Found r → r ≡ gives k → Looked (gives k)
      by (looked M) q = record { may = M; is = q }
      by (before n p h) q = absurd (let z : ◌≡◌ {A = ℕ} 0 1 = cc in omega arith)

  found_17 : found check g f ≡ refused 17 0 → Looked (refused 17 0)
  found_17 e = by finds e
    where
      by : {r : Answer Mark} → Found r → r ≡ refused 17 0 → Looked (refused 17 0)
      by (looked M) q = record { may = M; is = q }
      by (before n p h) q = absurd (arm_not_17 h.number (cc))

  pub mend_found : (k : Mark) (n : ℕ) → (mending check g f).answer ≡ gives (given k n) → found check g f ≡ gives k
  unfolding mending
  mend_found k n e = by (found check g f) e
    where
      by : (r : Answer Mark) → (with_mark g f r).answer ≡ gives (given k n) → r ≡ gives k
      by (gives j) q =
          let s : given j (changed g f.update (set_flags g j f.update)) ≡ given k n = cc in
          ap (λ (x : Given). gives x.mark) s
      by (refused a p) q = absurd (let z : ◌≡◌ {A = ℕ} 0 1 = cc in omega arith)

  mend_17 : (mending check g f).answer ≡ refused 17 0 → found check g f ≡ refused 17 0
  unfolding mending
  mend_17 e = by (found check g f) e
    where
      by : (r : Answer Mark) → (with_mark g f r).answer ≡ refused 17 0 → r ≡ refused 17 0
      by (gives j) q = absurd (let z : ◌≡◌ {A = ℕ} 0 1 = cc in omega arith)
      by (refused a p) q = let s : a ≡ 17 = cc in let t : p ≡ 0 = cc in cc

  pub mend_by : (r : Answer Mark) → found check g f ≡ r → mending check g f ≡ with_mark g f r
  unfolding mending
  mend_by r e = ap (with_mark g f) e

-- ---- which mark

pub gives_first : GivesFirst
gives_first check g f k n e =
    let y = given_first (fits_mark check g f) (firmware g) k (found_mark check g f k (mend_found check g f k n e)).is in (
      (found_mark check g f k (mend_found check g f k n e)).may,
      record {
        among = y.among;
        fit = true_fits check g f k y.fits;
        first = λ j h l. false_not check g f j (y.before j h (omega arith) (before_moves (firmware g) j k h y.among l));
      },
    )

pub gives_if_fits : GivesIfFits
gives_if_fits check g f j M h F =
    let r = some_given (fits_mark check g f) (firmware g) j h (fits_true check g f j F) in (
      given r.mark (changed g f.update (set_flags g r.mark f.update)),
      ap (λ (z : Mend). z.answer) (mend_by check g f (gives r.mark) (found_by check g f M ∙ r.gave)),
    )

pub seventeen_if_none : SeventeenIfNone
seventeen_if_none check g f = (only, if)
  where
    only : (mending check g f).answer ≡ refused 17 0 → MayMend g f × NoneFits check g f
    only e =
        let y = found_17 check g f (mend_17 check g f e) in
        (y.may, λ j h. false_not check g f j (refused_none (fits_mark check g f) (firmware g) 17 0 y.is j h))

    if : MayMend g f × NoneFits check g f → (mending check g f).answer ≡ refused 17 0
    if h =
        ap (λ (r : Mend). r.answer)
        (mend_by check g f (refused 17 0)
        (found_by check g f h.0 ∙ none_refused (fits_mark check g f) (firmware g) (λ j a. not_false check g f j (h.1 j a))))

-- ---- a refusal's number

first_17 : (fit : Mark → Bool) (l : List Mark) (n p : ℕ) → first_fitting fit l ≡ refused n p → Listed MendNumber n p
unfolding first_fitting
first_17 fit [] n p e = listed MendNumber no_mark_fits (cc) (cc)
first_17 fit (k ∷ l) n p e = by (fit k) e (first_17 fit l n p)
  where
    by : (t : Bool) → cond t (gives k) (first_fitting fit l) ≡ refused n p → (first_fitting fit l ≡ refused n p → Listed MendNumber n p) → Listed MendNumber n p
    by true q more = absurd (let z : ◌≡◌ {A = ℕ} 0 1 = cc in omega arith)
    by false q more = more q

found_number : (check : Check) (g : Geometry) (f : Flash) (n p : ℕ) → found check g f ≡ refused n p → Listed MendNumber n p
found_number check g f n p e = by (finds check g f) e
  where
    by : {r : Answer Mark} → Found check g f r → r ≡ refused n p → Listed MendNumber n p
    by (looked M) q = first_17 (fits_mark check g f) (marks (firmware g)) n p q
    by (before a c h) q = let z : c ≡ p = cc in listed MendNumber (as_arm h.number) (cc) (sym z ∙ h.place)

pub refuses_with : RefusesWith
unfolding mending
refuses_with check g f n p e = by (found check g f) refl e
  where
    by : (r : Answer Mark) → found check g f ≡ r → (with_mark g f r).answer ≡ refused n p → MendNumber n × (p ≡ 0) × ((with_mark g f r).flash ≡ f)
    by (gives j) h q = absurd (let z : ◌≡◌ {A = ℕ} 0 1 = cc in omega arith)
    by (refused a c) h q =
        let z : a ≡ n = cc in
        let y : c ≡ p = cc in
        let l : Listed MendNumber n p = found_number check g f n p (h ∙ rw (z, y) refl) in
        (l.number, l.place, refused_same g f a c)

-- ---- what is touched

-- the flash with the flags of a mark
abbrev pub with_flags : Geometry → Mark → Flash → Flash
with_flags g k f = flash f.boot (set_flags g k f.update) f.swap

pub flash_left_lem : (check : Check) (g : Geometry) (f : Flash) (k : Mark) → found check g f ≡ gives k → (mending check g f).flash ≡ with_flags g k f
flash_left_lem check g f k e = ap (λ (r : Mend). r.flash) (mend_by check g f (gives k) e)

pub may_shaped : {g : Geometry} {f : Flash} → MayMend g f → Shaped g f
may_shaped {g} {f} M = shaped_of g f M.fit

pub writes : (g : Geometry) (f : Flash) (k : Mark) → MayMend g f → OnlyFlags g f (with_flags g k f) k
writes g f k M = let S : Shaped g f = may_shaped M in only_flags g S.limits k f S.update

pub writes_flags : WritesFlags
writes_flags check g f k n e =
    let q : found check g f ≡ gives k = mend_found check g f k n e in
    subst (λ (y : Flash). OnlyFlags g f y k) (sym (flash_left_lem check g f k q)) (writes g f k (found_mark check g f k q).may)

same_given : (y z : Given) → gives y ≡ gives z → y ≡ z
same_given y z e = cc

pub counts_bytes : CountsBytes
counts_bytes check g f k n e =
    let q : found check g f ≡ gives k = mend_found check g f k n e in
    let M : MayMend g f = (found_mark check g f k q).may in
    let c : given k n ≡ given k (changed g f.update (set_flags g k f.update))
    = same_given _ _ (sym e ∙ ap (λ (r : Mend). r.answer) (mend_by check g f (gives k) q)) in
    ap (λ (x : Given). x.bytes) c
    ∙ all_counted_lem g (may_shaped M).limits f.update (set_flags g k f.update) (writes g f k M).rest.elsewhere
    ∙ ap (λ (y : Flash). bytes_differing f.update y.update (partition_size g)) (sym (flash_left_lem check g f k q))

-- ---- flag bytes are not looked at

module _ (g : Geometry) (f f' : Flash) (E : ButFlags g f f') where
  but_fit : fits g f' ≡ fits g f
  unfolding fits
  but_fit = rw (E.boot, E.same_length, E.swap)

  pub but_status : Limits g → update_status_at g f'.update ≡ update_status_at g f.update
  unfolding status_byte
  but_status G = ap update_status_of (E.elsewhere (status_place g) (λ i h q. absurd (omega (arith, (flag_place g G i h).1))))

  but_checked : Limits g → checked g f' may_mend ≡ checked g f may_mend
  but_checked G = rw (but_fit, but_status G, E.boot)

  pub but_may : MayMend g f → MayMend g f'
  but_may M = record {
    fit = but_fit ∙ M.fit;
    boot = M.boot;
    statuses = M.statuses;
    read_boot = ap (boot_status_at g) E.boot ∙ M.read_boot;
    read_update = but_status (may_shaped M).limits ∙ M.read_update;
  }

pub same_found : (check : Check) (g : Geometry) (f f' : Flash) → ReadsFirmware check g → ButFlags g f f' → found check g f' ≡ found check g f
unfolding found
same_found check g f f' R E = by (fits g f) refl
  where
    by : (t : Bool) → fits g f ≡ t → found check g f' ≡ found check g f
    by true e =
        let S : Shaped g f = shaped_of g f e in
        let q : fits_mark check g f' ≡ fits_mark check g f = λ i k. but_fits g f f' S E check R k i in
        ap₂ (λ (c : Answer (Unit {0})) (p : Mark → Bool). then c (λ t. first_fitting p (marks (firmware g)))) (but_checked g f f' E S.limits) q
    by false e = rw (but_fit g f f' E, e)

mark_found : (check : Check) (g : Geometry) (f : Flash) → mark_of (mending check g f).answer ≡ found check g f
unfolding mending
mark_found check g f = by (found check g f)
  where
    by : (r : Answer Mark) → mark_of (with_mark g f r).answer ≡ r
    by (gives k) = refl
    by (refused n p) = refl

pub flags_not_read : FlagsNotRead
flags_not_read check g f f' R E = mark_found check g f' ∙ same_found check g f f' R E ∙ sym (mark_found check g f)
