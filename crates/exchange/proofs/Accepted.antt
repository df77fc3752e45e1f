-- What an accepted update and an accepted fallback are, spelled out, and that the checks of power-up give it where all flags are F.
use mathlib.Core.Path.{◌≡◌, refl, sym, ap, ◌∙◌}
use mathlib.Core.Bool.{Bool, true, false, cond}
use mathlib.Core.List.{List}
use Prim.Native.Nat.{ℕ, ◌≤◌, ◌<◌}
use native.Mathlib.Decide.{dec_lt}
use native.Mathlib.Omega.{arith}
use lib.Dec.{ltb}
use lib.ListN.{length}
use borrow.Author.Tests.{lt-ltb, le-ltb}
use Rattle.numbers.specs.Answer.{Answer, gives, refused, because, no_reason, Refusal, inside}
use Rattle.exchange.specs.Base.{Geometry, BootStatus, BootNew, Testing, Success, UpdateStatus, UpdateNew, Updating, Flags, AllF}
use Rattle.exchange.specs.Base.{firmware, partition_size, sector_of, Flash, fits, boot_status_at, update_status_at, flags_at}
use Rattle.exchange.specs.declared.Job.TheVariants.{Update, Fallback, TurnDown}
use Rattle.exchange.specs.Decision.{Check, Plan, refuse, plain, work, accept, accept_fallback, decide_by, decide_statuses, decide, Good}
use Rattle.exchange.specs.Demand.{Exchange, update, fallback, job_of, Underway, from_new, from_success, from_testing, Starts, ReadsFirmware}
use Rattle.exchange.specs.RuledOut.{Newer}
use Rattle.flash.proofs.Bytes.{sectors_front}

-- a check that reads the firmware sectors goes by the sectors
pub check_same : (check : Check) (g : Geometry) → ReadsFirmware check g → (l l' : List ℕ) → length l ≡ partition_size g → length l' ≡ partition_size g
    → ((i : ℕ) → i < firmware g → sector_of g i l ≡ sector_of g i l') → check g l ≡ check g l'
check_same check g R l l' L L' h = R l l' L L' (sectors_front g.size (firmware g) l l' h)

-- the answers of the image check, on UPDATE and on BOOT
abbrev pub Images : Exchange → Answer ℕ → Answer ℕ → Type 0
Images update u b = Newer u b
Images fallback u b = Good u

abbrev pub update_good_lem : (x : Exchange) (u b : Answer ℕ) → Images x u b → Good u
update_good_lem update u b I = record { version = I.new; good = I.update_good }
update_good_lem fallback u b I = I

-- the statuses that are read, and the images
pub record Both (x : Exchange) (bs : Answer BootStatus) (us : Answer UpdateStatus) (u b : Answer ℕ) : Type 0 where
  pub boot : BootStatus
  pub update : UpdateStatus
  pub statuses : Underway x boot update
  pub read_boot : bs ≡ gives boot
  pub read_update : us ≡ gives update
  pub images : Images x u b

pub record Accepted (check : Check) (x : Exchange) (g : Geometry) (f : Flash) : Type 0 where
  pub fit : fits g f ≡ true
  pub both : Both x (boot_status_at g f.boot) (update_status_at g f.update) (check g f.update) (check g f.boot)

-- ---- what decides for an exchange

-- a bad BOOT under a good UPDATE is 12; a bad UPDATE to fall back to is 13
pub boot_is_12 : (v n p : ℕ) → accept (gives v) (refused n p) ≡ refuse (inside 12 n p)
boot_is_12 v n p = refl

pub update_is_13 : (n p : ℕ) → accept_fallback (refused n p) ≡ refuse (inside 13 n p)
update_is_13 n p = refl

refused_no_work : (x : Exchange) {r : Refusal} → refuse r ≡ work (job_of x) no_reason → ⊥
refused_no_work x e = let z : ◌≡◌ {A = ℕ} 0 1 = cc in omega arith

plain_no_work : (x : Exchange) → plain ≡ work (job_of x) no_reason → ⊥
plain_no_work x e = let z : ◌≡◌ {A = ℕ} 0 1 = cc in omega arith

cond_work : (b : Bool) (y : Plan) (r : Refusal) (x : Exchange) → cond b y (refuse r) ≡ work (job_of x) no_reason → (b ≡ true) × (y ≡ work (job_of x) no_reason)
cond_work true y r x e = (refl, e)
cond_work false y r x e = absurd (refused_no_work x e)

-- a version that is not greater turns the update down
pub not_newer_lem : (v w : ℕ) → v ≤ w → accept (gives v) (gives w) ≡ work TurnDown (because 15 0)
not_newer_lem v w h = turns_down (ltb w v) (le-ltb w v h)
  where
    turns_down : (t : Bool) → t ≡ false → cond t (work Update no_reason) (work TurnDown (because 15 0)) ≡ work TurnDown (because 15 0)
    turns_down true e = absurd (let z : ◌≡◌ {A = ℕ} 0 1 = cc in omega arith)
    turns_down false e = refl

accept_newer : (u b : Answer ℕ) → accept u b ≡ work Update no_reason → Newer u b
accept_newer (refused n p) b e = absurd (let z : ◌≡◌ {A = ℕ} 0 1 = cc in omega arith)
accept_newer (gives v) (refused n p) e = absurd (refused_no_work update (sym (boot_is_12 v n p) ∙ e))
accept_newer (gives v) (gives w) e = by (dec_lt w v)
  where
    by : Dec (w < v) → Newer (gives v) (gives w)
    by (yes h) = record { new = v; old = w; update_good = refl; boot_good = refl; newer = h }
    by (no h) = let k = not_newer_lem v w (omega arith) in absurd (let z : ◌≡◌ {A = ℕ} 0 1 = cc in omega arith)

accept_no_fallback : (u b : Answer ℕ) → accept u b ≡ work Fallback no_reason → ⊥
accept_no_fallback (refused n p) b e = let z : ◌≡◌ {A = ℕ} 0 1 = cc in omega arith
accept_no_fallback (gives v) (refused n p) e = refused_no_work fallback (sym (boot_is_12 v n p) ∙ e)
accept_no_fallback (gives v) (gives w) e = by (ltb w v) e
  where
    by : (t : Bool) → cond t (work Update no_reason) (work TurnDown (because 15 0)) ≡ work Fallback no_reason → ⊥
    by true e = let z : ◌≡◌ {A = ℕ} 0 1 = cc in omega arith
    by false e = let z : ◌≡◌ {A = ℕ} 0 1 = cc in omega arith

fallback_good_lem : (u : Answer ℕ) → accept_fallback u ≡ work Fallback no_reason → Good u
fallback_good_lem (refused n p) e = absurd (refused_no_work fallback (sym (update_is_13 n p) ∙ e))
fallback_good_lem (gives v) e = record { version = v; good = refl }

fallback_no_update : (u : Answer ℕ) → accept_fallback u ≡ work Update no_reason → ⊥
fallback_no_update (refused n p) e = refused_no_work update (sym (update_is_13 n p) ∙ e)
fallback_no_update (gives v) e = let z : ◌≡◌ {A = ℕ} 0 1 = cc in omega arith

-- the statuses and the images, where all flags are F
both : {x : Exchange} {b : BootStatus} {u : UpdateStatus} {y z : Answer ℕ} → Underway x b u → Images x y z → Both x (gives b) (gives u) y z
both {b} {u} w I = record { boot = b; update = u; statuses = w; read_boot = refl; read_update = refl; images = I }

by_statuses : (x : Exchange) (bs : BootStatus) (us : UpdateStatus) (u b : Answer ℕ) → decide_by bs us AllF u b ≡ work (job_of x) no_reason → Both x (gives bs) (gives us) u b
by_statuses x BootNew UpdateNew u b e = absurd (plain_no_work x e)
by_statuses x Success UpdateNew u b e = absurd (plain_no_work x e)
by_statuses update Testing UpdateNew u b e = absurd (fallback_no_update u e)
by_statuses fallback Testing UpdateNew u b e = both from_testing (fallback_good_lem u e)
by_statuses update BootNew Updating u b e = both from_new (accept_newer u b e)
by_statuses fallback BootNew Updating u b e = absurd (accept_no_fallback u b e)
by_statuses update Success Updating u b e = both from_success (accept_newer u b e)
by_statuses fallback Success Updating u b e = absurd (accept_no_fallback u b e)
by_statuses x Testing Updating u b e = absurd (refused_no_work x e)

by_answers : (x : Exchange) (bs : Answer BootStatus) (us : Answer UpdateStatus) (u b : Answer ℕ) → decide_statuses bs us AllF u b ≡ work (job_of x) no_reason → Both x bs us u b
by_answers x (refused n p) us u b e = absurd (refused_no_work x e)
by_answers x (gives bs) (refused n p) u b e = absurd (refused_no_work x e)
by_answers x (gives bs) (gives us) u b e = by_statuses x bs us u b e

pub accepted : (check : Check) (x : Exchange) (g : Geometry) (f : Flash) → Starts check x g f → Accepted check x g f
unfolding decide
accepted check x g f s =
    let k = cond_work (fits g f)
    (decide_statuses (boot_status_at g f.boot) (update_status_at g f.update) (flags_at g f.update) (check g f.update) (check g f.boot)) _ x s.decided in
    let t : Both x (boot_status_at g f.boot) (update_status_at g f.update) (check g f.update) (check g f.boot)
    = by_answers x (boot_status_at g f.boot) (update_status_at g f.update) (check g f.update) (check g f.boot)
    (ap (λ (v : Flags). decide_statuses (boot_status_at g f.boot) (update_status_at g f.update) v (check g f.update) (check g f.boot)) (sym s.flags_f) ∙ k.1) in
    record { fit = k.0; both = t }

-- such statuses and images are accepted
pub begun : {x : Exchange} {b : BootStatus} {u : UpdateStatus} → Underway x b u → (y z : Answer ℕ) → Images x y z → decide_by b u AllF y z ≡ work (job_of x) no_reason
begun from_new y z I = rw (I.update_good, I.boot_good, lt-ltb I.old I.new I.newer) refl
begun from_success y z I = rw (I.update_good, I.boot_good, lt-ltb I.old I.new I.newer) refl
begun from_testing y z I = rw I.good refl
