-- Lists of counted calls: each call is the power-up of the rules, and the row goes from one to the next.
use mathlib.Core.Path.{◌≡◌, refl, sym, ap, ◌∙◌, subst}
use mathlib.Core.Bool.{true}
use mathlib.Core.List.{List, [], ◌∷◌, map}
use Prim.Native.Nat.{ℕ, ◌+◌, ◌*◌, ◌≤◌, ◌<◌}
use native.Mathlib.Omega.{arith}
use native.Mathlib.Nat.{mul-suc}
use lib.ListN.{length, get_or}
use Rattle.std.specs.Prelude.{sum}
use Rattle.flash.specs.declared.Geometry.{Geometry}
use Rattle.flash.specs.Sizes.{firmware}
use Rattle.flash.specs.Buffers.{Flash, fits}
use Rattle.exchange.specs.PowerUp.{PowerUp, next_after}
use Rattle.exchange.specs.LostPower.{tear_next}
use Rattle.exchange.specs.Along.{Along}
use Rattle.exchange.specs.Demand.{Finished, Event, left_untorn, left_lost, left, flash_left, EndsAsAllowed}
use Rattle.exchange.proofs.Along.{Same}
use Rattle.exchange.proofs.Seen.{at, safe_seen}
use Rattle.exchange.proofs.Whole.{demand_3_ongoing, starts_ongoing}
use Rattle.image.specs.Verdict.{check_of}
use Rattle.delivered.proofs.Delivered.{reads_firmware}
use Rattle.delivered.proofs.Called.{Goes, goes_on}
use Rattle.counts.specs.Row.{row_length}
use Rattle.counts.specs.Claims.{erases_at}
use Rattle.delivered_counts.specs.Demand.{CountedEvent, kept_power, cut_off, asked_geometry, with_budget, counted_seen, row_left, total_left, Found, found_after, HandedOn, completed_in, Completed, erases_since, RowKept, CountedDemand3, CountedDemand3Ongoing}
use Rattle.delivered_counts.specs.Witness.{ruled}
use Rattle.delivered_counts.proofs.OneCall.{number_done, left_by, first_done, IsPowerUp, is_power_up, few_erases}

-- ---- one power-up

pub record Ruled (g : Geometry) (s : Found) (e : CountedEvent) : Type 0 where
  pub seen : counted_seen s.flash e ≡ left check_of s.flash (ruled e)
  pub ends : EndsAsAllowed check_of g s.flash (ruled e)
  pub same_length : length (row_left e) ≡ length s.row
  pub places : (p : ℕ) → p < length s.row → get_or (row_left e) p 0 ≡ get_or s.row p 0 + erases_at g p (completed_in s e)
  pub completed : Completed s e
  pub total : s.total ≡ sum s.row → total_left e ≡ sum (row_left e)

pub as_ruled : (g : Geometry) (s : Found) (e : CountedEvent) → fits g s.flash ≡ true → length s.row ≡ row_length g → HandedOn g s e → Ruled g s e
unfolding left
as_ruled g s (kept_power h whole) fit long A =
    let i : IsPowerUp g s.flash h whole = is_power_up s.flash h whole A.happens g fit (ap length A.same_row ∙ long) in
    record {
      seen = ap (left_untorn (asked_geometry h) h.budget) i.own;
      ends = tt;
      same_length = i.same_length ∙ ap length A.same_row;
      places = λ p b. subst (λ (l : List ℕ). get_or whole.row p 0 ≡ get_or l p 0 + erases_at g p (completed_in s (kept_power h whole))) A.same_row (i.places p (rw A.same_row b));
      completed = record {
        number = number_done (asked_geometry h) s.flash h.budget ∙ sym (ap (λ (a : PowerUp). a.count) i.own);
        leave = ap (λ (a : PowerUp). a.flash) i.own ∙ left_by (asked_geometry h) s.flash h.budget;
      };
      total = λ t. i.total (A.same_total ∙ t ∙ ap sum (sym A.same_row));
    }
as_ruled g s (cut_off h whole k part t) fit long A =
    let l = ap length A.same_row ∙ long in
    let i : IsPowerUp g s.flash h whole = is_power_up s.flash h whole A.happens.0 g fit l in
    let j : IsPowerUp g s.flash (with_budget h k) part = is_power_up s.flash (with_budget h k) part A.happens.1 g fit l in
    let n = subst (λ (a : PowerUp). k ≤ a.count) i.own A.happens.2 in
    record {
      seen = ap (λ (a : PowerUp). left_lost k (tear_next (asked_geometry h) t (next_after check_of (asked_geometry h) s.flash k) a.flash)) j.own;
      ends = (n, A.happens.3);
      same_length = j.same_length ∙ ap length A.same_row;
      places = λ p b. subst (λ (l : List ℕ). get_or part.row p 0 ≡ get_or l p 0 + erases_at g p (completed_in s (cut_off h whole k part t))) A.same_row (j.places p (rw A.same_row b));
      completed = record {
        number = first_done (asked_geometry h) s.flash h.budget k n;
        leave = ap (λ (a : PowerUp). a.flash) j.own ∙ left_by (asked_geometry h) s.flash k;
      };
      total = λ s. refl;
    }

-- a power-up raises a place m times at most
pub few_completed : (g : Geometry) (s : Found) (e : CountedEvent) → fits g s.flash ≡ true → (p : ℕ) → erases_at g p (completed_in s e) ≤ firmware g
few_completed g s (kept_power h whole) fit p = few_erases g (asked_geometry h) s.flash h.budget p fit
few_completed g s (cut_off h whole k part t) fit p = few_erases g (asked_geometry h) s.flash k p fit

-- ---- a list of them, by what holds between two power-ups; `Allows` is what is allowed of each, beyond that it is handed on

module _ (g : Geometry) (Inv Allows : Flash → Type 0) (fit : (y : Flash) → Inv y → Allows y → fits g y ≡ true)
    (on : (y : Flash) (e : Event) → Inv y → Allows y → EndsAsAllowed check_of g y e → Inv (left check_of y e).flash) where
  pub record Read (s : Found) (es : List CountedEvent) : Type 0 where
    pub same : Same at counted_seen (left check_of) ruled s.flash es
    pub allowed : Along (flash_left (left check_of)) (λ before e after. Allows before × EndsAsAllowed check_of g before e) s.flash (map ruled es)
    pub counts : RowKept g s es
    pub few : (p : ℕ) → erases_since g p s es ≤ firmware g * length es

  pub read : (es : List CountedEvent) (s : Found) → Inv s.flash → length s.row ≡ row_length g
      → Along found_after (λ before e after. Allows before.flash × HandedOn g before e) s es → Read s es
  read [] s i long h = record {
    same = tt;
    allowed = tt;
    counts = record { same_flash = refl; same_length = long; place_by_place = λ p b. omega arith; completed_are = tt; total = λ t. t };
    few = λ p. omega arith;
  }
  read (e ∷ es) s i long h =
      let one : Ruled g s e = as_ruled g s e (fit s.flash i h.0.0) long h.0.1 in
      let i' : Inv (found_after s e).flash = subst Inv (sym (ap at one.seen)) (on s.flash (ruled e) i h.0.0 one.ends) in
      let r : Read (found_after s e) es = read es (found_after s e) i' (one.same_length ∙ long) h.1 in
      record {
        same = (one.seen, r.same);
        allowed = (
          (h.0.0, one.ends),
          subst (λ (y : Flash). Along (flash_left (left check_of)) (λ before e after. Allows before × EndsAsAllowed check_of g before e) y (map ruled es)) (ap at one.seen) r.allowed,
        );
        counts = record {
          same_flash = r.counts.same_flash;
          same_length = r.counts.same_length;
          place_by_place = λ p b. omega (arith, r.counts.place_by_place p b, one.places p (rw long b));
          completed_are = (one.completed, r.counts.completed_are);
          total = λ t. r.counts.total (one.total t);
        };
        few = λ p. omega (arith, mul-suc (firmware g) (length es), r.few p, few_completed g s e (fit s.flash i h.0.0) p);
      }

-- ---- demand 3, wherever an exchange is under way

pub counted_demand_3_ongoing : CountedDemand3Ongoing
counted_demand_3_ongoing x g old a s o long es h =
    let r = read g (Goes x g old) (λ y. ¬ Finished x g y) (λ y i not. (i not).1.fit) (goes_on x g old) es s (λ not. (a, o)) long h in
    record {
      flash = safe_seen check_of counted_seen ruled x g old s.flash a es r.same (demand_3_ongoing check_of x g old s.flash a (reads_firmware g) o (map ruled es) r.allowed);
      counts = r.counts;
    }

pub counted_demand_3 : CountedDemand3
counted_demand_3 x g s starts long es h = counted_demand_3_ongoing x g s.flash 0 s (starts_ongoing check_of x g s.flash starts) long es h
