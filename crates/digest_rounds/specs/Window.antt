-- Document 02, "Four": the message words of a block in a window of 16, and each later word made when it is due. Numbers as 6.2.2 are
-- sections of FIPS 180-4, whose rounds these are. `Rounds` has the window and the working variables a to h. The standard has the rounds
-- 0 to 63; beyond them nothing is asked.
use Rattle.std.specs.Prelude.{ℕ, zero, suc, ◌-◌, ◌%◌, cond, List, nat_lt, slice_set}
use Rattle.digest_rounds.specs.declared.Rounds.{Rounds}
use Rattle.digest_fips180.specs.Sha256.{◌!◌, ◌⊞◌, σ₀, σ₁, K, round}

-- Document 02, four: the place of the word W_n in the window of 16.
abbrev pub place : ℕ → ℕ
place n = n % 16

-- 6.2.2, steps 1 and 2: before round 0 the window is the block's sixteen words m, and the working variables are the hash value h.
unfoldable pub begin : List ℕ → List ℕ → Rounds
begin m h =
    record {
      window = m;
      variables = h;
    }

-- 6.2.2, step 1, for t from 16 on: W_t, of a window v that has W_(t-16) to W_(t-1), each in its place.
unfoldable pub word_due : List ℕ → ℕ → ℕ
word_due v t = σ₁ (v ! place (t - 2)) ⊞ v ! place (t - 7) ⊞ σ₀ (v ! place (t - 15)) ⊞ v ! place (t - 16)

-- 6.2.2, step 1, both cases: the window for round t, of the window v that is there before it. Up to round 15 no word is due: the block's
-- own are there. From round 16 on, W_t is due, and takes the place of W_(t-16).
unfoldable pub window_for : List ℕ → ℕ → List ℕ
window_for v t = cond (nat_lt t 16) v (slice_set v (place t) (word_due v t))

-- 6.2.2, step 3, at one t: the round takes its word out of the window, at the place of W_t; k is K_t.
unfoldable pub round_on : Rounds → ℕ → ℕ → Rounds
round_on x t k =
    let v : List ℕ = window_for x.window t in
    record {
      window = v;
      variables = round x.variables k (v ! place t);
    }

-- 6.2.2, step 3: after n rounds, those for t from 0 to n - 1.
unfoldable pub after : Rounds → ℕ → Rounds
after x zero = x
after x (suc t) = round_on (after x t) t (K ! t)
