-- What is claimed of the window, as types. `proofs/Window.antt` has a value of each.
use Rattle.std.specs.Prelude.{◌≡◌, ℕ, suc, ◌+◌, ◌<◌, ◌≤◌, List, length}
use Rattle.digest_rounds.specs.declared.Rounds.{Rounds}
use Rattle.digest_fips180.specs.Sha256.{◌!◌, K, words, schedule, round, rounds}
use Rattle.digest_rounds.specs.Window.{place, begin, after}

-- Which place of the window v holds which word at round t, of the block m: W_t, and as many of the fifteen words before it as there are,
-- stand in their places. Before round 16 the window is the block's own words, so that no later word is made before its round.
pub record Holds (m v : List ℕ) (t : ℕ) : Type 0 where
  pub size : length v ≡ 16
  pub last : (n : ℕ) → n ≤ t → t < n + 16 → v ! place n ≡ schedule m 48 ! n
  pub own : t < 16 → v ≡ m

-- Of every block of sixteen words: the window that round t leaves, and out of which it takes its word, holds the words that `Holds` names.
abbrev pub WindowHolds : Type 0
WindowHolds = (m h : List ℕ) (t : ℕ) → length m ≡ 16 → t < 64 → Holds m (after (begin m h) (suc t)).window t

-- Round t, which leads from x to y, takes a word out of the window, and it is word t of the standard's schedule.
pub record Takes (m : List ℕ) (x y : Rounds) (t : ℕ) : Type 0 where
  pub out : y.variables ≡ round x.variables (K ! t) (y.window ! place t)
  pub word : y.window ! place t ≡ schedule m 48 ! t

-- Document 02: so does each round from 0 to 63.
abbrev pub TakesWord : Type 0
TakesWord = (m h : List ℕ) (t : ℕ) → length m ≡ 16 → t < 64 → Takes m (after (begin m h) t) (after (begin m h) (suc t)) t

-- So the working variables are the standard's, after each number of rounds from 0 to 64.
abbrev pub SameVariables : Type 0
SameVariables = (m h : List ℕ) (n : ℕ) → length m ≡ 16 → n ≤ 64 → (after (begin m h) n).variables ≡ rounds (schedule m 48) h n

-- That the premise is met: the words of a block are sixteen, whatever its bytes.
abbrev pub EachBlockHasSixteen : Type 0
EachBlockHasSixteen = (b : List ℕ) → length (words b) ≡ 16
