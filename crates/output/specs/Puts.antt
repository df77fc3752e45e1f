-- Bytes written at a place, all others kept, and the place behind them.
use Rattle.std.specs.Prelude.{◌≡◌, ℕ, ◌+◌, List, length}
use Rattle.std.proofs.lemmas.List.Edits.{sets}

pub record Puts (before after : List ℕ) (at : ℕ) (bytes : List ℕ) (next : ℕ) : Type 0 where
  pub is : after ≡ sets before at bytes
  pub behind : next ≡ at + length bytes
