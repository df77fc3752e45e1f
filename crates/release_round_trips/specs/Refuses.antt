-- Document 01, "Numbers given back", 16 and 3, of the making of a header. Proved in proofs/.
use Rattle.std.specs.Prelude.{◌≡◌, ◌↔◌, ◌⊎◌, ℕ, ◌^◌, ◌≤◌, ◌<◌, List, length}
use Rattle.numbers.specs.Answer.{gives, refused}
use Rattle.header_writer.specs.Writing.{write}
use Rattle.release_values.specs.declared.Stated.{Stated}
use Rattle.release_header.specs.Making.{make_header}

-- When the making refuses. Of all values, every firmware and every output: 16 exactly if the output is shorter than a header; else 3
-- exactly if the firmware is empty or larger than four bytes can count; else the header is made. Both refusals leave the output as it was.
pub record MakingRefuses (v : Stated) (firmware out : List ℕ) : Type 0 where
  pub short : (make_header v firmware out ≡ write (refused 16 0) out) ↔ (length out < 256)
  pub size : (make_header v firmware out ≡ write (refused 3 4) out)
      ↔ ((256 ≤ length out) × ((length firmware ≡ 0) ⊎ (2 ^ 32 ≤ length firmware)))
  pub taken : ((make_header v firmware out).answer ≡ gives tt)
      ↔ ((256 ≤ length out) × (0 < length firmware) × (length firmware < 2 ^ 32))
  -- Whatever is refused, no byte changes.
  pub unchanged : (n p : ℕ) → (make_header v firmware out).answer ≡ refused n p → make_header v firmware out ≡ write (refused n p) out

abbrev pub WhenMakingRefuses : Type 0
WhenMakingRefuses = (v : Stated) (firmware out : List ℕ) → MakingRefuses v firmware out
