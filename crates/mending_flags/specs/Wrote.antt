-- Document 02, "Mend lost flags": what the write of a mark's flags leaves, and what it answers.
use Rattle.std.specs.Prelude.{◌≡◌, List, ℕ}
use Rattle.flash.specs.declared.Geometry.{Geometry}
use Rattle.mending.specs.declared.Mark.{Mark}
use Rattle.mending.specs.Mending.{set_flags, changed}

-- "The tool writes the flags of the .. mark and answers with .. how many flag bytes now differ from before": UPDATE's bytes were u and are
-- v, and c is the count. All bytes of v are told, so "nothing else is touched", and neither is an unused half byte.
pub record Wrote (g : Geometry) (k : Mark) (u v : List ℕ) (c : ℕ) : Type 0 where
  pub bytes : v ≡ set_flags g k u
  pub count : c ≡ changed g u (set_flags g k u)
