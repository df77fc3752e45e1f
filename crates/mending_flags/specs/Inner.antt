-- Document 02, "Mend lost flags": one turn of the write, which is the flag byte of two sectors.
use Rattle.std.specs.Prelude.{◌≡◌, cond, List, ℕ, ◌+◌, ◌*◌, get_or, ltb}
use Rattle.flash.specs.declared.Geometry.{Geometry}
use Rattle.flash.specs.Sizes.{firmware}
use Rattle.flash_flags.specs.SectorFlags.{flag_byte, set_flag}
use Rattle.mending.specs.declared.Mark.{Mark}
use Rattle.mending.specs.Marks.{flag_under}
use Rattle.mending.specs.Mending.{differs}

-- "writes the flags of the .. mark": UPDATE's bytes u with the flag of sector i set as the mark has it
abbrev pub set_one : Geometry → Mark → ℕ → List ℕ → List ℕ
set_one g k i u = set_flag g i (flag_under k i) u

-- the flags of the sectors 2 n and 2 n + 1, which are in one byte. "An unused half byte stays": that of sector 2 n + 1, where sector 2 n is
-- the last of the firmware
unfoldable pub set_pair : Geometry → Mark → ℕ → List ℕ → List ℕ
set_pair g k n u = cond (ltb (2 * n + 1) (firmware g)) (set_one g k (2 * n + 1) (set_one g k (2 * n) u)) (set_one g k (2 * n) u)

-- "how many flag bytes now differ from before", of this one byte: UPDATE's bytes were u and are v, and c is 1 if the byte differs, else 0
pub record WrotePair (g : Geometry) (k : Mark) (n : ℕ) (u v : List ℕ) (c : ℕ) : Type 0 where
  pub bytes : v ≡ set_pair g k n u
  pub count : c ≡ differs (get_or u (flag_byte g (2 * n)) 0) (get_or v (flag_byte g (2 * n)) 0)
