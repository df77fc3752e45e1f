-- Document 01, "The flash": the sector flags of UPDATE, half a byte for each firmware sector.
use Rattle.std.specs.Prelude.{Bool, true, false, cond, ◌&&◌, List, [], ◌∷◌, ℕ, zero, suc, ◌+◌, ◌-◌, ◌*◌, ◌/◌, ◌%◌, get_or, set, eqb, Option, Some, None}
use Rattle.flash.specs.declared.Geometry.{Geometry}
use Rattle.flash.specs.Sizes.{firmware, partition_size}
use Rattle.flash.specs.Sectors.{sector_number}
use Rattle.flash_flags.specs.declared.Flag.{Flag}
use Rattle.flash_flags.specs.declared.Flag.TheVariants.{Untouched, Saved, Moved, Exchanged}
use Rattle.flash_flags.specs.declared.Leg.{Leg}
use Rattle.flash_flags.specs.declared.Leg.TheVariants.{UpdateToSwap, BootToUpdate, SwapToBoot}
use Rattle.flash_flags.specs.declared.Flags.{Flags}
use Rattle.flash_flags.specs.declared.Flags.TheVariants.{Malformed, AllF, At, All0}

-- the four values
abbrev pub flag_value : Flag → ℕ
flag_value Untouched = 0xF
flag_value Saved = 7
flag_value Moved = 3
flag_value Exchanged = 0

-- a flag goes from F to 7, to 3, to 0: how many moves it has behind it; and the flag with a moves behind it
abbrev pub flag_rank : Flag → ℕ
flag_rank Untouched = 0
flag_rank Saved = 1
flag_rank Moved = 2
flag_rank Exchanged = 3

abbrev pub moved : ℕ → Flag
moved zero = Untouched
moved (suc zero) = Saved
moved (suc (suc zero)) = Moved
moved (suc (suc (suc a))) = Exchanged

-- the flag that shows a leg, and how many moves it has behind it
abbrev pub leg_flag : Leg → Flag
leg_flag UpdateToSwap = Untouched
leg_flag BootToUpdate = Saved
leg_flag SwapToBoot = Moved

abbrev pub leg_moves : Leg → ℕ
leg_moves leg = flag_rank (leg_flag leg)

-- the flag whose value a half byte is
unfoldable pub flag_of : ℕ → Option Flag
flag_of h =
    cond (eqb h (flag_value Untouched)) (Some Untouched)
    (cond (eqb h (flag_value Saved)) (Some Saved)
    (cond (eqb h (flag_value Moved)) (Some Moved)
    (cond (eqb h (flag_value Exchanged)) (Some Exchanged) None)))

-- the byte of sector i's flag: the flags stand before the status byte, two to a byte, and go down from there
unfoldable pub flag_byte : Geometry → ℕ → ℕ
flag_byte g i = partition_size g - 2 - i / 2

-- sector i's half of a byte b, the low one for even i; and b with that half set to v
unfoldable pub half : ℕ → ℕ → ℕ
half i b = cond (eqb (i % 2) 0) (b % 16) (b / 16)

unfoldable pub with_half : ℕ → ℕ → ℕ → ℕ
with_half i b v = cond (eqb (i % 2) 0) (b / 16 * 16 + v) (v * 16 + b % 16)

-- sector i's flag in UPDATE's bytes u, and u with it set to v
unfoldable pub flag_at : Geometry → List ℕ → ℕ → Option Flag
flag_at g u i = flag_of (half i (get_or u (flag_byte g i) 0))

unfoldable pub set_flag : Geometry → ℕ → Flag → List ℕ → List ℕ
set_flag g i v u = set u (flag_byte g i) (with_half i (get_or u (flag_byte g i) 0) (flag_value v))

-- the flags of k sectors from sector i on; and of the firmware sectors, so that a half byte behind the last one is never looked at
unfoldable pub flags_from : Geometry → List ℕ → ℕ → ℕ → List (Option Flag)
flags_from g u zero i = []
flags_from g u (suc k) i = flag_at g u i ∷ flags_from g u k (suc i)

unfoldable pub flags : Geometry → List ℕ → List (Option Flag)
flags g u = flags_from g u (firmware g) 0

-- a flag is F; all of a list are
abbrev pub is_f : Option Flag → Bool
is_f (Some Untouched) = true
is_f (Some Saved) = false
is_f (Some Moved) = false
is_f (Some Exchanged) = false
is_f None = false

unfoldable pub all_f : List (Option Flag) → Bool
all_f [] = true
all_f (v ∷ vs) = is_f v && all_f vs

-- sector i is the first whose flag is not 0 and shows a leg: well formed if `rest`, that the flags after it are F only
abbrev pub front_at : ℕ → Leg → Bool → Flags
front_at i leg rest = cond rest (At (sector_number i) leg) Malformed

-- by the flag of sector i, with 0 before it: a 0 leaves it to the flags after it; F, 7 and 3 show 01's legs, in that order
abbrev pub by_flag : ℕ → Option Flag → Bool → Flags → Flags
by_flag i (Some Exchanged) rest later = later
by_flag i (Some Untouched) rest later = front_at i UpdateToSwap rest
by_flag i (Some Saved) rest later = front_at i BootToUpdate rest
by_flag i (Some Moved) rest later = front_at i SwapToBoot rest
by_flag i None rest later = Malformed

-- well formed flags are zeros, then perhaps a single 7 or 3, then nothing but F; here from sector i on
unfoldable pub past_zeros : ℕ → List (Option Flag) → Flags
past_zeros i [] = All0
past_zeros i (v ∷ vs) = by_flag i v (all_f vs) (past_zeros (suc i) vs)

-- what the flags show, from sector 0 up
unfoldable pub flags_shown : List (Option Flag) → Flags
flags_shown vs = cond (all_f vs) AllF (past_zeros 0 vs)

unfoldable pub flags_at : Geometry → List ℕ → Flags
flags_at g u = flags_shown (flags g u)
