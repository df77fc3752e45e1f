use Rattle.std.proofs.Common.{◌+◌, ◌-◌, ◌*◌, ◌≡◌, length}
use Rattle.header_tags.specs.Walk.{next_item}
use Rattle.header_tags.proofs.+read_tag_skip_padding.Given as goal

-- The bytes left to the header's length fall, and a call that keeps its place goes from the skipper to the reader.
abbrev pub decreases-read_tag : goal.decreases-read_tag
decreases-read_tag l = 2 * (length l.h.now - l.at)

abbrev pub decreases-skip_padding : goal.decreases-skip_padding
decreases-skip_padding l = 2 * (length l.h.now - l.at) + 1

abbrev pub invariant-skip_padding-loop-place : goal.invariant-skip_padding-loop-place
invariant-skip_padding-loop-place l = next_item l.h l.place ≡ next_item l.h l.at
