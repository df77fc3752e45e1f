-- Document 01, "The header": the offered walker. It holds the lent header and its place, and gives every tag, those of types that the reader skips too.
use Rattle.std.specs.Prelude.{ℕ, zero, suc, List}
use Rattle.std.specs.Borrow.{Bor}
use Rattle.numbers.specs.Answer.{Answer}
use Rattle.header_tags.specs.Walk.{first_tag, Item, walk_at, place_behind}
use Rattle.header_walker.specs.declared.TagWalker.{TagWalker}

-- A walker over a lent header, before its first call.
abbrev pub start_of : Bor (List ℕ) → TagWalker
start_of s = record { header = s; at = first_tag }

-- What a call of `next` answers, and the walker after it: the same header, and the place where the walk goes on.
abbrev pub walker_answer : TagWalker → Answer Item
walker_answer w = walk_at w.header.now w.at

abbrev pub walker_after : TagWalker → TagWalker
walker_after w = record { header = w.header; at = place_behind (walker_answer w) w.at }

-- The walker after n calls of `next`, and what call number n answers, counted from 0.
abbrev pub after_calls : ℕ → TagWalker → TagWalker
after_calls zero w = w
after_calls (suc n) w = walker_after (after_calls n w)

abbrev pub call_answer : ℕ → TagWalker → Answer Item
call_answer n w = walker_answer (after_calls n w)
