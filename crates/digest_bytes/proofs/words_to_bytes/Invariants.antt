use Rattle.std.proofs.Common.{◌≡◌, ◌*◌, length, take}
use Rattle.digest_bytes.proofs.Words.{bytes_of}
use Rattle.digest_bytes.proofs.words_to_bytes.Given as goal

abbrev pub invariant-loop-i : goal.invariant-loop-i
invariant-loop-i l = (length l.r ≡ 32) × (take (4 * l.i) l.r ≡ bytes_of l.h l.i)
