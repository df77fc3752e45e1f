use Rattle.std.proofs.Common.{◌≡◌, length}
use Rattle.std.specs.Slice.Iter.{chunks_exact_rest, chunks_exact_size}
use Rattle.digest_block.proofs.Steps.{Hashed}
use Rattle.digest_block.proofs.hash_blocks.Given as goal

abbrev pub invariant-loop-block : goal.invariant-loop-block
invariant-loop-block l = Hashed l.fn.h l.m l.s (chunks_exact_rest l.block-iterator) (length l.yielded) × (chunks_exact_size l.block-iterator ≡ 64)
