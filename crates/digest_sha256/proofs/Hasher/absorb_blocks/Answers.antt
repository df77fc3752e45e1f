use Rattle.std.proofs.Common.{refl}
use Rattle.digest_sha256.proofs.Pending.{blocks_law}
use Rattle.digest_sha256.proofs.Hasher.absorb_blocks.Goals as goal

pub returns : goal.returns
returns c = let a = c.args in blocks_law a.self a.part.now c.requires refl c.hash_blocks-self.ensures c.lay.ensures refl
