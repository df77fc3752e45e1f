use Rattle.digest_fips180.specs.Sha256.{word}
use Rattle.digest_block.proofs.read_word.Goals as goal

pub returns : goal.returns
unfolding word
returns c = c.from_be_bytes.ensures
