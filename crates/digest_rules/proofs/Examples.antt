-- The published examples, computed.
use mathlib.Core.Path.{refl}
use Rattle.digest_fips180.specs.Sha256.{first, Ch, Maj, Σ₀, Σ₁, σ₀, σ₁, K, big_endian, zeros, padding, pad, block, word, words, H0, next_word, schedule, round, rounds, next_hash, compress, hash, bytes, sha256}
use Rattle.digest_rules.specs.Rules.{Examples}

pub examples : Examples
unfolding sha256 bytes hash compress next_hash rounds round schedule next_word H0 words word block pad padding zeros big_endian K Ch Maj Σ₀ Σ₁ σ₀ σ₁ first
examples = record { empty = refl; abc = refl; bits448 = refl }
