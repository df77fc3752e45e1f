-- The release of specs/Changed.antt, computed. Assumes nothing.
use mathlib.Core.Path.{◌≡◌, refl}
use mathlib.Core.Logic.{inl}
use Prim.Native.Nat.{ℕ}
use native.Mathlib.Omega.{arith}
use lib.Dec.{lit<, lit≤}
use Rattle.digest_fips180.specs.Sha256.{first, big_endian, Ch, Maj, Σ₀, Σ₁, σ₀, σ₁, K, zeros, padding, pad, block, word, words, H0, next_word, schedule, round, rounds, next_hash, compress, hash, bytes, sha256}
use Rattle.header_tags.specs.Walk.{item_at, item_from, tags_from}
use Rattle.header_tags.specs.Standing.{here, behind}
use Rattle.header_tags.specs.Bytes.{field_bytes, same}
use Rattle.header_tags.proofs.Tested.{tested_bytes}
use Rattle.header_places.specs.Judging.{row_of, judge, places_in}
use Rattle.header_reader.specs.Reading.{tag_places, read_header}
use Rattle.header_writer.specs.Writing.{header_bytes}
use Rattle.image.specs.Check.{image_in}
use Rattle.image.specs.Changed.{version}
use Rattle.delivered.specs.Changed.{release7, says9, VersionChanged}

pub version_changed : VersionChanged
unfolding
    release7 says9 header_bytes field_bytes sha256 bytes hash compress next_hash rounds round schedule next_word H0 words word block pad padding zeros K σ₁ σ₀ Σ₁ Σ₀ Maj Ch big_endian first
    image_in same tag_places read_header places_in judge row_of tags_from item_from item_at
version_changed =
    record {
      states =
          record {
            first =
                record {
                  bytes = tested_bytes release7 refl;
                  read = refl;
                  tag = behind _ _ 8 1 4 _ (behind _ _ 16 2 8 _ (here 28 3 32 _));
                  room = lit≤ tt;
                };
            second =
                record {
                  bytes = tested_bytes says9 refl;
                  read = refl;
                  tag = behind _ _ 8 1 4 _ (behind _ _ 16 2 8 _ (here 28 3 32 _));
                  room = lit≤ tt;
                };
            good = refl;
            digest = refl;
          };
      change = version 8 (inl (here 8 1 4 _)) (lit< tt) (λ e. let z : ◌≡◌ {A = ℕ} 7 9 = e in absurd (omega arith));
      nine = refl;
    }
