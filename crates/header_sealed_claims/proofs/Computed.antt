-- The cases, computed, and that the premises can be met. Assumes nothing.
use mathlib.Core.Path.{◌≡◌, refl}
use mathlib.Core.Bool.{true}
use native.Mathlib.Omega.{arith}
use lib.ListN.{take, replicate}
use lib.Seq.{take_all}
use Rattle.header_tags.specs.Bytes.{field_bytes}
use Rattle.header_tags.specs.Walk.{item_at, item_from, tags_from}
use Rattle.header_places.specs.Judging.{judge, row_of, places_in}
use Rattle.header_reader.specs.declared.Header.{Header}
use Rattle.header_reader.specs.Reading.{tag_places, read_header}
use Rattle.header_writer.specs.Writing.{header_bytes}
use Rattle.header_round_trips.specs.RoundTrips.{example}
use Rattle.header_round_trips.proofs.Refusing.{premises_met}
use Rattle.header_round_trips.proofs.Back.{header_length}
use Rattle.header_sealed.specs.Profile.{first_difference, read_sealed}
use Rattle.header_sealed_claims.specs.Cases.{SealedCases, SealedPremisesMet}
use Rattle.header_sealed_claims.proofs.Sealing.{sealed_when}

pub sealed_premises_met : SealedPremisesMet
sealed_premises_met =
    let m = premises_met true in
    record {
      holdable = m.holdable;
      bytes = m.bytes;
      sealed = sealed_when (header_bytes (example true)) (example true) m.accepted refl whole;
    }
  where
    whole : take 256 (header_bytes (example true)) ≡ header_bytes (example true)
    whole = take_all 256 (header_bytes (example true)) (omega (arith, header_length (example true) (premises_met true).holdable))

-- the values that the first case carries
abbrev zeros : Header
zeros =
    record {
      size = 256;
      version = 0;
      timestamp = 0;
      digest = replicate 32 0;
      signature = replicate 64 0;
      auth_type = 0;
      has_hint = true;
      hint = replicate 32 0;
    }

pub sealed_cases_lem : SealedCases
unfolding read_sealed read_header tag_places places_in judge row_of tags_from item_from item_at header_bytes field_bytes first_difference
sealed_cases_lem = ((zeros, refl), (refl, (refl, (refl, (refl, (refl, (refl, (refl, (refl, (refl, (refl, (refl, (refl, (refl, (refl, (refl, (refl, (refl, (refl, (refl, (refl, (refl, (refl, (refl, (refl, (refl, (refl, tt)))))))))))))))))))))))))))
