-- From a release sheet to a good image. Assumes nothing.
use mathlib.Core.Path.{sym, ap}
use Prim.Native.Nat.{ℕ}
use mathlib.Core.List.{List}
use lib.Dec.{lit<, lit≤}
use lib.ListN.{replicate}
use Rattle.numbers.specs.Answer.{Answer}
use Rattle.std.specs.Prelude.{Ok}
use Rattle.header_writer.specs.Writing.{Write, write}
use Rattle.release_claims.specs.Witness.{listed_values}
use Rattle.release_claims.proofs.Witness.{witnesses}
use Rattle.release_claims.proofs.Writable.{read_is_writable}
use Rattle.release_claims.proofs.Once.{no_value_without_its_line}
use Rattle.release_header.specs.Making.{make_header}
use Rattle.release_round_trips.specs.Made.{Makable, example_firmware}
use Rattle.release_round_trips.specs.FromSheet.{SheetToImage, SignedAfterwards, SheetMet}
use Rattle.release_round_trips.proofs.Signed.{digest_before_signing}
use Rattle.release_round_trips.proofs.Good.{made_checks}

pub sheet_to_image : SheetToImage
sheet_to_image text v f out o left x =
    let g : Makable v f out =
    record { values = (read_is_writable text v (sym x.reads)).statable; some = x.some; countable = x.countable; room = x.room } in
    record {
      image = rw x.makes (made_checks v f out g);
      stated = no_value_without_its_line text v (sym x.reads);
    }

pub signed_afterwards : SignedAfterwards
signed_afterwards text text' v v' f reads reads' version timestamp =
    digest_before_signing v v' f (read_is_writable text v (sym reads)).statable (read_is_writable text' v' (sym reads')).statable version timestamp

-- ---- the premise can be met

abbrev example_out : List ℕ
example_out = replicate 256 0

example_makable : Makable listed_values example_firmware example_out
example_makable =
    record { values = witnesses.listing_writable.statable; some = lit< tt; countable = lit< tt; room = lit≤ tt }

abbrev w : Write
w = make_header listed_values example_firmware example_out

pub sheet_met : SheetMet
sheet_met =
    record {
      values = listed_values;
      answer = Ok tt;
      left = w.bytes;
      released =
          record {
            reads = sym witnesses.listing;
            makes = sym (ap (λ (a : Answer (Unit {0})). write a w.bytes) (made_checks listed_values example_firmware example_out example_makable).taken);
            some = lit< tt;
            countable = lit< tt;
            room = lit≤ tt;
          };
    }
