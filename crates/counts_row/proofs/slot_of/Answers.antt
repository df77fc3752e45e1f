use Rattle.exchange_steps.proofs.Bounds.{sector_of_lem, trailer_of}
use Rattle.counts_row.proofs.slot_of.Goals as goal

pub row_place-requires : goal.row_place-requires
row_place-requires c = (c.requires.0, sector_of_lem c.args.g c.requires.0 _ (rw c.in-Erase.is at c.requires.1))

pub row_place-requires-in-EraseBootTrailer : goal.row_place-requires-in-EraseBootTrailer
row_place-requires-in-EraseBootTrailer c = (c.requires.0, trailer_of c.args.g c.requires.0 _ c.firmware_sectors.ensures)

pub row_place-requires-in-EraseUpdateTrailer : goal.row_place-requires-in-EraseUpdateTrailer
row_place-requires-in-EraseUpdateTrailer c =
    (c.requires.0, trailer_of c.args.g c.requires.0 _ c.firmware_sectors-in-EraseUpdateTrailer.ensures)
