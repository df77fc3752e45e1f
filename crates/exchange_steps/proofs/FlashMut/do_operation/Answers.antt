use Rattle.flash.proofs.Checked.{boot_partition, update_partition}
use Rattle.exchange_steps.proofs.Bounds.{sector_of_lem, trailer_of}
use Rattle.exchange_steps.proofs.FlashMut.do_operation.Goals as goal

pub erase-requires : goal.erase-requires
erase-requires c =
    let p = c.requires in
    (p.0, sector_of_lem _ p.0.limits _ (rw c.in-Erase.is at p.1))

pub copy-requires : goal.copy-requires
copy-requires c =
    let p = c.requires in
    (p.0, sector_of_lem _ p.0.limits _ (rw c.in-Copy.is at p.1))

pub erase_sector-requires : goal.erase_sector-requires
erase_sector-requires c =
    (boot_partition _ _ c.requires.0, trailer_of _ c.requires.0.limits _ c.firmware_sectors.ensures)

pub erase_sector-requires-in-EraseUpdateTrailer : goal.erase_sector-requires-in-EraseUpdateTrailer
erase_sector-requires-in-EraseUpdateTrailer c =
    (update_partition _ _ c.requires.0, trailer_of _ c.requires.0.limits _ c.firmware_sectors-in-EraseUpdateTrailer.ensures)
