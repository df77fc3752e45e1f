use native.Mathlib.Omega.{arith}
use Rattle.mending_flags.proofs.Pairs.{pair_two, pair_one}
use Rattle.mending_flags.proofs.write_pair.Goals as goal

pub returns-then-next-firmware_sectors : goal.returns-then-next-firmware_sectors
returns-then-next-firmware_sectors c =
    let a = c.args in
    pair_two a.g a.mark a.n a.update.now _ _ _ _ (omega arith) c.flag_of.ensures c.write_flag.ensures c.flag_of-then-next-firmware_sectors.ensures c.write_flag-then-next-firmware_sectors.ensures

pub returns-else-next-firmware_sectors : goal.returns-else-next-firmware_sectors
returns-else-next-firmware_sectors c =
    let a = c.args in
    pair_one a.g a.mark a.n a.update.now _ _ (omega arith) c.flag_of.ensures c.write_flag.ensures
