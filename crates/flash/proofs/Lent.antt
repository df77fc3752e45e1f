-- Which lengths are taken, with which geometries. Assumes nothing.
use Rattle.flash.specs.Sizes.{geometry}
use Rattle.flash.specs.Buffers.{partition_fits, fits, partition_of, flash_of}
use Rattle.flash.specs.Taken.{LentRight, WhichPartitions, WhichFlashes, WhichFit}
use Rattle.flash.proofs.Taken.{taken_if}
use Rattle.flash.proofs.Checked.{limits_rules, rules_limits, partition_of_lem, partition_fits_lem, shaped_of, shaped_fits}

pub which_partitions : WhichPartitions
unfolding partition_of
which_partitions n s l =
    let g = geometry n s in
    taken_if _ (partition_fits g l) n s (
      λ e. let p = partition_of_lem g l e in (limits_rules g p.limits, p.whole),
      λ p. partition_fits_lem g l (record { limits = rules_limits g p.0; whole = p.1 }),
    )

pub which_fit : WhichFit
which_fit n s f =
    let g = geometry n s in (
      λ e. let p = shaped_of g f e in record { rules = limits_rules g p.limits; boot = p.boot; update = p.update; swap = p.swap },
      λ p. shaped_fits g f (record { limits = rules_limits g p.rules; boot = p.boot; update = p.update; swap = p.swap }),
    )

pub which_flashes : WhichFlashes
unfolding flash_of
which_flashes n s f = taken_if (LentRight n s f) (fits (geometry n s) f) n s (which_fit n s f)
