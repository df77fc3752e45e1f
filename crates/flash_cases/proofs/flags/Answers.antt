-- What was taken is a partition of that geometry.
use Rattle.flash.proofs.Answers.{partition_given}
use Rattle.flash_cases.proofs.flags.Goals as goal

pub read_flags-requires : goal.read_flags-requires
read_flags-requires g c = partition_given c.args.n c.args.size c.args.update.now _ c.in-Some.ensures
