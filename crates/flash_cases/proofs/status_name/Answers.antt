-- What was taken is a partition of that geometry.
use Rattle.flash.proofs.Answers.{partition_given}
use Rattle.flash_cases.proofs.status_name.Goals as goal

pub read_status-requires : goal.read_status-requires
read_status-requires g c = partition_given c.args.n c.args.size c.args.s.now _ c.in-Some.ensures
