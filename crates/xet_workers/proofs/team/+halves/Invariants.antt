use Rattle.std.proofs.Common.{◌+◌, ◌-◌, ◌*◌, length}
use Rattle.xet_workers.proofs.team.+halves.Given as goal

abbrev pub decreases-work_shared : goal.decreases-work_shared
decreases-work_shared g l = 4 * length l.seats.now

abbrev pub decreases-work_both : goal.decreases-work_both
decreases-work_both g l = 4 * (length l.low.now + length l.up.now) - 1

abbrev pub decreases-work_both-lower : goal.decreases-work_both-lower
decreases-work_both-lower g l = 4 * length l.low.now + 1

abbrev pub decreases-work_both-upper : goal.decreases-work_both-upper
decreases-work_both-upper g l = 4 * length l.up.now + 1
