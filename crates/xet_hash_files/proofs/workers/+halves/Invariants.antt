use Rattle.std.proofs.Common.{◌+◌, ◌-◌, ◌*◌}
use Rattle.xet_hash_files.proofs.workers.+halves.Given as goal

abbrev pub decreases-hash_divided : goal.decreases-hash_divided
decreases-hash_divided g l = 4 * l.workers

abbrev pub decreases-hash_both : goal.decreases-hash_both
decreases-hash_both g l = 4 * (l.low + l.high) - 1

abbrev pub decreases-hash_both-lower : goal.decreases-hash_both-lower
decreases-hash_both-lower g l = 4 * l.low + 1

abbrev pub decreases-hash_both-upper : goal.decreases-hash_both-upper
decreases-hash_both-upper g l = 4 * l.high + 1
