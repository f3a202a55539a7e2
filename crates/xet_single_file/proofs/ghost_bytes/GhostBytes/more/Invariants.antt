use Rattle.std.proofs.Common.{◌++◌}
use Rattle.xet_single_file.proofs.ghost_bytes.GhostBytes.more.Given as goal

abbrev pub ghost-of : goal.ghost-of
ghost-of a = a.before.now.value ++ a.more.now.now
