use Rattle.std.proofs.Common.{[]}
use Rattle.xet_single_file.proofs.ghost_bytes.GhostBytes.new.Given as goal

abbrev pub ghost-of : goal.ghost-of
ghost-of a = []
