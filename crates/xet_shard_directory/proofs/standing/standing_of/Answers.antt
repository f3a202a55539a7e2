use Rattle.std.proofs.Common.{◌∙◌, sym}
use Rattle.xet_io.specs.Disk.{file_at}
use Rattle.xet_shard_directory.proofs.Comparing.{of_other_length}
use Rattle.xet_shard_directory.proofs.standing.standing_of.Goals as goal

pub returns-in-Ok-Some-clause-found : goal.returns-in-Ok-Some-clause-found
returns-in-Ok-Some-clause-found g c told =
    let s = c.in-Ok-Some in
    of_other_length (file_at (g.D.Disk.files c.args.disk.now) c.args.path.now) (s.length, s.field-0-0-1) c.args.bytes.now (sym s.field-0-is ∙ s.ensures.told told) c.if-length-bytes.true
