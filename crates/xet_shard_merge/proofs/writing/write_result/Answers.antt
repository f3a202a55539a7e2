use Rattle.std.proofs.Common.{[], subst}
use Rattle.std.proofs.lemmas.List.Elements.{All-head}
use Rattle.std.specs.List.{All}
use Rattle.xet_shard_directory.specs.declared.shard_file.MDBShardFile.{MDBShardFile}
use Rattle.xet_shard_merge.specs.Merging.{IsDue}
use Rattle.xet_shard_merge.specs.internal.Keeping.{IsCopyDue, IsIntact}
use Rattle.xet_shard_merge.proofs.Placing.{copy_is_due, writes_also}
use Rattle.xet_shard_merge.proofs.writing.write_result.Goals as goal

pub returns-in-Some-clause-intact : goal.returns-in-Some-clause-intact
returns-in-Some-clause-intact g c = λ tells all.
    let P : MDBShardFile → Type 0 = IsIntact (g.D.Disk.files c.args.disk.now) in
    c.write_copy.ensures.intact tells (All-head P c.in-Some.shard.now [] (subst (All P) c.in-Some.ensures all))

pub returns-in-Some-clause-writes : goal.returns-in-Some-clause-writes
returns-in-Some-clause-writes g c = λ tells.
    let files = g.D.Disk.files in
    let old = files c.args.disk.now in
    writes_also old (files c.write_copy.new.disk) c.args.target.now (IsCopyDue old c.args.target.now c.in-Some.shard.now) (IsDue old c.args.target.now c.args.group.now)
    (copy_is_due old c.args.target.now c.args.group.now c.in-Some.shard.now c.in-Some.ensures) (c.write_copy.ensures.writes tells)
