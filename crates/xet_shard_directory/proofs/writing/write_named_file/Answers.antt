use Rattle.std.proofs.Common.{◌∙◌, ℕ, List, subst}
use Rattle.xet_shard_directory.proofs.Written.{wrote_value}
use Rattle.xet_shard_directory.specs.Writing.{OthersStay}
use Rattle.xet_shard_file.specs.Puts.{IsDone}
use Rattle.xet_shard_directory.proofs.writing.write_named_file.Goals as goal

pub returns-clause-written : goal.returns-clause-written
returns-clause-written g c = λ told target named.
    let old = g.D.Disk.files c.args.disk.now in
    let files = g.D.Disk.files c.put_through.new.disk in
    let put = c.in_ok-put_through.ensures in
    let value = c.value_of.ensures in
    rw value.frame.same (wrote_value old files target c.args.bytes.now c.args.hash c.args.path c.args.shard c.value_of.result c.requires.hash named
    (subst (λ (p : List ℕ). IsDone files p c.args.bytes.now) c.as_str.ensures (record { there = put.there told; durable = put.durable told; temp = put.temp told }))
    (subst (OthersStay old files) c.as_str.ensures (put.others told))
    (λ f there. value.time (put.frame.tells ∙ told) f there) value.value c.requires.shard)
