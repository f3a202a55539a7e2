use Rattle.std.proofs.Common.{◌∙◌, Bor, map, ap, subst}
use Rattle.indexmap.specs.IndexMap.{values}
use Rattle.xet_shard_format.specs.declared.record.MDBFileInfo.{MDBFileInfo}
use Rattle.xet_shard_format.specs.declared.record.MDBXorbInfo.{MDBXorbInfo}
use Rattle.xet_shard.specs.Held.{Held, held, held_shard}
use Rattle.xet_shard_format.specs.Encoding.{IsShard}
use Rattle.xet_shard.proofs.Rising.{few_files_sorted, few_blocks_sorted, is_shard, on_ok}
use Rattle.xet_shard.proofs.in_memory.MDBInMemoryShard.shard_bytes.Goals as goal

pub write_shard-requires-clause-few_files : goal.write_shard-requires-clause-few_files
write_shard-requires-clause-few_files c =
    let now : Bor MDBFileInfo → MDBFileInfo = λ f. f.now in
    few_files_sorted _ (map now c.deref-2.result.now) (ap (map now) c.deref-2.ensures.value ∙ c.in_ok-files.ensures) c.self.invariant.2.few_files

pub write_shard-requires-clause-few_blocks : goal.write_shard-requires-clause-few_blocks
write_shard-requires-clause-few_blocks c =
    let now : Bor MDBXorbInfo → MDBXorbInfo = λ x. x.now in
    few_blocks_sorted _ (map now c.deref.result.now) (ap (map now) c.deref.ensures.value ∙ c.in_ok-blocks.ensures) c.self.invariant.2.few_blocks

pub returns-clause-shard : goal.returns-clause-shard
returns-clause-shard c =
    on_ok c.write_shard.result
    (subst (λ (h : Held). IsShard (held_shard h c.args.creation c.args.expiry)) c.self.view_is
    (is_shard (held (values c.self.inside.blocks) (values c.self.inside.files)) c.args.creation c.args.expiry c.self.invariant.2))
