use Rattle.std.proofs.Common.{ap, arith}
use Rattle.xet_choices.specs.Choices.{hashes_of}
use Rattle.xet_dedup.proofs.Counting.{total_len_small}
use Rattle.xet_dedup.proofs.LastBlock.{aggregate_of_plan}
use Rattle.xet_dedup.specs.Deduping.{open_indices}
use Rattle.xet_dedup.specs.Records.{file_record}
use Rattle.xet_hash.specs.Merkle.{total_len}
use Rattle.xet_xorb_chunk.specs.Chunks.{total}
use Rattle.xet_dedup.proofs.deduper.FileDeduper.finalize.Goals as goal

pub finished-requires : goal.finished-requires
finished-requires g c =
    let p = c.args.self.plan in
    let known = c.recall_invariant.ensures in
    let parts = c.into_parts-parts.ensures in
    record {
      bytes = omega (arith, ap total_len parts.leaves, total_len_small p.leaves c.requires.plan.small, known.few);
      block = omega (arith, ap total parts.block, known.block.bytes, known.range.cut_bytes_to);
    }

pub returns-in-Ok-clause-aggregate : goal.returns-in-Ok-clause-aggregate
returns-in-Ok-clause-aggregate g c =
    let p = c.args.self.plan in
    let i = c.args.self.interface in
    let d = g.I.DeduplicationDataInterface in
    let known = c.recall_invariant.ensures in
    let parts = c.into_parts-parts.ensures in
    let made = c.into_parts-parts.result in
    aggregate_of_plan (d.lists i) (d.stands i) p.block p.settings _ made.block.items (file_record made.leaves.items made.segments.items _) (open_indices made.segments.items) c.args.self.file_id
    p.segments (hashes_of p.leaves) known.range known.block.bytes known.block.count known.block.small c.requires.plan.plan.plan.placed parts.block parts.segments c.in-Ok.ensures.rest
