use Rattle.std.proofs.Common.{◌<◌, ◌^◌, List, arith, length, nat_eq, sym, subst}
use Rattle.std.specs.Cmp.Lexicographic.{pointwise}
use Rattle.indexmap.specs.IndexMap.{values}
use Rattle.xet_shard_format.specs.declared.record.MDBXorbInfo.{MDBXorbInfo}
use Rattle.xet_shard.specs.Held.{Held, IsHeld, held, with_last}
use Rattle.xet_shard_format.specs.RecordSizes.{xorb_record_size}
use Rattle.xet_shard_format.specs.Records.{xorb_record_hash, xorb_section}
use Rattle.xet_shard.proofs.Holding.{held_with_block}
use Rattle.xet_shard.proofs.Sizes.{few_bytes, part_le, sum_last}
use Rattle.xet_shard.proofs.in_memory.MDBInMemoryShard.add_xorb_block.Goals as goal

pub overflow_sub-self : goal.overflow_sub-self
overflow_sub-self c = omega (arith, c.self.invariant.4, c.size_at-replaced.ensures, part_le xorb_record_size (pointwise nat_eq c.hash.result) c.self.inside.blocks.entries)

pub overflow_add-self : goal.overflow_add-self
overflow_add-self c =
    let last = sum_last xorb_record_size xorb_record_hash c.self.inside.blocks.entries c.args.block c.hash.result c.hash.ensures c.self.invariant.0 c.self.invariant.2.blocks_differ in
    let room = few_bytes (with_last xorb_record_hash (values c.self.inside.blocks) c.args.block) (values c.self.inside.files)
    (subst (λ (h : Held). length (xorb_section (with_last xorb_record_hash h.blocks c.args.block)) < 2 ^ 32) (sym c.self.view_is) c.requires.few) c.self.invariant.2.few_files in
    omega (arith, c.self.invariant.4, c.size_at-replaced.ensures, c.num_bytes-added.ensures, last, part_le xorb_record_size (pointwise nat_eq c.hash.result) c.self.inside.blocks.entries, room)

pub invariant_of-self-2 : goal.invariant_of-self-2
invariant_of-self-2 c =
    let few : length (xorb_section (with_last xorb_record_hash (values c.self.inside.blocks) c.args.block)) < 2 ^ 32 = subst (λ (h : Held). length (xorb_section (with_last xorb_record_hash h.blocks c.args.block)) < 2 ^ 32) (sym c.self.view_is) c.requires.few in
    let last = sum_last xorb_record_size xorb_record_hash c.self.inside.blocks.entries c.args.block c.hash.result c.hash.ensures c.self.invariant.0 c.self.invariant.2.blocks_differ in (
      c.put_block.ensures.keyed,
      c.self.invariant.1,
      subst (λ (blocks : List MDBXorbInfo). IsHeld (held blocks (values c.self.inside.files))) (sym c.in_ok-put_block.ensures.put)
          (held_with_block (held (values c.self.inside.blocks) (values c.self.inside.files)) c.args.block c.self.invariant.2 c.requires.form c.requires.hash few),
      c.put_block.ensures.places,
      rw c.in_ok-put_block.ensures.put (omega (arith, c.self.invariant.4, c.size_at-replaced.ensures, c.num_bytes-added.ensures, last, part_le xorb_record_size (pointwise nat_eq c.hash.result) c.self.inside.blocks.entries)),
    )
