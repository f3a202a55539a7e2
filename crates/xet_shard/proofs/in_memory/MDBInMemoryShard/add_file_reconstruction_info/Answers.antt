use Rattle.std.proofs.Common.{◌<◌, ◌^◌, List, arith, length, nat_eq, sym, subst}
use Rattle.std.specs.Cmp.Lexicographic.{pointwise}
use Rattle.indexmap.specs.IndexMap.{values}
use Rattle.xet_shard_format.specs.declared.record.MDBFileInfo.{MDBFileInfo}
use Rattle.xet_shard.specs.Held.{Held, IsHeld, held, with_last}
use Rattle.xet_shard_format.specs.RecordSizes.{file_record_size}
use Rattle.xet_shard_format.specs.Records.{file_record_hash, file_section}
use Rattle.xet_shard.proofs.Holding.{held_with_file}
use Rattle.xet_shard.proofs.Sizes.{few_bytes, part_le, sum_last}
use Rattle.xet_shard.proofs.in_memory.MDBInMemoryShard.add_file_reconstruction_info.Goals as goal

pub overflow_sub-self : goal.overflow_sub-self
overflow_sub-self c = omega (arith, c.self.invariant.4, c.size_at-replaced.ensures, part_le file_record_size (pointwise nat_eq c.hash.result) c.self.inside.files.entries)

pub overflow_add-self : goal.overflow_add-self
overflow_add-self c =
    let last = sum_last file_record_size file_record_hash c.self.inside.files.entries c.args.file c.hash.result c.hash.ensures c.self.invariant.1 c.self.invariant.2.files_differ in
    let room = few_bytes (values c.self.inside.blocks) (with_last file_record_hash (values c.self.inside.files) c.args.file) c.self.invariant.2.few_blocks
    (subst (λ (h : Held). length (file_section (with_last file_record_hash h.files c.args.file)) < 2 ^ 32) (sym c.self.view_is) c.requires.few) in
    omega (arith, c.self.invariant.4, c.size_at-replaced.ensures, c.num_bytes-added.ensures, last, part_le file_record_size (pointwise nat_eq c.hash.result) c.self.inside.files.entries, room)

pub invariant_of-self-2 : goal.invariant_of-self-2
invariant_of-self-2 c =
    let few : length (file_section (with_last file_record_hash (values c.self.inside.files) c.args.file)) < 2 ^ 32 = subst (λ (h : Held). length (file_section (with_last file_record_hash h.files c.args.file)) < 2 ^ 32) (sym c.self.view_is) c.requires.few in
    let last = sum_last file_record_size file_record_hash c.self.inside.files.entries c.args.file c.hash.result c.hash.ensures c.self.invariant.1 c.self.invariant.2.files_differ in (
      c.self.invariant.0,
      c.put_last.ensures.keyed,
      subst (λ (files : List MDBFileInfo). IsHeld (held (values c.self.inside.blocks) files)) (sym c.in_ok-put_last.ensures.put)
          (held_with_file (held (values c.self.inside.blocks) (values c.self.inside.files)) c.args.file c.self.invariant.2 c.requires.form c.requires.hash few),
      c.self.invariant.3,
      rw c.in_ok-put_last.ensures.put (omega (arith, c.self.invariant.4, c.size_at-replaced.ensures, c.num_bytes-added.ensures, last, part_le file_record_size (pointwise nat_eq c.hash.result) c.self.inside.files.entries)),
    )
