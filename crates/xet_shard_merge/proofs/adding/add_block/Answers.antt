use Rattle.std.proofs.Common.{◌≡◌, ◌∙◌, ◌+◌, ◌*◌, ◌^◌, ◌<◌, ℕ, List, None, OnOk, length, ap, sym, subst, arith}
use Rattle.xet_shard.specs.Held.{held, held_size, record_of}
use Rattle.xet_shard_format.specs.Records.{xorb_record_hash}
use Rattle.xet_shard_format.specs.declared.record.MDBXorbInfo.{MDBXorbInfo}
use Rattle.xet_shard_merge.proofs.EachOnce.{both_new, few_with_block, none_of}
use Rattle.xet_shard_merge.proofs.adding.add_block.Goals as goal

pub add_xorb_block-requires-clause-few : goal.add_xorb_block-requires-clause-few
add_xorb_block-requires-clause-few c =
    let none : record_of xorb_record_hash (xorb_record_hash c.args.block) c.args.shard.now.blocks ≡ None =
    ap (λ (h : List ℕ). record_of xorb_record_hash h c.args.shard.now.blocks) (sym c.hash.ensures) ∙ none_of c.xorb_block.result _ (sym c.if-is_some.false ∙ c.is_some.ensures) c.xorb_block.ensures in
    let room : held_size c.args.shard.now + 48 * length c.args.block.chunks < 48 * 2 ^ 32 =
    omega (arith, c.if-saturating_add-ge-MAX_SIZE.false, c.saturating_add.ensures, c.saturating_mul.ensures, c.shard_file_size.ensures, ap length c.as_slice.ensures) in
    few_with_block c.args.shard.now c.args.block none room

pub returns-clause-added : goal.returns-clause-added
returns-clause-added c =
    let none : record_of xorb_record_hash (xorb_record_hash c.args.block) c.args.shard.now.blocks ≡ None =
    ap (λ (h : List ℕ). record_of xorb_record_hash h c.args.shard.now.blocks) (sym c.hash.ensures) ∙ none_of c.xorb_block.result _ (sym c.if-is_some.false ∙ c.is_some.ensures) c.xorb_block.ensures in
    subst (λ (bs : List MDBXorbInfo). OnOk c.add_xorb_block.result (c.add_xorb_block.new.self ≡ held bs c.args.shard.now.files)) (sym (both_new xorb_record_hash c.args.shard.now.blocks c.args.block none)) c.add_xorb_block.ensures.added
