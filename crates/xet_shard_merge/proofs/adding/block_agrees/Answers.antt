use Rattle.std.proofs.Common.{◌≡◌, ◌∙◌, ℕ, Bor, List, None, Some, ap, option_map, refl, sym}
use Rattle.xet_shard.specs.Held.{record_of}
use Rattle.xet_shard_format.specs.Records.{xorb_record_hash}
use Rattle.xet_shard_format.specs.declared.record.MDBXorbInfo.{MDBXorbInfo}
use Rattle.xet_shard_merge.proofs.EachOnce.{agrees_equal, agrees_missing, equal_agreed}
use Rattle.xet_shard_merge.proofs.adding.block_agrees.Goals as goal

pub returns-in-Some : goal.returns-in-Some
returns-in-Some c =
    let found : record_of xorb_record_hash (xorb_record_hash c.args.block.now) c.args.shard.now.blocks ≡ Some c.in-Some.other.now =
    ap (λ (h : List ℕ). record_of xorb_record_hash h c.args.shard.now.blocks) (sym c.hash.ensures) ∙ sym c.xorb_block.ensures ∙ ap (option_map (λ (b : Bor MDBXorbInfo). b.now)) c.in-Some.is in (
      λ yes. agrees_equal xorb_record_hash c.args.shard.now.blocks c.in-Some.other.now c.args.block.now c.recall_invariant.ensures.blocks_differ found (c.same.ensures.0 yes),
      λ agrees. c.same.ensures.1 (equal_agreed xorb_record_hash c.args.shard.now.blocks c.in-Some.other.now c.args.block.now found agrees),
    )

pub returns-in-None : goal.returns-in-None
returns-in-None c =
    let none : record_of xorb_record_hash (xorb_record_hash c.args.block.now) c.args.shard.now.blocks ≡ None =
    ap (λ (h : List ℕ). record_of xorb_record_hash h c.args.shard.now.blocks) (sym c.hash.ensures) ∙ sym c.xorb_block.ensures ∙ ap (option_map (λ (b : Bor MDBXorbInfo). b.now)) c.in-None.is in
    (λ _. agrees_missing xorb_record_hash c.args.shard.now.blocks c.args.block.now none, λ _. refl)
