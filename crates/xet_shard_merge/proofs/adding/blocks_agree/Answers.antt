use Rattle.std.proofs.Common.{◌≡◌, refl}
use Rattle.xet_shard_format.specs.Records.{xorb_record_hash}
use Rattle.xet_shard_format.specs.declared.record.MDBXorbInfo.{MDBXorbInfo}
use Rattle.xet_shard_merge.specs.internal.Grouping.{IsSameIf}
use Rattle.xet_shard_merge.proofs.EachOnce.{all_none, all_one, all_swap, one_left}
use Rattle.xet_shard_merge.proofs.adding.blocks_agree.Goals as goal

pub loop-block-preserved : goal.loop-block-preserved
loop-block-preserved c =
    let P : MDBXorbInfo → Type 0 = IsSameIf xorb_record_hash c.args.shard.now.blocks in
    record {
      so_far = all_one P c.args.blocks.now c.loop-block.block-index c.block-item.result c.loop-block-test.true c.block-item.is (c.if-not-block_agrees.ensures.0 refl) c.loop-block.invariant.so_far;
      others = λ all. (one_left P c.args.blocks.now c.loop-block.block-index c.block-item.result c.loop-block-test.true c.block-item.is (c.loop-block.invariant.others all)).1;
    }

pub returns-clause-yes : goal.returns-clause-yes
returns-clause-yes c = λ _.
    let P : MDBXorbInfo → Type 0 = IsSameIf xorb_record_hash c.args.shard.now.blocks in
    all_swap (λ (x y : MDBXorbInfo). xorb_record_hash x ≡ xorb_record_hash y → x ≡ y) c.args.shard.now.blocks c.args.blocks.now
    (c.loop-block.invariant.so_far (all_none P c.args.blocks.now c.loop-block.block-index c.loop-block-test.false))
