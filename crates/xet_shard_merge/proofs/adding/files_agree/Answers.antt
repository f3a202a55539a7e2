use Rattle.std.proofs.Common.{◌≡◌, refl}
use Rattle.xet_shard_format.specs.Records.{file_record_hash}
use Rattle.xet_shard_format.specs.declared.record.MDBFileInfo.{MDBFileInfo}
use Rattle.xet_shard_merge.specs.internal.Grouping.{IsSameIf}
use Rattle.xet_shard_merge.proofs.EachOnce.{all_none, all_one, all_swap, one_left}
use Rattle.xet_shard_merge.proofs.adding.files_agree.Goals as goal

pub loop-file-preserved : goal.loop-file-preserved
loop-file-preserved c =
    let P : MDBFileInfo → Type 0 = IsSameIf file_record_hash c.args.shard.now.files in
    record {
      so_far = all_one P c.args.files.now c.loop-file.file-index c.file-item.result c.loop-file-test.true c.file-item.is (c.if-not-file_agrees.ensures.0 refl) c.loop-file.invariant.so_far;
      others = λ all. (one_left P c.args.files.now c.loop-file.file-index c.file-item.result c.loop-file-test.true c.file-item.is (c.loop-file.invariant.others all)).1;
    }

pub returns-clause-yes : goal.returns-clause-yes
returns-clause-yes c = λ _.
    let P : MDBFileInfo → Type 0 = IsSameIf file_record_hash c.args.shard.now.files in
    all_swap (λ (x y : MDBFileInfo). file_record_hash x ≡ file_record_hash y → x ≡ y) c.args.shard.now.files c.args.files.now
    (c.loop-file.invariant.so_far (all_none P c.args.files.now c.loop-file.file-index c.loop-file-test.false))
