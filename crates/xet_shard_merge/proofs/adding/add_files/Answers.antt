use Rattle.std.proofs.Common.{◌≡◌, ◌∙◌, ◌∷◌, [], List, length, ap, append-nil, arith, subst, sym}
use Rattle.std.proofs.lemmas.List.{nil_from_length}
use Rattle.std.specs.Vec.Iter.{into_iter_items}
use Rattle.xet_shard.specs.Held.{Held, held}
use Rattle.xet_shard_format.specs.Records.{IsFile, file_record_hash}
use Rattle.xet_shard_format.specs.declared.record.MDBFileInfo.{MDBFileInfo}
use Rattle.xet_shard_merge.specs.Groups.{both}
use Rattle.xet_shard_merge.specs.internal.Grouping.{AreOwn}
use Rattle.xet_shard_merge.proofs.EachOnce.{both_cons}
use Rattle.xet_shard_merge.proofs.adding.add_files.Goals as goal

pub loop-file-preserved : goal.loop-file-preserved
loop-file-preserved c =
    let at = c.loop-file in
    let rest : List MDBFileInfo = into_iter_items c.next.new.self in
    let steps : into_iter_items at.file-iterator ≡ c.in-Some.file ∷ rest = c.in-Some.ensures.steps.0 in
    let own : AreOwn file_record_hash IsFile (c.in-Some.file ∷ rest) = subst (AreOwn file_record_hash IsFile) steps at.invariant.own in
    let added = c.in_ok-add_file.ensures.added in
    let long : length (into_iter_items at.file-iterator) ≡ length (c.in-Some.file ∷ rest) = ap length steps in
    record {
      so_far = ap (λ (s : Held). both file_record_hash s.files rest) added ∙ both_cons file_record_hash at.shard.files c.in-Some.file rest own.differ
          ∙ sym (ap (both file_record_hash at.shard.files) steps) ∙ at.invariant.so_far;
      others = ap (λ (s : Held). s.blocks) added ∙ at.invariant.others;
      own = record { each = own.each.1; differ = own.differ.1 };
      counted = omega (arith, c.in-Some.ensures.steps.1, at.invariant.counted, long);
    }

pub add_file-requires-clause-form : goal.add_file-requires-clause-form
add_file-requires-clause-form c =
    let own = subst (AreOwn file_record_hash IsFile) c.in-Some.ensures.steps.0 c.loop-file.invariant.own in
    own.each.0.1

pub add_file-requires-clause-hash : goal.add_file-requires-clause-hash
add_file-requires-clause-hash c =
    let own = subst (AreOwn file_record_hash IsFile) c.in-Some.ensures.steps.0 c.loop-file.invariant.own in
    own.each.0.0

pub returns-clause-added : goal.returns-clause-added
returns-clause-added c =
    let at = c.loop-file in
    let empty : into_iter_items at.file-iterator ≡ [] = nil_from_length (into_iter_items at.file-iterator) (sym at.invariant.counted ∙ c.in-None.ensures.steps.0) in
    let whole : at.shard.files ≡ both file_record_hash c.args.shard.now.files c.args.files.items =
    sym (append-nil at.shard.files) ∙ sym (ap (both file_record_hash at.shard.files) empty) ∙ at.invariant.so_far in
    λ j. held (c.loop-file.invariant.others j) (whole j)
