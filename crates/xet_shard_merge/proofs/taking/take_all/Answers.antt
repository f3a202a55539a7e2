use Rattle.std.proofs.Common.{◌≡◌, ◌∙◌, ◌∷◌, [], Err, List, length, map, ap, arith, refl, subst, sym}
use Rattle.std.proofs.lemmas.List.{nil_from_length}
use Rattle.std.proofs.lemmas.List.Elements.{All-head, All-tail}
use Rattle.std.proofs.lemmas.Result.{IfErr-weaker}
use Rattle.std.specs.List.{All, Any}
use Rattle.std.specs.Vec.Iter.{into_iter_items}
use Rattle.xet_codec.specs.Stops.{HasDiskReason}
use Rattle.xet_shard_directory.specs.declared.shard_file.MDBShardFile.{MDBShardFile}
use Rattle.xet_shard_merge.specs.internal.Keeping.{IsIntact}
use Rattle.xet_shard_merge.specs.internal.Progressing.{IsUnmergedOf, Went, offered_of}
use Rattle.xet_shard_merge.proofs.Offering.{any_later, disk_unmerged, ended, one_unmerged}
use Rattle.xet_shard_merge.proofs.Stepping.{open_later, preserves_itself, preserves_then}
use Rattle.xet_shard_merge.proofs.Due.{end_writes}
use Rattle.xet_shard_merge.proofs.taking.take_all.Goals as goal

pub loop-shard-init : goal.loop-shard-init
loop-shard-init g c =
    let is : into_iter_items c.into_iter-shard-iterator.result ≡ c.args.shards.items = c.into_iter-shard-iterator.ensures.into_iter_gives.0 in
    let files = g.D.Disk.files c.args.disk.now in
    record {
      tells = refl;
      later = omega arith;
      keeps = λ _. preserves_itself files;
      counted = omega (arith, c.into_iter-shard-iterator.ensures.into_iter_gives.1, ap length is, c.args.shards.ok.0);
      among = λ start e any. subst (λ (l : List MDBShardFile). Any (λ o. o.records ≡ Err e) (map (offered_of start) l)) is any;
      went = λ _ start all intact w. (
        subst (λ (l : List MDBShardFile). Went start files c.args.target.now c.args.limit c.args.skip_on_error all (map (offered_of start) l) c.args.progress.now) (sym is) w,
        subst (All (IsIntact start)) (sym is) intact,
      );
    }

pub loop-shard-preserved : goal.loop-shard-preserved
loop-shard-preserved g c =
    let at = c.loop-shard in
    let files = g.D.Disk.files in
    let rest : List MDBShardFile = into_iter_items c.next.new.self in
    let steps : into_iter_items at.shard-iterator ≡ c.in-Some.shard ∷ rest = c.in-Some.ensures.steps.0 in
    let long : length (into_iter_items at.shard-iterator) ≡ length (c.in-Some.shard ∷ rest) = ap length steps in
    let frame = c.take_next.ensures.frame in
    record {
      tells = frame.tells ∙ at.invariant.tells;
      later = omega (arith, frame.later, at.invariant.later);
      keeps = λ tells. preserves_then (files c.args.disk.now) (files at.disk) (files c.take_next.new.disk) (at.invariant.keeps tells) (c.take_next.ensures.keeps (at.invariant.tells ∙ tells));
      counted = omega (arith, c.in-Some.ensures.steps.1, at.invariant.counted, long);
      among = λ start e any.
          at.invariant.among start e (subst (λ (l : List MDBShardFile). Any (λ o. o.records ≡ Err e) (map (offered_of start) l)) (sym steps) (any_later (λ o. o.records ≡ Err e) (offered_of start c.in-Some.shard) (map (offered_of start) rest) any));
      went = λ tells start all intact w.
          let h = at.invariant.went tells start all intact w in
          let whole = subst (All (IsIntact start)) steps h.1 in (
            c.in_default.ensures.went (at.invariant.tells ∙ tells) start all (map (offered_of start) rest) (All-head (IsIntact start) c.in-Some.shard rest whole)
                (subst (λ (l : List MDBShardFile). Went start (files at.disk) c.args.target.now c.args.limit c.args.skip_on_error all (map (offered_of start) l) at.progress) steps h.0),
            All-tail (IsIntact start) c.in-Some.shard rest whole,
          );
    }

pub returns-in-Err-clause-refused : goal.returns-in-Err-clause-refused
returns-in-Err-clause-refused g c = λ tells start all intact w.
    let at = c.loop-shard in
    let rest : List MDBShardFile = into_iter_items c.next.new.self in
    let steps : into_iter_items at.shard-iterator ≡ c.in-Some.shard ∷ rest = c.in-Some.ensures.steps.0 in
    let h = at.invariant.went tells start all intact w in
    let whole = subst (All (IsIntact start)) steps h.1 in
    one_unmerged c.args.skip_on_error (offered_of start c.in-Some.shard) (map (offered_of start) rest) (map (offered_of start) c.args.shards.items) c.in-Err.error
    (λ e any. at.invariant.among start e (subst (λ (l : List MDBShardFile). Any (λ o. o.records ≡ Err e) (map (offered_of start) l)) (sym steps) any))
    (c.in-Err.ensures.refused (at.invariant.tells ∙ tells) start (All-head (IsIntact start) c.in-Some.shard rest whole) h.0.keeps h.0.intact)

pub returns-clause-ended : goal.returns-clause-ended
returns-clause-ended g c = λ tells start all intact w.
    let at = c.loop-shard in
    let files = g.D.Disk.files in
    let empty : into_iter_items at.shard-iterator ≡ [] = nil_from_length (into_iter_items at.shard-iterator) (sym at.invariant.counted ∙ c.in-None.ensures.steps.0) in
    let h = at.invariant.went tells start all intact w in
    ended start (files at.disk) (files c.close.new.disk) c.args.target.now c.args.limit c.args.skip_on_error all at.progress c.close.new.self c.close.result
    (c.close.ensures.closed (at.invariant.tells ∙ tells)) (c.close.ensures.keeps (at.invariant.tells ∙ tells))
    (subst (λ (l : List MDBShardFile). Went start (files at.disk) c.args.target.now c.args.limit c.args.skip_on_error all (map (offered_of start) l) at.progress) empty h.0)

pub returns-clause-refused : goal.returns-clause-refused
returns-clause-refused g c = λ tells start all intact w.
    let at = c.loop-shard in
    let files = g.D.Disk.files in
    let faults = g.D.Disk.faults in
    let h = at.invariant.went tells start all intact w in
    let os = map (offered_of start) c.args.shards.items in
    IfErr-weaker c.close.result (HasDiskReason (faults at.disk) (faults c.close.new.disk)) (IsUnmergedOf c.args.skip_on_error os) (disk_unmerged c.args.skip_on_error os _ _)
    (c.close.ensures.intact (at.invariant.tells ∙ tells) (open_later start (files at.disk) h.0.keeps at.progress.open h.0.intact))

pub returns-clause-keeps : goal.returns-clause-keeps
returns-clause-keeps g c = λ tells.
    let at = c.loop-shard in
    let files = g.D.Disk.files in
    preserves_then (files c.args.disk.now) (files at.disk) (files c.close.new.disk) (at.invariant.keeps tells) (c.close.ensures.keeps (at.invariant.tells ∙ tells))

pub returns-in-Err-clause-keeps : goal.returns-in-Err-clause-keeps
returns-in-Err-clause-keeps g c = λ tells.
    let at = c.loop-shard in
    let files = g.D.Disk.files in
    preserves_then (files c.args.disk.now) (files at.disk) (files c.take_next.new.disk) (at.invariant.keeps tells) (c.take_next.ensures.keeps (at.invariant.tells ∙ tells))

pub returns-in-Err-clause-writes : goal.returns-in-Err-clause-writes
returns-in-Err-clause-writes g c = λ tells start all intact w.
    let at = c.loop-shard in
    let files = g.D.Disk.files in
    let rest : List MDBShardFile = into_iter_items c.next.new.self in
    let steps : into_iter_items at.shard-iterator ≡ c.in-Some.shard ∷ rest = c.in-Some.ensures.steps.0 in
    let h = at.invariant.went tells start all intact w in
    let whole = subst (All (IsIntact start)) steps h.1 in
    c.take_next.ensures.writes (at.invariant.tells ∙ tells) start all (map (offered_of start) rest) (All-head (IsIntact start) c.in-Some.shard rest whole)
    (subst (λ (l : List MDBShardFile). Went start (files at.disk) c.args.target.now c.args.limit c.args.skip_on_error all (map (offered_of start) l) at.progress) steps h.0)

pub returns-clause-writes : goal.returns-clause-writes
returns-clause-writes g c = λ tells start all intact w.
    let at = c.loop-shard in
    let files = g.D.Disk.files in
    let empty : into_iter_items at.shard-iterator ≡ [] = nil_from_length (into_iter_items at.shard-iterator) (sym at.invariant.counted ∙ c.in-None.ensures.steps.0) in
    let h = at.invariant.went tells start all intact w in
    end_writes start (files at.disk) (files c.close.new.disk) c.args.target.now c.args.limit c.args.skip_on_error all at.progress
    (subst (λ (l : List MDBShardFile). Went start (files at.disk) c.args.target.now c.args.limit c.args.skip_on_error all (map (offered_of start) l) at.progress) empty h.0)
    (c.close.ensures.writes (at.invariant.tells ∙ tells))
