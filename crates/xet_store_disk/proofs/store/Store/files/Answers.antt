use Rattle.std.proofs.Common.{◌≡◌, ◌∙◌, ◌<◌, ◌^◌, ◌++◌, ℕ, List, map, sym, ap, subst}
use Rattle.std.specs.List.{AllByRecursion}
use Rattle.std.specs.Map.Iter.{deref_pair}
use Rattle.std.proofs.lemmas.Map.Iter.{iter_end, rest_more, rest_so_far}
use Rattle.xet_shard_format.specs.declared.record.FileDataSequenceEntry.{FileDataSequenceEntry as Segment}
use Rattle.xet_shard_format.specs.declared.record.MDBFileInfo.{MDBFileInfo}
use Rattle.xet_folder.specs.Plan.{plan_bytes}
use Rattle.xet_folder.specs.Contents.{IsRecord}
use Rattle.xet_folder.specs.Xorbs.{FileRecords}
use Rattle.xet_store_disk.specs.Store.{Differ, recorded_files}
use Rattle.xet_store_disk.proofs.Differing.{differ_by}
use Rattle.xet_store_disk.specs.theorems.Plans.{record_bytes}
use Rattle.xet_store_disk.proofs.Rows.{all_at}
use Rattle.xet_store_disk.proofs.store.Store.files.Goals as goal

pub length-requires : goal.length-requires
length-requires g c =
    let xorbs = c.self.inside.xorbs.entries in
    let before : FileRecords = map deref_pair c.loop-hash.yielded in
    let entry : List ℕ × MDBFileInfo = (c.in-Some.hash.now, c.in-Some.record.now) in
    let whole = sym c.into_iter-hash-iterator.ensures.into_iter_gives.0 ∙ rest_so_far deref_pair _ _ _ c.loop-hash.yielded_by
    ∙ ap (λ (t : FileRecords). before ++ t) (rest_more deref_pair _ _ _ _ c.in-Some.is c.next.ensures.steps) in
    let rows = subst (λ (es : FileRecords). AllByRecursion (IsRecord xorbs) es) whole c.self.invariant.recorded in
    subst (λ (plan : List Segment). plan_bytes plan < 2 ^ 64) (sym c.plan.ensures) (record_bytes xorbs entry (all_at (IsRecord xorbs) before entry _ rows))

pub returns-clause-differ : goal.returns-clause-differ
returns-clause-differ g c =
    let all : map deref_pair c.loop-hash.yielded ≡ c.self.inside.records.entries =
    (iter_end deref_pair _ c.loop-hash.yielded _ _ _ _ c.into_iter-hash-iterator.ensures.into_iter_gives.0 c.loop-hash.yielded_by c.in-None.is c.next.ensures.steps).0 in
    subst (λ (files : List (List ℕ × ℕ)). Differ files) (sym (c.loop-hash.invariant ∙ ap recorded_files all))
    (differ_by (λ (f : MDBFileInfo). plan_bytes f.segments) c.self.inside.records.entries c.self.invariant.records_differ)
