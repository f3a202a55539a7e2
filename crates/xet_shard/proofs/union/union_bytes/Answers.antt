use Rattle.std.proofs.Common.{◌≡◌, ◌∙◌, ◌<◌, ◌^◌, Bor, List, None, ap, length, map, refl, subst, sym}
use Rattle.xet_shard_format.specs.declared.record.MDBFileInfo.{MDBFileInfo}
use Rattle.xet_shard_format.specs.declared.record.MDBXorbInfo.{MDBXorbInfo}
use Rattle.xet_shard.specs.Held.{never}
use Rattle.xet_shard_format.specs.Lookups.{all_lookups}
use Rattle.xet_shard.specs.internal.Merging.{Rises}
use Rattle.xet_shard_format.specs.Records.{IsFile, IsXorb, file_record_hash, file_rows, file_section, xorb_record_hash, xorb_rows, xorb_section}
use Rattle.xet_shard_format.specs.Encoding.{Fits, Shard, footer_of, full_shard_bytes, header, shard}
use Rattle.xet_shard.specs.Union.{Agree, ShardRecords, union, union_shard}
use Rattle.xet_shard.proofs.Merging.{records_rise}
use Rattle.xet_shard.proofs.Uniting.{union_few, union_is_shard}
use Rattle.xet_shard.proofs.union.union_bytes.Goals as goal

abbrev file_now : Bor MDBFileInfo → MDBFileInfo
file_now f = f.now

abbrev xorb_now : Bor MDBXorbInfo → MDBXorbInfo
xorb_now x = x.now

pub merge-requires-clause-ours : goal.merge-requires-clause-ours
merge-requires-clause-ours c = subst (Rises xorb_record_hash) (sym c.deref.ensures.value) (records_rise xorb_record_hash IsXorb None c.args.ours.now.0.items c.requires.ours.blocks)

pub merge-requires-clause-theirs : goal.merge-requires-clause-theirs
merge-requires-clause-theirs c = subst (Rises xorb_record_hash) (sym c.deref-2.ensures.value) (records_rise xorb_record_hash IsXorb None c.args.theirs.now.0.items c.requires.theirs.blocks)

pub merge-requires-2-clause-ours : goal.merge-requires-2-clause-ours
merge-requires-2-clause-ours c = subst (Rises file_record_hash) (sym c.deref-3.ensures.value) (records_rise file_record_hash IsFile None c.args.ours.now.1.items c.requires.ours.files)

pub merge-requires-2-clause-theirs : goal.merge-requires-2-clause-theirs
merge-requires-2-clause-theirs c = subst (Rises file_record_hash) (sym c.deref-4.ensures.value) (records_rise file_record_hash IsFile None c.args.theirs.now.1.items c.requires.theirs.files)

pub is_few-requires : goal.is_few-requires
is_few-requires c =
    let united : map file_now c.deref-5.result.now ≡ union file_record_hash c.args.ours.now.1.items c.args.theirs.now.1.items =
    ap (map file_now) c.deref-5.ensures.value ∙ c.in_ok-found.ensures.union ∙ (λ i. union file_record_hash (c.deref-3.ensures.value i) (c.deref-4.ensures.value i)) in
    union_few file_record_hash file_rows (2 ^ 32) c.args.ours.now.1.items c.args.theirs.now.1.items (map file_now c.deref-5.result.now) united c.requires.ours.few_files c.requires.theirs.few_files

pub is_few-requires-else-not-is_few : goal.is_few-requires-else-not-is_few
is_few-requires-else-not-is_few c =
    let united : map xorb_now c.deref-else-not-is_few.result.now ≡ union xorb_record_hash c.args.ours.now.0.items c.args.theirs.now.0.items =
    ap (map xorb_now) c.deref-else-not-is_few.ensures.value ∙ c.in_ok-xorbs.ensures.union ∙ (λ i. union xorb_record_hash (c.deref.ensures.value i) (c.deref-2.ensures.value i)) in
    union_few xorb_record_hash xorb_rows (2 ^ 32) c.args.ours.now.0.items c.args.theirs.now.0.items (map xorb_now c.deref-else-not-is_few.result.now) united c.requires.ours.few_blocks c.requires.theirs.few_blocks

pub returns-clause-encoding : goal.returns-clause-encoding
returns-clause-encoding c =
    let p : ShardRecords × ShardRecords = ((c.args.ours.now.0.items, c.args.ours.now.1.items), (c.args.theirs.now.0.items, c.args.theirs.now.1.items)) in
    let s : Shard = union_shard p c.args.creation c.args.other in
    let files : map file_now c.in_ok-found.found.items ≡ union file_record_hash p.0.1 p.1.1 = c.in_ok-found.ensures.union ∙ (λ i. union file_record_hash (c.deref-3.ensures.value i) (c.deref-4.ensures.value i)) in
    let blocks : map xorb_now c.in_ok-xorbs.xorbs.items ≡ union xorb_record_hash p.0.0 p.1.0 = c.in_ok-xorbs.ensures.union ∙ (λ i. union xorb_record_hash (c.deref.ensures.value i) (c.deref-2.ensures.value i)) in
    let files_now = ap (map file_now) c.deref-7.ensures.value ∙ files in
    let blocks_now = ap (map xorb_now) c.deref-6.ensures.value ∙ blocks in
    let same : shard (map xorb_now c.deref-6.result.now) (map file_now c.deref-7.result.now) c.default.result c.max-latest.result never ≡ s = λ i. shard (blocks_now i) (files_now i) (c.default.ensures i) (c.max-latest.ensures i) never in
    let few_files : length (file_section (union file_record_hash p.0.1 p.1.1)) < 2 ^ 32 =
    subst (λ (l : List MDBFileInfo). length (file_section l) < 2 ^ 32) (ap (map file_now) c.deref-5.ensures.value ∙ files) (c.is_few.ensures.few c.if-not-is_few.false) in
    let few_blocks : length (xorb_section (union xorb_record_hash p.0.0 p.1.0)) < 2 ^ 32 =
    subst (λ (l : List MDBXorbInfo). length (xorb_section l) < 2 ^ 32) (ap (map xorb_now) c.deref-else-not-is_few.ensures.value ∙ blocks) (c.is_few-else-not-is_few.ensures.few c.if-not-is_few-2.false) in
    record {
      both = p;
      found = refl;
      agree = (
        subst (λ (q : List MDBXorbInfo × List MDBXorbInfo). Agree xorb_record_hash q.0 q.1) (λ i. (c.deref.ensures.value i, c.deref-2.ensures.value i)) c.in_ok-xorbs.ensures.agree,
        subst (λ (q : List MDBFileInfo × List MDBFileInfo). Agree file_record_hash q.0 q.1) (λ i. (c.deref-3.ensures.value i, c.deref-4.ensures.value i)) c.in_ok-found.ensures.agree,
      );
      form = union_is_shard p c.args.creation c.args.other c.requires.ours c.requires.theirs few_files few_blocks;
      fits = subst Fits same c.in_ok-written.ensures.fits;
      info = c.in_ok-written.ensures.info ∙ ap (λ (t : Shard). record { header = header; metadata = footer_of all_lookups t }) same;
      encoding = c.in_ok-written.ensures.encoding ∙ ap full_shard_bytes same;
    }
