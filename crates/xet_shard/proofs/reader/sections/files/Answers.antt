use Rattle.std.specs.Prelude.{Vec}
use Rattle.std.specs.Global.{Global}
use Rattle.xet_shard_format.specs.declared.record.MDBFileInfo.{MDBFileInfo}
use Rattle.std.proofs.lemmas.Result.{err_from_is_err_and}
use Rattle.std.proofs.Common.{Err, ◌<◌, ◌^◌, ◌∙◌, None, Ok, ap, length, sym, List, ℕ, rules}
use Rattle.xet_shard_format.specs.Records.{AreRecords, IsFile, file_record_hash, file_head, file_rest, file_section}
use Rattle.xet_shard_format.specs.Reading.{file_record_at}
use Rattle.xet_shard.specs.Sections.{section_in}
use Rattle.xet_shard_format.specs.theorems.Finding.{given_ok, section_few}
use Rattle.xet_shard.proofs.PartLaws.{count_fails, counted, section_fault, section_gives}
use Rattle.xet_shard_format.specs.theorems.Refusing.{a_section, a_file, cause_before, refuses}
use Rattle.xet_shard_format.specs.theorems.SectionLaws.{files_reading, section_takes}
use Rattle.xet_shard.proofs.reader.sections.files.Goals as goal

pub returns-in-Ok-clause-exact : goal.returns-in-Ok-clause-exact
returns-in-Ok-clause-exact g c = λ told.
    let at = c.args.f.now.file_info_offset in
    let whole = g.R.ReadAt.bytes c.args.reader.now in
    let count = c.in_ok-count.count in
    counted (λ (v : Vec MDBFileInfo Global). v.items) at c.args.f.now.xorb_info_offset count c.records_at.result (λ n. section_in file_record_at file_record_hash at n whole) c.in_ok-count.ensures.exact
    (section_gives file_record_at file_record_hash at count whole (λ (b : List ℕ). b) (λ v. v.items) c.deref.result.now c.records_at.result (a_section file_record_at a_file file_record_hash count None _)
    (c.in-Ok.ensures.told told ∙ ap Ok (sym c.deref.ensures.value)) c.records_at.ensures)

pub returns-in-Ok-clause-form : goal.returns-in-Ok-clause-form
returns-in-Ok-clause-form g c =
    given_ok (λ v. v.items) c.records_at.result _ (AreRecords file_record_hash IsFile None)
    (λ found e. (section_takes file_record_at file_record_hash file_head file_rest IsFile files_reading c.in_ok-count.count None _ found e).1) c.records_at.ensures

pub returns-in-Ok-clause-few : goal.returns-in-Ok-clause-few
returns-in-Ok-clause-few g c =
    given_ok (λ v. v.items) c.records_at.result _ (λ files. length (file_section files) < 2 ^ 32)
    (λ files e. section_few file_record_at file_record_hash file_head file_rest IsFile files_reading c.in_ok-count.count c.deref.result.now files e c.in-Ok.ensures.few) c.records_at.ensures

pub returns-in-Ok-clause-errors : goal.returns-in-Ok-clause-errors
returns-in-Ok-clause-errors g c = refuses (λ v. v.items) c.records_at.result _ (a_section file_record_at a_file file_record_hash _ None _) c.records_at.ensures

pub returns-in-Ok-clause-frame : goal.returns-in-Ok-clause-frame
returns-in-Ok-clause-frame g c =
    let cause = cause_before (λ v. v.items) c.records_at.result _ _ _ (a_section file_record_at a_file file_record_hash _ None _) c.records_at.ensures c.in-Ok.ensures.frame.later in
    record { same = search rules; tells = search rules; later = cause.later; rose = cause.rose; lent = search rules }

pub returns-in-Err-clause-exact : goal.returns-in-Err-clause-exact
returns-in-Err-clause-exact g c = λ told.
    let at = c.args.f.now.file_info_offset in
    let whole = g.R.ReadAt.bytes c.args.reader.now in
    counted (λ (v : Vec MDBFileInfo Global). v.items) at c.args.f.now.xorb_info_offset c.in_ok-count.count (Err c.in-Err.refusal) (λ n. section_in file_record_at file_record_hash at n whole) c.in_ok-count.ensures.exact
    (section_fault file_record_at file_record_hash at c.in_ok-count.count whole (λ (v : Vec ℕ Global). v.items) (λ (v : Vec MDBFileInfo Global). v.items) c.in-Err.refusal (c.in-Err.ensures.told told))

pub returns-in_err-count-clause-exact : goal.returns-in_err-count-clause-exact
returns-in_err-count-clause-exact g c = λ told.
    let p = err_from_is_err_and c.from_residual.result c.from_residual.ensures.1 in
    let at = c.args.f.now.file_info_offset in
    rw (p.1, p.2) (count_fails (λ (v : Vec MDBFileInfo Global). v.items) at c.args.f.now.xorb_info_offset c.in_err-count.field-0.0 (λ n. section_in file_record_at file_record_hash at n (g.R.ReadAt.bytes c.args.reader.now)) c.in_err-count.ensures.error c.in_err-count.ensures.exact)
