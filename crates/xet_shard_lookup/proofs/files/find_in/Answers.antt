use Rattle.std.proofs.Common.{◌∙◌, Err, Ok, Option, ap}
use Rattle.std.proofs.lemmas.Result.{err_from_is_err_and}
use Rattle.xet_shard_format.specs.declared.record.MDBFileInfo.{MDBFileInfo}
use Rattle.xet_shard_lookup.proofs.Recording.{error_answers, file_of_shard, none_answers, record_answers, record_is_there}
use Rattle.xet_shard_lookup.proofs.files.find_in.Goals as goal

pub returns-in_err-found-clause-found : goal.returns-in_err-found-clause-found
returns-in_err-found-clause-found g c told s same holds =
    let files = g.D.Disk.files c.args.disk.now in
    let p = err_from_is_err_and c.from_residual.result c.from_residual.ensures.1 in
    rw (p.1, p.2) (error_answers files c.args.hash.now s c.in_err-found.field-0.0
    (file_of_shard c.queries_are_answered.ensures.file files c.args.hash.now s c.args.file.now (Err c.in_err-found.field-0.0) same holds (c.in_err-found.ensures.present told) (c.in_err-found.ensures.absent told)))

pub returns-in-Some-clause-found : goal.returns-in-Some-clause-found
returns-in-Some-clause-found g c told s same holds =
    let files = g.D.Disk.files c.args.disk.now in
    record_answers files c.args.hash.now s c.args.file.now c.in-Some.found same
    (file_of_shard c.queries_are_answered.ensures.file files c.args.hash.now s c.args.file.now (Ok c.in_ok-found.field-0) same holds (c.in_ok-found.ensures.present told) (c.in_ok-found.ensures.absent told) ∙ ap (λ (f : Option MDBFileInfo). Ok f) c.in-Some.is)

pub returns-in-Some-clause-there : goal.returns-in-Some-clause-there
returns-in-Some-clause-there g c told pending files number listed =
    record_is_there (g.D.Disk.files c.args.disk.now) pending files number c.args.file.now c.args.hash.now c.in-Some.found listed (rw c.in-Some.is at (c.in_ok-found.ensures.present told)) (rw c.in-Some.is at (c.in_ok-found.ensures.absent told))

pub returns-in-None-clause-found : goal.returns-in-None-clause-found
returns-in-None-clause-found g c told s same holds =
    let files = g.D.Disk.files c.args.disk.now in
    none_answers files c.args.hash.now s
    (file_of_shard c.queries_are_answered.ensures.file files c.args.hash.now s c.args.file.now (Ok c.in_ok-found.field-0) same holds (c.in_ok-found.ensures.present told) (c.in_ok-found.ensures.absent told) ∙ ap (λ (f : Option MDBFileInfo). Ok f) c.in-None.is)
