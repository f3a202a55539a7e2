use Rattle.std.proofs.lemmas.Result.{IfErr-weaker, err_from_is_err_and}
use Rattle.xet_shard.specs.Export.{IsExportError}
use Rattle.xet_shard.specs.WriteErrors.{IsWriteError}
use Rattle.xet_shard.proofs.ErrorKinds.{reading_export, writing_export}
use Rattle.xet_shard.proofs.info.MDBShardInfo.export_as_keyed_shard.Goals as goal

pub returns-in_err-encoding-clause-errors : goal.returns-in_err-encoding-clause-errors
returns-in_err-encoding-clause-errors g c =
    let p = err_from_is_err_and c.from_residual.result c.from_residual.ensures.1 in
    rw (p.1, p.2) (reading_export c.in_err-encoding.field-0.0 c.in_err-encoding.ensures.errors)

pub returns-clause-errors : goal.returns-clause-errors
returns-clause-errors g c = IfErr-weaker c.write_bytes.result IsWriteError IsExportError writing_export c.write_bytes.ensures.errors
