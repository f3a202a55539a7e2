use Rattle.std.proofs.Common.{◌∙◌, sym, subst, Option, Result}
use Rattle.std.specs.Prelude.{IfErr}
use Rattle.xet_codec.specs.Parsing.{Fails}
use Rattle.xet_hash.specs.declared.error.Reason.{Reason}
use Rattle.xet_hash.specs.declared.error.StoreError.{StoreError}
use Rattle.xet_shard_directory.specs.Answers.{IsReadError}
use Rattle.xet_shard_directory.proofs.ErrorKinds.{checks, fails_of}
use Rattle.xet_shard_format.specs.Reading.{all_of}
use Rattle.xet_shard_format.specs.theorems.Refusing.{all_answers}
use Rattle.xet_shard_directory.proofs.integrity.failed_check.Goals as goal

pub returns-in-Some-clause-error : goal.returns-in-Some-clause-error
returns-in-Some-clause-error c before now =
    let fails : Fails c.in-Some.error (all_of c.args.bytes.now) =
    fails_of _ c.read_shard.result (all_of c.args.bytes.now) c.in-Some.error (sym c.in-Some.is ∙ c.err.ensures.value) c.read_shard.ensures.exact in
    subst (λ (r : Result (Option Reason) StoreError). IfErr r (IsReadError before now)) (sym c.failed_by.ensures)
    (checks before now c.in-Some.error (all_of c.args.bytes.now) (all_answers c.args.bytes.now) fails)
