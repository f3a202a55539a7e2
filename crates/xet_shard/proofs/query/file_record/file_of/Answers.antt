use Rattle.std.proofs.Common.{subst, List}
use Rattle.xet_hash.specs.declared.error.Place.TheVariants.{Input}
use Rattle.xet_shard_format.specs.declared.row.Row.{Row}
use Rattle.xet_shard.specs.Queries.{file_after}
use Rattle.xet_codec.specs.Parsing.{GivesUnlessFault}
use Rattle.xet_shard_format.specs.Reading.{file_record_at}
use Rattle.xet_shard_format.specs.Records.{IsFile}
use Rattle.xet_shard_format.specs.theorems.Finding.{given_ok}
use Rattle.xet_shard.proofs.OneRecord.{alone_gives}
use Rattle.xet_shard_format.specs.theorems.Refusing.{a_file, no_fault, refuses}
use Rattle.xet_shard_format.specs.theorems.RowLaws.{file_takes}
use Rattle.xet_shard.proofs.query.file_record.file_of.Goals as goal

pub returns-clause-gives : goal.returns-clause-gives
returns-clause-gives c =
    subst (λ (rs : List Row). GivesUnlessFault (λ x. x) c.file.result (file_after c.args.head.now rs)) c.new-rows.ensures
    (alone_gives c.file.new.rows c.file.result (file_record_at c.args.head.now c.new-rows.result) (a_file c.args.head.now c.new-rows.result) c.file.ensures)

pub returns-clause-form : goal.returns-clause-form
returns-clause-form c =
    given_ok (λ x. (x, c.file.new.rows)) c.file.result (file_record_at c.args.head.now c.new-rows.result) (λ y. IsFile y.0) (λ y e. (file_takes c.args.head.now c.new-rows.result y.0 y.1 e).2) c.file.ensures

pub returns-clause-errors : goal.returns-clause-errors
returns-clause-errors c = refuses (λ x. (x, c.file.new.rows)) c.file.result _ (a_file c.args.head.now c.new-rows.result) c.file.ensures

pub returns-clause-fault : goal.returns-clause-fault
returns-clause-fault c = no_fault (λ x. (x, c.file.new.rows)) c.file.result _ Input (a_file c.args.head.now c.new-rows.result) c.file.ensures
