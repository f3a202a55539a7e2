use Rattle.std.proofs.Common.{◌∙◌, ◌∷◌, ap}
use Rattle.xet_shard.specs.Held.{Held}
use Rattle.xet_shard.specs.Union.{ShardRecords}
use Rattle.xet_shard_merge.specs.Groups.{created, with_records}
use Rattle.xet_shard_merge.proofs.EachOnce.{first_records}
use Rattle.xet_shard_merge.proofs.group.OpenGroup.alone.Goals as goal

pub returns-clause-group : goal.returns-clause-group
returns-clause-group c =
    let records : ShardRecords = (c.args.records.0.items, c.args.records.1.items) in
    let all = c.in_ok-add_records.ensures.added ∙ ap (λ (h : Held). with_records h records) c.new-shard.ensures ∙ first_records records in
    λ j. record { taken = c.args.file ∷ c.new.ensures.items j; records = all j; length = c.args.length; creation = created c.args.file }
