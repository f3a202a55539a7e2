use Rattle.std.proofs.Common.{rules}
use Rattle.std.proofs.lemmas.Fn.{filter_same}
use Rattle.xet_shard_directory.specs.Directories.{may_be_deleted}
use Rattle.xet_shard_directory.proofs.pruning.deletable.Goals as goal

pub returns : goal.returns
returns c = filter_same _ (may_be_deleted c.args.buffer c.args.now) _ (λ s b f called. search rules) c.args.shards.items c.retain.new.self.items c.retain.ensures.filtered
