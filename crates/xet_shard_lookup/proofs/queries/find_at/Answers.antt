use Rattle.std.proofs.Common.{sym}
use Rattle.xet_shard_format.specs.Records.{first_word}
use Rattle.xet_shard.specs.Queries.{kept_hash}
use Rattle.xet_shard_lookup.proofs.queries.find_at.Goals as goal

pub returns-in-Some-clause-found : goal.returns-in-Some-clause-found
returns-in-Some-clause-found g c told shards key held holds is =
    let there = sym (c.in-Some.ensures shards key held is) in
    rw there (c.run_at.ensures.found told shards key (first_word (kept_hash key c.args.first)) held holds there)
