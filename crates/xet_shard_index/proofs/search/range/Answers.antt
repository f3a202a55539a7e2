use Rattle.std.proofs.Common.{ℕ, ◌+◌, subst}
use Rattle.xet_shard_index.specs.internal.Starts.{IsStart}
use Rattle.xet_shard_index.proofs.Between.{between_starts}
use Rattle.xet_shard_index.proofs.search.range.Goals as goal

pub returns-in-Some-read-clause-between : goal.returns-in-Some-read-clause-between
returns-in-Some-read-clause-between g c = λ run same are.
    let shift = c.args.starts.now.shift in
    let low = c.in-Some.low in
    let high = c.in-Some-read.high in
    between_starts shift run c.args.word low high
    (subst (λ (v : ℕ). IsStart shift run v low) c.leading-leading.ensures (c.in-Some.ensures.start run are))
    (subst (λ (v : ℕ). IsStart shift run (v + 1) high) c.leading-leading.ensures (c.in-Some-read.ensures.start run are))
