use Rattle.std.proofs.Common.{nat_le, drop, ℕ}
use Rattle.xet_shard.proofs.Tables.{no_places}
use Rattle.xet_shard.proofs.query.lookup_search.chunk_place.Goals as goal

pub returns-then-f-eq0-clause-exact : goal.returns-then-f-eq0-clause-exact
returns-then-f-eq0-clause-exact g c = λ told.
    let f = c.args.f.now in
    (0, no_places (λ (i : ℕ × ℕ × ℕ). nat_le i.0 c.args.first) f.chunk_lookup_num_entry (drop f.chunk_lookup_offset (g.R.ReadAt.bytes c.args.reader.now)) c.if-f-eq0.true, c.made_chunk_place.ensures.exact told)
