use Rattle.std.proofs.Common.{nat_lt, drop, ℕ}
use Rattle.xet_shard.proofs.Tables.{no_heads}
use Rattle.xet_shard.proofs.query.lookup_search.file_items.Goals as goal

pub returns-then-f-eq0-clause-exact : goal.returns-then-f-eq0-clause-exact
returns-then-f-eq0-clause-exact g c = λ told.
    let f = c.args.f.now in
    (0, no_heads (λ (i : ℕ × ℕ). nat_lt i.0 c.args.first) f.file_lookup_num_entry (drop f.file_lookup_offset (g.R.ReadAt.bytes c.args.reader.now)) c.if-f-eq0.true, c.made_file_lookup.ensures.exact told)
