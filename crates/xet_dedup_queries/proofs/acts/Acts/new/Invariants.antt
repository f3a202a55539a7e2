use Rattle.std.proofs.Common.{[]}
use Rattle.xet_dedup_queries.proofs.acts.Acts.new.Given as goal

abbrev pub ghost-of : goal.ghost-of
ghost-of a = []
