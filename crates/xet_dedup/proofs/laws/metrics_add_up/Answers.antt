use Rattle.xet_dedup.proofs.Batches.{all_bytes, all_chunks, both_fit, of_both}
use Rattle.xet_dedup.proofs.Ends.{ends_both}
use Rattle.xet_dedup.proofs.laws.metrics_add_up.Goals as goal

pub returns-clause-chunks : goal.returns-clause-chunks
returns-clause-chunks c = all_chunks

pub returns-clause-bytes : goal.returns-clause-bytes
returns-clause-bytes c = all_bytes

pub returns-clause-batches : goal.returns-clause-batches
returns-clause-batches c = of_both

pub returns-clause-sums : goal.returns-clause-sums
returns-clause-sums c = both_fit

pub returns-clause-runs : goal.returns-clause-runs
returns-clause-runs c = ends_both
