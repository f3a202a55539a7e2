use Rattle.xet_base.specs.theorems.Exits.{exit_on}
use Rattle.xet_dedup.proofs.deduper.FileDeduper.process_chunks.Goals as goal

pub returns-in_err-global_chunks-clause-stopped : goal.returns-in_err-global_chunks-clause-stopped
returns-in_err-global_chunks-clause-stopped g c = exit_on _ c.from_residual.result c.from_residual.ensures.1 c.in_err-global_chunks.ensures.stopped
