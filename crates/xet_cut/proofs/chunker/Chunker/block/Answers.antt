use Rattle.std.proofs.Common.{ap}
use Rattle.xet_cut.proofs.Splitting.{block_ended, block_split}
use Rattle.xet_cut.proofs.chunker.Chunker.block.Goals as goal
use Rattle.xet_cut.proofs.chunker.Chunker.block.Goals.{then-last+in_ok-push_rest, else-last}

pub returns-clause-block : goal.returns-clause-block
returns-clause-block c = elim c.if-last.branch [
  | then-last+in_ok-push_rest w ↦
      rw (w.if-last.true, w.chunks-is, w.self-is)
      (block_ended _ _ c.in_ok-taken.ensures.cut c.in_ok-taken.ensures.unended w.in_ok-push_rest.ensures.chunks (ap (λ v. v.buffered) w.clear.ensures))
  | else-last w ↦
      rw (w.if-last.false, w.chunks-is, w.self-is)
      (block_split _ c.in_ok-taken.ensures.cut c.in_ok-taken.ensures.unended (ap (λ v. v.buffered) w.keep.ensures))
]
