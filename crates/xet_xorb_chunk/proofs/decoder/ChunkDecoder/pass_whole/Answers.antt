use Rattle.std.proofs.Common.{◌≡◌, inr, true}
use Rattle.xet_xorb_chunk.specs.Passing.{FailsPassing}
use Rattle.xet_xorb_chunk.proofs.Checks.{memory_with}
use Rattle.xet_xorb_chunk.proofs.Completed.{refuses_memory}
use Rattle.xet_xorb_chunk.specs.theorems.Passed.{refuses_after}
use Rattle.xet_xorb_chunk.proofs.decoder.ChunkDecoder.pass_whole.Goals as goal

pub returns-in_err-extend_from_slice-clause-errors : goal.returns-in_err-extend_from_slice-clause-errors
returns-in_err-extend_from_slice-clause-errors g c =
    let told = g.W.Sink.tells c.args.w.now ≡ true in
    let written = g.W.Sink.written in
    let max_chunk = c.args.self.now.max_chunk in
    let total = c.args.self.now.passed.total in
    let p = c.in_ok-taken.ensures.passed in
    memory_with (FailsPassing max_chunk total c.args.piece.now told (written c.args.w.now) (written c.pass_whole.new.w)) _ c.from_residual-in_err-extend_from_slice.ensures.1
    (λ e memory.
    refuses_after max_chunk total c.args.piece.now p.0 c.pass_whole.new.self.total _ told (written c.args.w.now) (written c.pass_whole.new.w) (written c.pass_whole.new.w) e p.1.passes p.2
    (refuses_memory max_chunk c.pass_whole.new.self.total _ told (written c.pass_whole.new.w) e (inr memory)))
