use Rattle.std.proofs.Common.{◌≡◌, ◌∙◌, inr, subst, true, ℕ}
use Rattle.xet_xorb_chunk.specs.Decoder.{FinishesStream}
use Rattle.xet_xorb_chunk.specs.Passing.{RefusesStream}
use Rattle.xet_base.specs.theorems.Exits.{exit_with}
use Rattle.xet_xorb_chunk.specs.theorems.Streamed.{end_refused, stream_memory}
use Rattle.xet_xorb_chunk.proofs.stream.deserialize_chunks_to_writer.Goals as goal

pub returns-in_err-block-clause-errors : goal.returns-in_err-block-clause-errors
returns-in_err-block-clause-errors g c = λ told.
    let left = g.R.Source.left c.args.r.now in
    let tells = g.W.Sink.tells c.args.w.now ≡ true in
    let now = g.W.Sink.written c.args.w.now in
    exit_with (RefusesStream c.args.max_chunk left tells now now) _ _ c.from_residual.ensures.1 (stream_memory c.args.max_chunk left tells now _ (inr c.in_err-block.ensures.memory))

pub returns-clause-errors : goal.returns-clause-errors
returns-clause-errors g c = λ told.
    let left = g.R.Source.left c.args.r.now in
    let f = c.in_ok-feed_all.ensures.fed told in
    let ends = c.finish.ensures.ends left f.0 f.1 in
    end_refused c.args.max_chunk left f.0 (g.W.Sink.tells c.args.w.now ≡ true) (g.W.Sink.written c.args.w.now) (g.W.Sink.written c.feed_all.new.w) _ f.2
    (subst (λ (m : ℕ). FinishesStream m left f.0 c.finish.result) (c.in_ok-feed_all.ensures.max_chunk ∙ c.new-decoder.ensures.max_chunk) ends)
