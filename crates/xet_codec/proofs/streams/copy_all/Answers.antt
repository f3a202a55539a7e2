use Rattle.std.proofs.Common.{◌∙◌, ◌+◌, ◌++◌, List, ap, arith, length, length-append, sym, take, ℕ}
use Rattle.std.proofs.lemmas.List.{length-take-le}
use Rattle.xet_base.specs.theorems.Written.{block_fed, prefix_of_first, written_both, written_then}
use Rattle.xet_codec.proofs.streams.copy_all.Goals as goal

pub returns-in_err-write_piece-clause-prefix : goal.returns-in_err-write_piece-clause-prefix
returns-in_err-write_piece-clause-prefix g c = λ told tells.
    let i = c.reads.invariant in
    let h = i.copied told in
    let piece : List ℕ = take c.in_ok-count.count c.read_some.new.buf in
    let rest = g.R.Source.left c.read_some.new.source in
    let whole = block_fed _ h.0 _ c.read_some.new.buf _ c.in_ok-count.count h.2 (c.in_ok-count.ensures.told (i.source_tells ∙ told)).next in
    let f = c.in_err-write_piece.ensures.prefix (i.sink_tells ∙ tells) in
    let m = prefix_of_first (h.0 ++ piece) rest (length h.0 + f.0) in
    (m.0, written_then _ _ _ h.0 piece f.0 (h.3 tells) f.1 ∙ ap (λ (x : List ℕ). g.W.Sink.written c.args.w.now ++ x) (m.1 ∙ ap (take m.0) (sym whole)))

pub reads-preserved : goal.reads-preserved
reads-preserved g c =
    let i = c.reads.invariant in
    let piece : List ℕ = take c.in_ok-count.count c.read_some.new.buf in
    let size = length-take-le c.in_ok-count.count c.read_some.new.buf c.in_ok-count.ensures.bound in
    record {
      room = omega (arith, i.room);
      copied = λ told.
          let h = i.copied told in (
            h.0 ++ piece,
            omega (arith, h.1, size, length-append h.0 piece),
            block_fed _ h.0 _ c.read_some.new.buf _ c.in_ok-count.count h.2 (c.in_ok-count.ensures.told (i.source_tells ∙ told)).next,
            λ tells. written_both _ _ _ h.0 piece (h.3 tells) (c.in_ok-write_piece.ensures.whole (i.sink_tells ∙ tells)),
          );
      source_tells = c.in_ok-count.ensures.frame.tells ∙ i.source_tells;
      sink_tells = c.in_ok-write_piece.ensures.frame.tells ∙ i.sink_tells;
      source_later = omega (arith, c.in_ok-count.ensures.frame.later, i.source_later);
      sink_later = omega (arith, c.in_ok-write_piece.ensures.frame.later, i.sink_later);
    }
