use Rattle.std.proofs.Common.{◌≡◌, ◌≤◌, ◌++◌, true, take}
use Rattle.std.specs.List.{flat_map}
use Rattle.xet_codec.specs.Buffered.{buffered_in}
use Rattle.xet_codec.specs.Written.{Moves}
use Rattle.xet_codec.proofs.buffer.Buffer.put_all.Given as goal

abbrev pub invariant-loop-piece : goal.invariant-loop-piece
invariant-loop-piece g l = record {
  moved : g.W.Sink.tells l.fn.sink ≡ true → Moves (g.W.Sink.written l.fn.sink) (g.W.Sink.written l.sink) (buffered_in l.self) (buffered_in l.fn.self ++ flat_map (λ p. p.now) (take l.piece-index l.pieces));
  tells : g.W.Sink.tells l.sink ≡ g.W.Sink.tells l.fn.sink;
  later : g.W.Sink.faults l.fn.sink ≤ g.W.Sink.faults l.sink;
}
