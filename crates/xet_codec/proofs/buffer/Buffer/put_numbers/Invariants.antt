use Rattle.std.proofs.Common.{◌≡◌, ◌≤◌, ◌++◌, true, take}
use Rattle.xet_codec.specs.Buffered.{buffered_in}
use Rattle.xet_codec.specs.Numbers.{numbers}
use Rattle.xet_codec.specs.Written.{Moves}
use Rattle.xet_codec.proofs.buffer.Buffer.put_numbers.Given as goal

abbrev pub invariant-loop-number : goal.invariant-loop-number
invariant-loop-number g l = record {
  moved : g.W.Sink.tells l.fn.sink ≡ true → Moves (g.W.Sink.written l.fn.sink) (g.W.Sink.written l.sink) (buffered_in l.self) (buffered_in l.fn.self ++ numbers (take l.number-index l.list));
  tells : g.W.Sink.tells l.sink ≡ g.W.Sink.tells l.fn.sink;
  later : g.W.Sink.faults l.fn.sink ≤ g.W.Sink.faults l.sink;
}
