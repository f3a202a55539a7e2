use Rattle.std.proofs.Common.{◌≡◌, ◌≤◌, ◌++◌, ◌*◌, true, length, take}
use Rattle.xet_codec.specs.Buffered.{buffered_in}
use Rattle.xet_codec.specs.Numbers.{joined}
use Rattle.xet_codec.specs.Written.{Moves}
use Rattle.xet_codec.proofs.buffer.Buffer.put_hashes.Given as goal

abbrev pub invariant-loop-hash : goal.invariant-loop-hash
invariant-loop-hash g l = record {
  moved : g.W.Sink.tells l.fn.sink ≡ true → Moves (g.W.Sink.written l.fn.sink) (g.W.Sink.written l.sink) (buffered_in l.self) (buffered_in l.fn.self ++ joined (take l.hash-index l.hashes));
  length : length (joined (take l.hash-index l.hashes)) ≡ 32 * l.hash-index;
  tells : g.W.Sink.tells l.sink ≡ g.W.Sink.tells l.fn.sink;
  later : g.W.Sink.faults l.fn.sink ≤ g.W.Sink.faults l.sink;
}
