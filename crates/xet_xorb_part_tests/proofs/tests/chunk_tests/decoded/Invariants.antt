use Rattle.std.proofs.Common.{◌≡◌, ◌≤◌, ◌-◌, length, true}
use Rattle.xet_xorb_chunk.specs.Decoder.{fed_len, is_intact}
use Rattle.xet_xorb_part_tests.proofs.tests.chunk_tests.decoded.Given as goal

abbrev pub invariant-pieces : goal.invariant-pieces
invariant-pieces l = record {
  whole : is_intact l.decoder ≡ true;
  within : l.at ≤ length l.bytes;
  fed : fed_len l.decoder ≡ l.at;
}

abbrev pub decreases-pieces : goal.decreases-pieces
decreases-pieces l = length l.bytes - l.at
