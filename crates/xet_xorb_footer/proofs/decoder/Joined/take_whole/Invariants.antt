use Rattle.std.proofs.Common.{◌≤◌, ◌-◌, drop, length}
use Rattle.xet_xorb_footer.specs.Joining.{IsReady}
use Rattle.xet_xorb_footer.specs.internal.Joining.{ReadsUpTo}
use Rattle.xet_xorb_footer.proofs.decoder.Joined.take_whole.Given as goal

abbrev pub invariant-fields : goal.invariant-fields
invariant-fields l = record {
  within : l.at ≤ length l.piece;
  ready : IsReady l.self;
  read : ReadsUpTo l.fn.self l.self l.piece (drop l.at l.piece);
}

abbrev pub decreases-fields : goal.decreases-fields
decreases-fields l = length l.piece - l.at
