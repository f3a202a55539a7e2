use Rattle.std.proofs.Common.{◌≡◌, true}
use Rattle.xet_xorb_footer.specs.Decoder.{is_footer_intact}
use Rattle.xet_xorb_part_tests.proofs.tests.last_footer_tests.in_pieces.Given as goal

abbrev pub invariant-loop-piece : goal.invariant-loop-piece
invariant-loop-piece l = is_footer_intact l.decoder ≡ true
