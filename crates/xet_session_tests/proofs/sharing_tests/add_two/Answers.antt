use Rattle.std.proofs.Common.{[]}
use Rattle.xet_session_tests.proofs.sharing_tests.add_two.Goals as goal

pub add_block-requires-2 : goal.add_block-requires-2
add_block-requires-2 g c = record { cleaning = (_, c.in_ok-add_block.ensures.cleaning [] c.requires) }
