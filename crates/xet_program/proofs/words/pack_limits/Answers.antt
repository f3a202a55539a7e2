use Rattle.xet_program.proofs.Commands.{pack_in_range}
use Rattle.xet_program.proofs.words.pack_limits.Goals as goal

pub unreachable-requires : goal.unreachable-requires
unreachable-requires c =
    rw (c.pack_settings.ensures, pack_in_range c.args.target c.args.gear c.requires) at c.in-Err.ensures.refused
