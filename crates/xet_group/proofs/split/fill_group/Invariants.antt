use Rattle.std.proofs.Common.{◌≡◌, take}
use Rattle.xet_group.specs.Groups.{every_fourth}
use Rattle.xet_group.proofs.split.fill_group.Given as goal

abbrev pub invariant-places : goal.invariant-places
invariant-places l = take l.i l.group ≡ take l.i (every_fourth l.number l.bytes)
