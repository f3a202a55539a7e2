use Rattle.std.proofs.Common.{◌≡◌, ◌-◌, ◌++◌, length}
use Rattle.xet_group.specs.Groups.{every_fourth}
use Rattle.xet_group.proofs.split.push_group.Given as goal

abbrev pub invariant-places : goal.invariant-places
invariant-places l = l.out.items ++ every_fourth l.place l.bytes ≡ l.initial.out.items ++ every_fourth l.initial.place l.bytes

abbrev pub decreases-places : goal.decreases-places
decreases-places l = length l.bytes - l.place
