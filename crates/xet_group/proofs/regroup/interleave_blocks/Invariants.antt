use Rattle.std.proofs.Common.{◌≡◌, ◌*◌, ◌∷◌, [], take}
use Rattle.xet_group.specs.Groups.{groups_of}
use Rattle.xet_group.proofs.regroup.interleave_blocks.Given as goal

abbrev pub invariant-blocks-2 : goal.invariant-blocks-2
invariant-blocks-2 l =
    groups_of (take (16 * l.i) l.out) ≡ take (4 * l.i) l.first ∷ take (4 * l.i) l.second ∷ take (4 * l.i) l.third ∷ take (4 * l.i) l.fourth ∷ []
