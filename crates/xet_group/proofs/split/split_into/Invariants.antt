use Rattle.std.proofs.Common.{◌≡◌, ◌*◌, take}
use Rattle.xet_group.specs.Groups.{every_fourth}
use Rattle.xet_group.proofs.split.split_into.Given as goal

abbrev pub invariant-blocks-2 : goal.invariant-blocks-2
invariant-blocks-2 l = record {
  first : take (4 * l.i) l.first ≡ take (4 * l.i) (every_fourth 0 l.b);
  second : take (4 * l.i) l.second ≡ take (4 * l.i) (every_fourth 1 l.b);
  third : take (4 * l.i) l.third ≡ take (4 * l.i) (every_fourth 2 l.b);
  fourth : take (4 * l.i) l.fourth ≡ take (4 * l.i) (every_fourth 3 l.b);
}
