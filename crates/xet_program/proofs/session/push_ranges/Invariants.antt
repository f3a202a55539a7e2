use Rattle.std.proofs.Common.{◌≡◌, ℕ, List, ◌++◌, take}
use Rattle.xet_store_disk.specs.Ranges.{IsUnchanged}
use Rattle.xet_program.specs.internal.Steps.{AreRead}
use Rattle.xet_program.proofs.session.push_ranges.Given as goal

abbrev pub invariant-loop-range : goal.invariant-loop-range
invariant-loop-range g l = record {
  unchanged : IsUnchanged l.initial.session.store l.session.store;
  recorded : (l.session.shards ≡ l.initial.session.shards) × (l.session.history ≡ l.initial.session.history);
  lines : (lines : List ℕ) × AreRead l.initial.session.store l.infos (take l.range-index l.ranges) lines × (l.text.items ≡ l.initial.text.items ++ lines);
}
