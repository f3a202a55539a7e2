use Rattle.std.proofs.Common.{subst}
use Rattle.xet_group.specs.Groups.{AreGroups}
use Rattle.xet_group.proofs.Fourths.{AreNear}
use Rattle.xet_group.proofs.Woven.{map_four, near_from_groups}
use Rattle.xet_group.proofs.regroup.bg4_regroup_separate.Goals as goal

near : (c : goal.After-deref-4) → AreNear c.deref.result.now c.deref-2.result.now c.deref-3.result.now c.deref-4.result.now
near c =
    let parts =
    map_four (λ v. v.items) c.args.groups.now c.first-item.result c.second-item.result c.third-item.result c.fourth-item.result c.in-len4.len_at_least c.in-len4.len_below
    c.first-item.is c.second-item.is c.third-item.is c.fourth-item.is in
    rw (c.deref.ensures.value, c.deref-2.ensures.value, c.deref-3.ensures.value, c.deref-4.ensures.value)
    (near_from_groups _ _ _ _ (subst AreGroups parts c.requires))

pub interleaved-requires-clause-third : goal.interleaved-requires-clause-third
interleaved-requires-clause-third c = (near c).third

pub interleaved-requires-clause-second : goal.interleaved-requires-clause-second
interleaved-requires-clause-second c = (near c).second

pub interleaved-requires-clause-first : goal.interleaved-requires-clause-first
interleaved-requires-clause-first c = (near c).first

pub interleaved-requires-clause-near : goal.interleaved-requires-clause-near
interleaved-requires-clause-near c = (near c).near
