use Rattle.std.proofs.Common.{◌≡◌, length, sym, subst, arith}
use Rattle.xet_group.specs.Groups.{AreGroups}
use Rattle.xet_group.proofs.Woven.{groups_from_near, map_four, near_from_groups}
use Rattle.xet_group.proofs.regroup.groups_fit.Goals as goal

pub returns-in-len4 : goal.returns-in-len4
returns-in-len4 c =
    let parts =
    map_four (λ v. v.items) c.args.groups.now c.first-item.result c.second-item.result c.third-item.result c.fourth-item.result c.in-len4.len_at_least c.in-len4.len_below
    c.first-item.is c.second-item.is c.third-item.is c.fourth-item.is in
    let l0 : c.len.result ≡ length c.first-item.result.items = omega (arith, c.len.ensures, c.first-item.result.ok) in
    let l1 : c.len-in-len4.result ≡ length c.second-item.result.items = omega (arith, c.len-in-len4.ensures, c.second-item.result.ok) in
    let l2 : c.len-in-len4-2.result ≡ length c.third-item.result.items = omega (arith, c.len-in-len4-2.ensures, c.third-item.result.ok) in
    let l3 : c.len-in-len4-3.result ≡ length c.fourth-item.result.items = omega (arith, c.len-in-len4-3.ensures, c.fourth-item.result.ok) in (
      λ yes.
          let h = c.are_near.ensures.0 yes in
          subst AreGroups (sym parts)
          (groups_from_near _ _ _ _ (record { third = omega (arith, h.0, l2, l3); second = omega (arith, h.1, l1, l2); first = omega (arith, h.2, l0, l1); near = omega (arith, h.3, l0, l3) })),
      λ are.
          let h = near_from_groups _ _ _ _ (subst AreGroups parts are) in
          c.are_near.ensures.1 (omega (arith, h.third, l2, l3), omega (arith, h.second, l1, l2), omega (arith, h.first, l0, l1), omega (arith, h.near, l0, l3)),
    )
