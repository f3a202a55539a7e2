use Rattle.std.proofs.Common.{◌≡◌, ◌≢◌, ◌∙◌, ◌==◌, None, false, length, subst, sym, ap, arith}
use Rattle.std.proofs.lemmas.Bool.Decides.{nat_tests}
use Rattle.std.specs.Prelude.{vec_len}
use Rattle.xet_shard_merge.proofs.EachOnce.{several}
use Rattle.xet_shard_merge.specs.Groups.{Group}
use Rattle.xet_shard_merge.specs.internal.Grouping.{IsOnly}
use Rattle.xet_shard_merge.proofs.group.OpenGroup.only.Goals as goal

pub returns-else-is_empty : goal.returns-else-is_empty
returns-else-is_empty c =
    let others = c.self.inside.others in
    let test : (vec_len others == 0) ≡ false = sym c.is_empty.ensures ∙ c.if-is_empty.false in
    let some : vec_len others ≢ 0 = grind (arith, nat_tests) in
    subst (λ (g : Group). IsOnly g.taken None) c.self.view_is
    (several c.self.inside.first others.items (λ none. some (omega (arith, others.ok.0, ap length none))))
