use Rattle.std.proofs.Common.{◌≡◌, ◌∙◌, ◌++◌, ◌∷◌, [], List, ℕ}
use Rattle.std.proofs.lemmas.Result.{IfOk-weaker}
use Rattle.xet_group.specs.Groups.{grouped, groups_of}
use Rattle.xet_group.proofs.Woven.{cut_joins, grouped_from}
use Rattle.xet_group.proofs.regroup.bg4_regroup_together.Goals as goal

pub returns : goal.returns
returns c =
    let p : List ℕ = c.split_at.result.0.now in
    let q : List ℕ = c.split_at-2.result.0.now in
    let r : List ℕ = c.split_at-3.result.0.now in
    let s : List ℕ = c.split_at-3.result.1.now in
    let whole : p ++ q ++ r ++ s ≡ c.args.b.now =
    rw (c.split_at-3.ensures.front, c.split_at-3.ensures.back, c.split_at-2.ensures.front, c.split_at-2.ensures.back, c.split_at.ensures.front, c.split_at.ensures.back)
    (cut_joins c.group_len.result c.group_len-2.result c.group_len-3.result c.args.b.now) in
    IfOk-weaker c.interleaved_by_blocks.result (λ bytes. groups_of bytes.items ≡ p ∷ q ∷ r ∷ s ∷ []) (λ bytes. grouped bytes.items ≡ c.args.b.now) (λ bytes e. grouped_from bytes.items p q r s e ∙ whole) c.interleaved_by_blocks.ensures
