use Rattle.std.proofs.Common.{ℕ, ◌/◌, ◌≤◌, ◌^◌, ◌∙◌, ap, refl, subst}
use Rattle.std.proofs.lemmas.List.{get_or_read_under}
use Rattle.xet_shard_index.specs.Runs.{Item}
use Rattle.xet_shard_index.proofs.Between.{start_here}
use Rattle.xet_shard_index.proofs.starts.first_from.Goals as goal

pub returns-else-word-shift : goal.returns-else-word-shift
returns-else-word-shift c =
    start_here c.args.shift c.args.items.now c.args.value c.loop-at.at c.requires.rising c.loop-at.invariant.within c.loop-at.invariant.before
    (λ low d. subst (λ (w : ℕ). c.args.value ≤ w / 2 ^ c.args.shift) (c.word.ensures ∙ ap (λ (i : Item). i.0) (get_or_read_under c.args.items.now c.loop-at.at _ c.index-items-at.result d c.index-items-at.is low refl)) c.if-word-shift.false)
