use Rattle.std.proofs.Common.{◌∙◌, ℕ, ◌*◌, ◌/◌, List, ◌++◌, ap, drop, length, refl}
use Rattle.std.proofs.lemmas.List.{take_at}
use Rattle.xet_group.proofs.Blocks.{groups_completed}
use Rattle.xet_group.specs.Groups.{groups_of}
use Rattle.xet_group.proofs.regroup.interleaved_by_blocks.Goals as goal

pub returns : goal.returns
returns c =
    let rest = c.in_ok-push_interleaved.ensures in
    let done = length c.args.fourth.now / 4 * 4 in
    let blocks = c.interleave_blocks.new.out in
    let kept = take_at blocks (drop (length blocks) c.resize.new.self.items) c.resize.new.self.len (c.interleave_blocks.ensures.len ∙ c.deref_mut.ensures.len) in
    ap groups_of (rest.2 ∙ ap (λ (l : List ℕ). l ++ rest.0) kept)
    ∙ groups_completed done blocks rest.0 c.args.first.now c.args.second.now c.args.third.now c.args.fourth.now
    (c.interleave_blocks.ensures.len ∙ c.deref_mut.ensures.len ∙ c.in_ok-resize.ensures.len) (c.interleave_blocks.ensures.groups done refl) rest.1
