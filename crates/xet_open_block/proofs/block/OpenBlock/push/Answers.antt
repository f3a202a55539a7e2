use Rattle.std.proofs.Common.{◌≡◌, ◌∙◌, ◌+◌, ◌<◌, ◌^◌, ◌∷◌, ◌++◌, List, [], Some, ap, arith, cond, length, nat_eq, rules, subst, sym, vec_len}
use Rattle.std.specs.Cmp.Lexicographic.{pointwise}
use Rattle.indexmap.specs.IndexMap.{get}
use Rattle.xet_xorb_chunk.specs.declared.chunk.Chunk.{Chunk}
use Rattle.xet_xorb_chunk.specs.Chunks.{total}
use Rattle.xet_open_block.specs.OpenBlock.{IsTracked}
use Rattle.xet_open_block.proofs.Runs.{tracked_more}
use Rattle.xet_open_block.proofs.block.OpenBlock.push.Goals as goal

pub invariant_of-self-2 : goal.invariant_of-self-2
invariant_of-self-2 c =
    let counted : vec_len c.reserve.new.self ≡ length c.reserve.new.self.items = search rules in
    let index : c.len.result ≡ length c.self.inside.chunks.items = c.len.ensures ∙ counted ∙ ap length c.reserve.ensures.items in
    let few : total c.self.inside.chunks.items + length c.args.chunk.bytes < 2 ^ 63 = subst (λ (cs : List Chunk). total cs + length c.args.chunk.bytes < 2 ^ 63) (sym c.self.view_is) c.requires in
    subst (λ k. IsTracked c.push_reserved.new.self.items (c.self.inside.bytes + k) c.insert.new.self.entries) (sym c.len-2.ensures.value)
    (tracked_more c.self.inside.chunks.items _ c.args.chunk c.self.inside.bytes c.self.inside.places.entries _ c.self.invariant
    (c.push_reserved.ensures.items ∙ ap (λ (cs : List Chunk). cs ++ c.args.chunk ∷ []) c.reserve.ensures.items)
    (omega (arith, few, c.self.invariant.sum))
    (λ h. c.in_ok-insert.ensures.updates.0 h ∙ ap (λ k. cond (pointwise nat_eq c.args.chunk.hash h) (Some k) (get (pointwise nat_eq) c.self.inside.places h)) index))
