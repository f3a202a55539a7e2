use Rattle.std.proofs.Common.{◌≡◌, ◌∙◌, ◌+◌, ◌-◌, ◌≤◌, ◌++◌, ◌∷◌, [], drop, length, Some, ap, arith, length-drop}
use Rattle.std.proofs.lemmas.List.{take_rest}
use Rattle.xet_cut.specs.Streams.{boundary_in}
use Rattle.xet_hash_files.proofs.Cutting.{Leaf, cut_more, cut_none, found_after, none_after, part_leaf}
use Rattle.xet_hash_files.proofs.splitting.push_leaves.Goals as goal

pub chunks-init : goal.chunks-init
chunks-init c = cut_none c.args.chunker.now.settings c.args.bytes.now c.args.leaves.now.items

pub chunks-preserved : goal.chunks-preserved
chunks-preserved c =
    let s = c.args.chunker.now.settings in
    let found : boundary_in s (c.args.chunker.now.buffered ++ drop c.chunks.taken c.args.bytes.now) ≡ Some (length c.args.chunker.now.buffered + c.in-Some.n) =
    rw (take_rest c.args.bytes.now c.chunks.taken) at c.in-Some.ensures.value in
    let within : c.in-Some.n ≤ length c.args.bytes.now - c.chunks.taken = omega (arith, c.in-Some.ensures.within.1, length-drop c.chunks.taken c.args.bytes.now) in
    let leaf = part_leaf c.args.bytes.now c.compute_data_hash-hash.result c.chunks.taken c.in-Some.n c.compute_data_hash-hash.ensures within in
    cut_more c.in-Some.n c.push.new.self.items c.requires.range c.chunks.invariant (found_after s c.args.chunker.now.buffered _ c.in-Some.n c.requires.empty found) (omega (arith, c.in-Some.ensures.within.0))
    within
    (c.in_ok-push.ensures.items ∙ ap (λ (l : Leaf). c.chunks.leaves.items ++ l ∷ []) leaf)

pub returns-clause-unended : goal.returns-clause-unended
returns-clause-unended c =
    let s = c.args.chunker.now.settings in
    none_after s c.args.chunker.now.buffered _ c.requires.empty (rw (take_rest c.args.bytes.now c.chunks.taken) at c.in_default.ensures.value)
