use Rattle.std.proofs.Common.{◌≡◌, ◌∙◌, ap, arith, map, take}
use Rattle.std.proofs.lemmas.List.{take_all}
use Rattle.xet_hash.specs.Merkle.{total_len}
use Rattle.xet_xorb_chunk.specs.Chunks.{chunk_leaf}
use Rattle.xet_xorb_chunk.proofs.Grammar.{total-leaves}
use Rattle.xet_xorb_chunk.proofs.chunk.chunk_leaves.Goals as goal

pub returns-clause-total : goal.returns-clause-total
returns-clause-total c =
    let whole : take c.loop-chunk.chunk-index c.args.chunks.now ≡ c.args.chunks.now = take_all _ _ (omega arith) in
    ap total_len (c.loop-chunk.invariant ∙ ap (map chunk_leaf) whole) ∙ total-leaves c.args.chunks.now
