use Rattle.std.proofs.Common.{◌≡◌, ◌∙◌, ◌∷◌, ◌++◌, [], List, ap, map, rules, ℕ}
use Rattle.std.proofs.lemmas.List.{take_all}
use Rattle.xet_shard_format.specs.declared.record.XorbChunkSequenceEntry.{XorbChunkSequenceEntry}
use Rattle.xet_xorb.proofs.Mapped.{one_mapped}
use Rattle.xet_xorb.proofs.building.listed_leaves.Goals as goal

abbrev leaf_in : XorbChunkSequenceEntry → List ℕ × ℕ
leaf_in c = (c.chunk_hash, c.unpacked_segment_bytes)

pub loop-chunk-preserved : goal.loop-chunk-preserved
loop-chunk-preserved c =
    let pushed : c.push.new.self.items ≡ c.loop-chunk.leaves.items ++ leaf_in c.chunk-item.result ∷ [] = search rules in
    one_mapped leaf_in c.as_slice-chunks.result.now c.loop-chunk.chunk-index c.chunk-item.result c.loop-chunk.leaves.items c.push.new.self.items c.loop-chunk-test.true c.chunk-item.is pushed c.loop-chunk.invariant

pub returns-clause-leaves : goal.returns-clause-leaves
returns-clause-leaves c = c.loop-chunk.invariant ∙ ap (map leaf_in) (take_all c.loop-chunk.chunk-index c.as_slice-chunks.result.now c.loop-chunk-test.false ∙ c.as_slice-chunks.ensures)
