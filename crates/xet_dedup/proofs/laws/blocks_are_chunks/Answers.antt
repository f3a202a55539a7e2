use Rattle.std.proofs.Common.{List, [], ◌∷◌}
use Rattle.std.specs.List.{AllByRecursion}
use Rattle.xet_cut.specs.declared.limits.LimitSettings.{LimitSettings}
use Rattle.xet_cut.specs.theorems.Parts.{IsChunkOf, block_chunks}
use Rattle.xet_dedup.specs.Deduping.{IsChunk}
use Rattle.xet_xorb_chunk.specs.declared.chunk.Chunk.{Chunk}
use Rattle.xet_dedup.proofs.laws.blocks_are_chunks.Goals as goal

all_chunks : (s : LimitSettings) (chunks : List Chunk) → AllByRecursion (IsChunkOf s) chunks → AllByRecursion (IsChunk s) chunks
all_chunks s [] all = tt
all_chunks s (c ∷ cs) all = (record { hashed = all.0.0; some = all.0.1; small = all.0.2 }, all_chunks s cs all.1)

pub returns : goal.returns
returns c = λ s bs last chunks buffered least order is. all_chunks s chunks (block_chunks s bs last chunks buffered least order is)
