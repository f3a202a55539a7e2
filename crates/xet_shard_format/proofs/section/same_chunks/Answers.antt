use Rattle.std.proofs.lemmas.Slice.Eq.{slice_eq-Decides}
use Rattle.xet_shard_format.proofs.Alike.{chunks_alike}
use Rattle.xet_shard_format.proofs.section.same_chunks.Goals as goal

pub returns : goal.returns
returns c = slice_eq-Decides chunks_alike _ _ _ c.eq.ensures
