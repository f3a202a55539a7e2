use Rattle.std.proofs.Common.{◌∙◌}
use Rattle.xet_xorb_samples.proofs.Drawn.{chunk_parts}
use Rattle.xet_xorb_samples.proofs.samples.build_raw_xorb.Goals as goal

pub from_chunks-requires : goal.from_chunks-requires
from_chunks-requires g c =
    let made = c.in_ok-chunks.ensures.made in
    chunk_parts c.args.num_chunks c.args.size _ _ c.deref.result.now c.requires (made.0, made.1, c.deref.ensures.value ∙ made.2)
