use Rattle.xet_hash.proofs.Rows.{padded_prefix, values_of_padded}
use Rattle.xet_hash.proofs.subtrees.chunk_values.Goals as goal

pub returns : goal.returns
returns c =
    values_of_padded c.chunk_lanes.result c.args.key.now c.args.flags c.args.index c.args.bytes.now _ c.requires.fits
    (padded_prefix _ _ c.args.bytes.now c.copy_from_slice.ensures.after) c.chunk_lanes.ensures
