use Rattle.std.proofs.Common.{◌∙◌, ◌++◌, ap, arith, length}
use Rattle.std.proofs.lemmas.List.{length-map}
use Rattle.xet_shard_format.specs.Records.{chunk_row, xorb_rows}
use Rattle.xet_shard_format.specs.Lookups.{flat_places, lookup_rows_from}
use Rattle.xet_shard_format.specs.theorems.Steps.{chunks_end, chunks_grow, lent_at, none_lent, rows_step}
use Rattle.xet_shard_format.proofs.lookup.places.Goals as goal

pub push_chunks-requires : goal.push_chunks-requires
push_chunks-requires g c =
    let at = lent_at g.T.Lends.lent c.args.blocks.now c.loop-item.item-index c.item-item.result c.lend-block.result.now c.loop-item-test.true c.item-item.is c.lend-block.ensures in
    omega (arith, c.requires, c.loop-item.invariant.row, ap length c.as_slice.ensures, length-map c.lend-block.result.now.chunks chunk_row, rows_step xorb_rows _ c.loop-item.item-index c.lend-block.result.now at.0 at.1)

pub num_rows-row-requires : goal.num_rows-row-requires
num_rows-row-requires g c =
    let at = lent_at g.T.Lends.lent c.args.blocks.now c.loop-item.item-index c.item-item.result c.lend-block.result.now c.loop-item-test.true c.item-item.is c.lend-block.ensures in
    omega (arith, c.requires, c.loop-item.invariant.row, rows_step xorb_rows _ c.loop-item.item-index c.lend-block.result.now at.0 at.1)

pub overflow_add-row : goal.overflow_add-row
overflow_add-row g c =
    let at = lent_at g.T.Lends.lent c.args.blocks.now c.loop-item.item-index c.item-item.result c.lend-block.result.now c.loop-item-test.true c.item-item.is c.lend-block.ensures in
    omega (arith, c.requires, c.loop-item.invariant.row, c.num_rows-row.ensures, rows_step xorb_rows _ c.loop-item.item-index c.lend-block.result.now at.0 at.1)

pub loop-item-preserved : goal.loop-item-preserved
loop-item-preserved g c =
    let at = lent_at g.T.Lends.lent c.args.blocks.now c.loop-item.item-index c.item-item.result c.lend-block.result.now c.loop-item-test.true c.item-item.is c.lend-block.ensures in
    record {
      row = omega (arith, c.loop-item.invariant.row, c.num_rows-row.ensures, rows_step xorb_rows _ c.loop-item.item-index c.lend-block.result.now at.0 at.1);
      so_far = chunks_grow (flat_places c.loop-item.found.items) (flat_places c.push_chunks.new.found.items) _ c.loop-item.row c.num_rows-row.result _ c.loop-item.item-index c.lend-block.result.now at.0 at.1
          (c.in_ok-push_chunks.ensures ∙ ap (λ (cs : _). flat_places c.loop-item.found.items ++ lookup_rows_from c.loop-item.row 0 cs) c.as_slice.ensures) c.num_rows-row.ensures c.loop-item.invariant.so_far;
    }

pub returns : goal.returns
returns g c = chunks_end (flat_places c.loop-item.found.items) _ c.loop-item.row _ c.loop-item.item-index (none_lent g.T.Lends.lent c.args.blocks.now c.loop-item.item-index c.loop-item-test.false) c.loop-item.invariant.so_far
