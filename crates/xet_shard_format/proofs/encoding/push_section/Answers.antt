use Rattle.std.proofs.Common.{◌++◌, ◌∙◌, ap}
use Rattle.xet_shard_format.specs.Rows.{row, row_bytes}
use Rattle.xet_shard_format.proofs.Growing.{fits_grow, rows_end, rows_grow}
use Rattle.xet_shard_format.specs.theorems.Steps.{lent_at, none_lent}
use Rattle.xet_shard_format.proofs.encoding.push_section.Goals as goal

pub loop-item-preserved : goal.loop-item-preserved
loop-item-preserved g c =
    let at = lent_at g.T.Lends.lent c.args.records.now c.loop-item.item-index c.item-item.result c.lend.result.now c.loop-item-test.true c.item-item.is c.lend.ensures in
    record {
      encoding = rows_grow g.R.Record.rows_of c.loop-item.encoding.items c.push.new.encoding.items _ _ c.loop-item.item-index c.lend.result.now at.0 at.1 c.in_ok-push.ensures.encoding c.loop-item.invariant.encoding;
      fits = fits_grow g.R.Record.rows_of _ _ c.loop-item.item-index c.lend.result.now at.0 at.1 c.in_ok-push.ensures.fits c.loop-item.invariant.fits;
    }

pub returns-clause-encoding : goal.returns-clause-encoding
returns-clause-encoding g c =
    rows_end g.R.Record.rows_of c.loop-item.encoding.items c.push_row.new.encoding.items _ _ c.loop-item.item-index (none_lent g.T.Lends.lent c.args.records.now c.loop-item.item-index c.loop-item-test.false)
    (c.in_ok-push_row.ensures.encoding ∙ ap (λ (r : _). c.loop-item.encoding.items ++ row_bytes r) (c.of_hash.ensures ∙ ap (λ (h : _). row h 0 0 0 0) c.marker.ensures)) c.loop-item.invariant.encoding
