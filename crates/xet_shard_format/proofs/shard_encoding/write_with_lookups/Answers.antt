use Rattle.std.proofs.Common.{◌++◌, ◌∙◌, ap, map}
use Rattle.xet_shard_format.specs.Rows.{rows_bytes}
use Rattle.xet_shard_format.specs.Records.{file_section, xorb_section}
use Rattle.xet_shard_format.specs.Lookups.{Lookups, chunk_items, file_items, record_items_bytes, left_in, chunk_items_bytes, xorb_items}
use Rattle.xet_shard_format.specs.Encoding.{shard_footer_bytes, header, shard_header_bytes, shard, shard_bytes}
use Rattle.xet_shard_format.specs.theorems.Bytes.{piece_before}
use Rattle.xet_shard_format.specs.theorems.Counts.{footer_counted}
use Rattle.xet_shard_format.specs.theorems.Fitting.{materialized_below, stored_below}
use Rattle.xet_shard_format.proofs.shard_encoding.write_with_lookups.Goals as goal

pub materialized-requires : goal.materialized-requires
materialized-requires g c = materialized_below (map g.F.Lends.lent c.args.files.now) c.requires.few_files c.in_ok-push_section.ensures.fits

pub stored-requires : goal.stored-requires
stored-requires g c = stored_below (map g.B.Lends.lent c.args.blocks.now) c.requires.few_blocks c.in_ok-push_section-2.ensures.fits

pub returns-clause-encoding : goal.returns-clause-encoding
unfolding shard_bytes
returns-clause-encoding g c =
    let blocks = map g.B.Lends.lent c.args.blocks.now in
    let files = map g.F.Lends.lent c.args.files.now in
    let w : Lookups = record { files = c.args.lookups.files; xorbs = c.args.lookups.xorbs; chunks = c.args.lookups.chunks } in
    let s = shard blocks files c.args.key c.args.creation c.args.expiry in
    let n = c.count-all.ensures in
    let m = c.standing-counts.ensures in
    let f = footer_counted w s (m.file_rows ∙ n.file_rows) (m.xorb_rows ∙ n.xorb_rows) m.files m.xorbs m.chunks n.files n.xorbs n.chunks c.materialized.ensures c.stored.ensures in
    let e7 = c.in_ok-push_footer.ensures ∙ ap (λ f. c.push_standing_places.new.encoding.items ++ shard_footer_bytes f) (c.footer-footer.ensures ∙ f) in
    let e6 = piece_before c.push_standing_heads-2.new.encoding.items c.push_standing_places.new.encoding.items _ (chunk_items_bytes (left_in w.chunks (chunk_items blocks))) _ c.in_ok-push_standing_places.ensures e7 in
    let e5 = piece_before c.push_standing_heads.new.encoding.items c.push_standing_heads-2.new.encoding.items _ (record_items_bytes (left_in w.xorbs (xorb_items blocks))) _ c.in_ok-push_standing_heads-2.ensures e6 in
    let e4 = piece_before c.push_section-2.new.encoding.items c.push_standing_heads.new.encoding.items _ (record_items_bytes (left_in w.files (file_items files))) _ c.in_ok-push_standing_heads.ensures e5 in
    let e3 = piece_before c.push_section.new.encoding.items c.push_section-2.new.encoding.items _ (rows_bytes (xorb_section blocks)) _ c.in_ok-push_section-2.ensures.encoding e4 in
    let e2 = piece_before c.push_header.new.encoding.items c.push_section.new.encoding.items _ (rows_bytes (file_section files)) _ c.in_ok-push_section.ensures.encoding e3 in
    let e1 = piece_before c.in_ok-encoding.encoding.items c.push_header.new.encoding.items _ (shard_header_bytes header) _ c.in_ok-push_header.ensures e2 in
    e1 ∙ ap (λ t. t ++ shard_bytes w s) c.in_ok-encoding.ensures.items

pub returns-clause-footer : goal.returns-clause-footer
returns-clause-footer g c =
    let w : Lookups = record { files = c.args.lookups.files; xorbs = c.args.lookups.xorbs; chunks = c.args.lookups.chunks } in
    let s = shard (map g.B.Lends.lent c.args.blocks.now) (map g.F.Lends.lent c.args.files.now) c.args.key c.args.creation c.args.expiry in
    let n = c.count-all.ensures in
    let m = c.standing-counts.ensures in
    c.footer-footer.ensures ∙ footer_counted w s (m.file_rows ∙ n.file_rows) (m.xorb_rows ∙ n.xorb_rows) m.files m.xorbs m.chunks n.files n.xorbs n.chunks c.materialized.ensures c.stored.ensures
