use Rattle.std.proofs.Common.{◌++◌, map, subst, rules}
use Rattle.xet_shard_format.specs.Rows.{RowFits}
use Rattle.xet_shard_format.specs.Records.{ext_rows, file_head, segment_row, verification_row}
use Rattle.xet_shard_format.specs.theorems.Bytes.{head_and_three}
use Rattle.xet_base.specs.theorems.Elements.{all_both}
use Rattle.xet_shard_format.proofs.encoding.push_file.Goals as goal

pub returns-clause-encoding : goal.returns-clause-encoding
returns-clause-encoding c =
    let f = c.args.file.now in
    head_and_three c.args.encoding.now.items c.push_row.new.encoding.items c.push_entries.new.encoding.items c.push_entries-2.new.encoding.items c.push_ext.new.encoding.items
    (file_head f) (map segment_row f.segments) (map verification_row f.verification) (ext_rows f.metadata_ext) (search rules) (search rules) (search rules) (search rules)

pub returns-clause-fits : goal.returns-clause-fits
returns-clause-fits c =
    let f = c.args.file.now in (
      subst RowFits c.new-head.ensures c.push_row.ensures.fits,
      all_both RowFits (map segment_row f.segments) (map verification_row f.verification ++ ext_rows f.metadata_ext) (search rules)
          (all_both RowFits (map verification_row f.verification) (ext_rows f.metadata_ext) (search rules) (search rules)),
    )
