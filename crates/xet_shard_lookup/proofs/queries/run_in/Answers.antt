use Rattle.xet_shard_lookup.proofs.Asking.{run_is_there, run_of_file}
use Rattle.xet_shard_lookup.proofs.queries.run_in.Goals as goal

pub returns-clause-found : goal.returns-clause-found
returns-clause-found g c told s word item same holds listed =
    run_of_file c.queries_are_answered.ensures.in_row c.rows_of_items_are_heads.ensures (g.D.Disk.files c.args.disk.now) c.args.query.now c.args.place s c.args.file.now c.chunk_hash_dedup_query_in_row.result word item
    same holds listed (rw c.from.ensures at (c.chunk_hash_dedup_query_in_row.ensures.present told)) (c.chunk_hash_dedup_query_in_row.ensures.absent told)

pub returns-clause-there : goal.returns-clause-there
returns-clause-there g c told pending files number listed =
    run_is_there (g.D.Disk.files c.args.disk.now) pending files number c.args.file.now c.args.query.now c.args.place.row c.args.place.chunk c.chunk_hash_dedup_query_in_row.result listed
    (rw c.from.ensures at (c.chunk_hash_dedup_query_in_row.ensures.present told)) (c.chunk_hash_dedup_query_in_row.ensures.absent told)
