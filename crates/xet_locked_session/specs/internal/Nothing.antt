-- What the names of a session are where there is none.
use Rattle.std.specs.Prelude.{[], false}
use Rattle.xet_io.specs.Disk.{no_files}
use Rattle.atomic_table.specs.Seated.{TableId}
use Rattle.xet_shard.specs.Held.{nothing}
use Rattle.xet_store.specs.Recorded.{RecordedState}
use Rattle.xet_store_disk.specs.Store.{state}
use Rattle.xet_xorb_chunk.specs.declared.scheme.CompressionScheme.TheVariants as scheme

abbrev pub no_table : TableId
no_table = record { words = 0; slots = 0; views_name = 0; atom = 0; block = 0; offset = 0; slot_names = [] }

abbrev pub no_store : RecordedState
no_store = record {
  store = state false no_files 0 []
      (record {
        target_chunk = 0;
        minimum_chunk = 0;
        maximum_chunk = 0;
        cut_bytes = 0;
        cut_chunks = 0;
        shard_target = 0;
        guard_window = 0;
        min_range = (0, 0);
        low_factor = (0, 0);
        block_bytes = 0;
        max_source_bytes = 0;
        scheme = scheme.None;
        index_cap = 0;
        expiry_buffer = 0;
        gear = [];
      })
      0 [] [] [] nothing;
  shards = [];
  history = [];
}
