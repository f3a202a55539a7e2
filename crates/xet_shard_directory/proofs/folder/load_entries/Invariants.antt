use Rattle.std.proofs.Common.{◌≡◌, ◌++◌, false, take, true}
use Rattle.std.specs.List.{All, flat_map}
use Rattle.xet_io.specs.Frame.{Unchanged}
use Rattle.xet_shard_directory.specs.internal.Folders.{IsListedRead, listed_shard}
use Rattle.xet_shard_directory.proofs.folder.load_entries.Given as goal

abbrev pub invariant-loop-entry : goal.invariant-loop-entry
invariant-loop-entry g l =
    let files = g.D.Disk.files l.fn.disk in
    record {
      told : g.D.Disk.tells l.fn.disk ≡ true → l.shards.items ≡ l.fn.shards.items ++ flat_map (listed_shard files l.folder) (take l.entry-index l.entries);
      all : g.D.Disk.tells l.fn.disk ≡ true → l.skip_on_error ≡ false → All (IsListedRead files l.folder) (take l.entry-index l.entries);
      frame : Unchanged g.D.Disk.files g.D.Disk.tells g.D.Disk.faults l.fn.disk l.disk;
    }
