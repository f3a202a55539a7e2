use Rattle.std.proofs.Common.{◌≡◌, sym}
use Rattle.xet_folder.specs.declared.contents.Contents.{Contents}
use Rattle.xet_store_disk.proofs.Opened.{sound_opened}
use Rattle.xet_store_disk.proofs.store.Store.of_folder.Goals as goal

pub invariant_of-result : goal.invariant_of-result
invariant_of-result g c =
    let same : ◌≡◌ {A = Contents} c.args.contents (record { shards = c.into_vec.result.items; xorbs = c.into_rows.result.entries; records = c.into_rows-2.result.entries })
    = λ i. record { shards = sym c.into_vec.ensures i; xorbs = sym c.into_rows.ensures.rows i; records = sym c.into_rows-2.ensures.rows i } in
    sound_opened _ c.args.contents same c.new.ensures c.requires.backed c.requires.recorded c.requires.hashes c.into_rows.ensures.hashes c.into_rows.ensures.differ c.into_rows-2.ensures.differ c.requires.contents
