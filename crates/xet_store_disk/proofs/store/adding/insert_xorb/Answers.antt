use Rattle.std.proofs.Common.{◌∙◌, nat_eq}
use Rattle.std.specs.Cmp.Lexicographic.{pointwise}
use Rattle.indexmap.proofs.CallerLemmas.{insert_entry-new}
use Rattle.xet_store_disk.proofs.Answering.{from_ok}
use Rattle.xet_store_disk.proofs.store.adding.insert_xorb.Goals as goal

pub returns : goal.returns
returns c =
    let call = c.insert-inserted in from_ok call.result (call.ensures.succeeds c.requires.room) call.ensures.entries ∙ insert_entry-new (pointwise nat_eq) c.args.xorbs.now c.args.hash c.args.leaves c.requires.new
