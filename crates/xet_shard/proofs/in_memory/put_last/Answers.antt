use Rattle.std.proofs.Common.{◌∙◌, ap}
use Rattle.std.specs.Map.{remove_entry}
use Rattle.indexmap.proofs.CallerLemmas.{insert_entry-new}
use Rattle.xet_shard.proofs.Holding.{keyed_put, values_put}
use Rattle.xet_shard.proofs.in_memory.put_last.Goals as goal

pub returns-in-Ok-clause-keyed : goal.returns-in-Ok-clause-keyed
returns-in-Ok-clause-keyed g c =
    keyed_put g.X.Record.hash_of c.args.table.now.entries c.shift_remove-replaced.new.self.entries _ _ c.args.value c.requires.keyed c.hash-hash.ensures
    (c.shift_remove-replaced.ensures.entries ∙ ap (remove_entry _) c.reserve.ensures.entries)
    (c.in-Ok.ensures.entries ∙ insert_entry-new _ c.shift_remove-replaced.new.self _ c.args.value c.shift_remove-replaced.ensures.updates.1)

pub returns-in-Ok-clause-put : goal.returns-in-Ok-clause-put
returns-in-Ok-clause-put g c =
    values_put g.X.Record.hash_of c.args.table.now.entries c.shift_remove-replaced.new.self.entries _ _ c.args.value c.requires.keyed c.hash-hash.ensures
    (c.shift_remove-replaced.ensures.entries ∙ ap (remove_entry _) c.reserve.ensures.entries)
    (c.in-Ok.ensures.entries ∙ insert_entry-new _ c.shift_remove-replaced.new.self _ c.args.value c.shift_remove-replaced.ensures.updates.1) c.requires.differ
