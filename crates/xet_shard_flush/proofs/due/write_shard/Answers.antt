use Rattle.std.proofs.Common.{◌≡◌, ◌∙◌, List, ap, string_bytes, subst, sym, ℕ}
use Rattle.std.specs.Prelude.{IfOk}
use Rattle.xet_shard_directory.specs.Writing.{path_of}
use Rattle.xet_shard_flush.specs.Due.{Due}
use Rattle.xet_shard_flush.specs.Importing.{Imports}
use Rattle.xet_shard_flush.proofs.due.write_shard.Goals as goal

pub returns-then-contains-clause-flushed : goal.returns-then-contains-clause-flushed
returns-then-contains-clause-flushed g c = λ folder named.
    let files = g.D.Disk.files in
    let t = c.args.registry.now in
    let bytes : c.deref.result.now ≡ c.args.due.bytes = c.deref.ensures.value ∙ ap (λ (d : Due). d.bytes) c.due.view_is in
    let path : c.due.inside.file.path ≡ c.args.due.path = ap (λ (d : Due). d.path) c.due.view_is in
    subst (λ (b : List ℕ). IfOk c.write_known.result (λ p. Imports (g.D.Disk.tells c.args.disk.now) c.args.cap (files c.args.disk.now) (files c.write_known.new.disk) folder b t t (string_bytes p))) bytes
    (c.write_known.ensures.imported folder c.args.cap (path ∙ named ∙ ap (path_of folder) (sym bytes)))
