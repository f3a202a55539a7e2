use Rattle.std.proofs.Common.{◌∙◌, ap, List, ℕ, Option, Result, subst, sym}
use Rattle.std.specs.Prelude.{IfErr}
use Rattle.xet_hash.specs.declared.error.StoreError.{StoreError}
use Rattle.xet_shard_directory.specs.Answers.{GivesUnlessDisk}
use Rattle.xet_shard_directory.specs.Values.{loaded}
use Rattle.xet_shard_directory.specs.declared.shard_file.MDBShardFile.{MDBShardFile}
use Rattle.xet_shard_directory.specs.internal.Folders.{IsUnread, unless_vanished}
use Rattle.xet_shard_directory.proofs.Skipping.{unread_entry}
use Rattle.xet_shard_directory.proofs.folder.load_entry.Goals as goal
use Rattle.xet_shard_file.specs.Names.{shard_path}

pub returns-clause-refused : goal.returns-clause-refused
returns-clause-refused g c = λ told.
    let files = g.D.Disk.files c.args.disk.now in
    let skip = c.args.skip_on_error in
    let answer = c.load_listed-answer.result in
    let read = loaded files c.args.entry.hash (shard_path c.args.folder.now c.args.entry.hash) in
    let given = subst (λ (p : List ℕ). GivesUnlessDisk (λ (s : MDBShardFile). s) answer (loaded files c.args.entry.hash p)) c.in_ok-path.ensures.path (c.load_listed-answer.ensures.exact told) in
    subst (λ (r : Result (Option MDBShardFile) StoreError). IfErr r (IsUnread skip read)) (sym (c.unless_vanished.ensures ∙ ap unless_vanished c.unless_skipped.ensures))
    (unread_entry skip answer read given)
