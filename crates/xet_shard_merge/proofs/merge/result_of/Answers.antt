use Rattle.std.proofs.Common.{◌∙◌, List, ap, filter, nat_eq, not}
use Rattle.std.specs.Cmp.Lexicographic.{pointwise}
use Rattle.std.specs.List.{list_any}
use Rattle.xet_shard_directory.specs.declared.shard_file.MDBShardFile.{MDBShardFile}
use Rattle.xet_shard_merge.proofs.merge.result_of.Goals as goal

pub returns-in-Ok-clause-obsolete : goal.returns-in-Ok-clause-obsolete
returns-in-Ok-clause-obsolete c =
    c.in-Ok.ensures.left
    ∙ ap (λ (rs : List MDBShardFile). filter (λ (s : MDBShardFile). not (list_any (λ (r : MDBShardFile). pointwise nat_eq r.path s.path) rs)) c.args.progress.taken.items) c.deref.ensures.value
