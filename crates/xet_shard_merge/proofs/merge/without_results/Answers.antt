use Rattle.std.proofs.Common.{◌∙◌, Bor, List, filter, nat_eq, not, rules, ℕ}
use Rattle.std.proofs.lemmas.Fn.{filter_same}
use Rattle.std.specs.Cmp.Lexicographic.{pointwise}
use Rattle.std.specs.List.{list_any}
use Rattle.xet_shard_directory.specs.declared.shard_file.MDBShardFile.{MDBShardFile}
use Rattle.xet_shard_merge.proofs.merge.without_results.Goals as goal

pub returns-in-Ok-clause-left : goal.returns-in-Ok-clause-left
returns-in-Ok-clause-left c =
    let paths = c.in-Ok.paths.keys in
    filter_same _ (λ (s : MDBShardFile). not (list_any (λ (k : Bor (List ℕ)). pointwise nat_eq s.path k.now) paths)) _ (λ s b f called. search rules) c.args.shards.items c.retain.new.self.items
    c.retain.ensures.filtered
    ∙ (λ i. filter (λ (s : MDBShardFile). not (c.in-Ok.ensures.paths s.path i)) c.args.shards.items)
