use Rattle.std.proofs.Common.{◌≡◌, ◌∙◌, ℕ, List, subst}
use Rattle.xet_io.specs.Disk.{synced}
use Rattle.xet_shard_directory.proofs.Written.{stood_value}
use Rattle.xet_shard_directory.proofs.standing.keep_named_file.Goals as goal

pub returns-in-Ok-true-clause-stood : goal.returns-in-Ok-true-clause-stood
returns-in-Ok-true-clause-stood g c = λ told target named.
    let old = g.D.Disk.files c.args.disk.now in
    let mid = g.D.Disk.files c.sync.new.self in
    let value = c.value_of.ensures in
    let done = c.in-Ok-true.ensures.told told in
    let same : mid ≡ synced old c.args.path = subst (λ (p : List ℕ). mid ≡ synced old p) c.as_str.ensures done.1 in
    rw value.frame.same (stood_value old mid target c.args.bytes.now c.args.hash c.args.path c.args.shard c.value_of.result c.requires.hash named (c.requires.there told) same
    (λ f there. value.time (c.in-Ok-true.ensures.tells ∙ told) f there) value.value c.requires.shard)
