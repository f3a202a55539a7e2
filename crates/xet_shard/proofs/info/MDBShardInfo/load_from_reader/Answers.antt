use Rattle.std.proofs.Common.{◌∙◌, List, ap, length, subst, sym, ℕ}
use Rattle.xet_codec.specs.Parsing.{IsUnlessFault}
use Rattle.xet_shard.specs.Sections.{info_at}
use Rattle.xet_shard_format.specs.theorems.Refusing.{is_unless_fault}
use Rattle.xet_shard.proofs.info.MDBShardInfo.load_from_reader.Goals as goal

pub returns-clause-exact : goal.returns-clause-exact
returns-clause-exact g c = λ told.
    let same = c.in_ok-len.ensures.frame.same in
    subst (λ (b : List ℕ). IsUnlessFault c.load.result (info_at b)) same
    (is_unless_fault c.load.result _ (c.load.ensures.exact (c.in_ok-len.ensures.frame.tells ∙ told) (c.in_ok-len.ensures.told told ∙ ap length (sym same))) c.load.ensures.errors)
