use Rattle.std.proofs.Common.{◌≡◌, ◌∙◌, IfSome, List, ℕ, subst, sym, ap}
use Rattle.std.proofs.lemmas.Bool.{true≢false}
use Rattle.xet_shard_format.specs.internal.Names.{has_capitals}
use Rattle.xet_shard_format.specs.Names.{shard_name}
use Rattle.xet_shard_format.proofs.Capitals.{encoded_small, found_is, text_is}
use Rattle.xet_shard_format.proofs.names.parse_shard_filename.Goals as goal

pub returns-then-has_capitals-clause-every : goal.returns-then-has_capitals-clause-every
returns-then-has_capitals-clause-every c = λ hash len bytes is.
    absurd (true≢false (sym c.if-has_capitals.true ∙ c.has_capitals.ensures ∙ ap has_capitals (text_is _ _ hash c.in_ok-text.ensures.cases is) ∙ encoded_small _))

pub returns-clause-found : goal.returns-clause-found
returns-clause-found c =
    subst (λ o. IfSome o (λ (hash : List ℕ). c.args.name.now ≡ shard_name hash)) (sym c.ok.ensures.value)
    (found_is c.args.name.now c.in_ok-text.text.now c.from_hex.result c.in_ok-text.ensures.cases (sym c.has_capitals.ensures ∙ c.if-has_capitals.false) c.from_hex.ensures.hash)
