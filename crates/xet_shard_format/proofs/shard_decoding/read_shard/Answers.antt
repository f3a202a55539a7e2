use Rattle.std.proofs.Common.{ap, subst, ◌∙◌, arith}
use Rattle.xet_codec.specs.Parsing.{Gives}
use Rattle.xet_shard_format.specs.Reading.{IsRead, all_of}
use Rattle.xet_shard_format.specs.theorems.WholeAgain.{all_again}
use Rattle.xet_shard_format.specs.theorems.WholeTaken.{all_takes}
use Rattle.xet_shard_format.specs.theorems.Finding.{given_ok}
use Rattle.xet_shard_format.proofs.shard_decoding.read_shard.Goals as goal

pub returns-clause-found : goal.returns-clause-found
returns-clause-found c =
    given_ok (λ x. (x.0.items, x.1.items, x.2)) c.all.result (all_of c.args.bytes.now) (IsRead c.args.bytes.now) (λ p e. all_takes c.args.bytes.now p (λ i. omega (arith, c.type_inv.bytes i)) e) c.all.ensures

pub returns-clause-only : goal.returns-clause-only
returns-clause-only c = λ w s form fits e. subst (λ r. Gives (λ x. (x.0.items, x.1.items, x.2)) c.all.result r) (ap all_of e ∙ all_again w s form fits) c.all.ensures
