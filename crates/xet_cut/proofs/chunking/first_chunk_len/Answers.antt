use Rattle.std.proofs.Common.{◌∙◌, length, unwrap_or, sym, ap, arith}
use Rattle.xet_cut.specs.theorems.FirstBoundary.{first_chunk_len_is, none_in_nothing}
use Rattle.xet_cut.proofs.chunking.first_chunk_len.Goals as goal

pub boundary-requires : goal.boundary-requires
boundary-requires c = none_in_nothing c.args.limits.now c.recall_invariant.ensures.minimum_from c.recall_invariant.ensures.minimum_to

pub returns-in-Some-clause-value : goal.returns-in-Some-clause-value
returns-in-Some-clause-value c =
    omega (arith, first_chunk_len_is c.args.limits.now c.args.bytes.now ∙ ap (λ o. unwrap_or o (length c.args.bytes.now)) c.in-Some.ensures.value)

pub returns-in-None-clause-value : goal.returns-in-None-clause-value
returns-in-None-clause-value c =
    sym (first_chunk_len_is c.args.limits.now c.args.bytes.now ∙ ap (λ o. unwrap_or o (length c.args.bytes.now)) c.in-None.ensures.value)
