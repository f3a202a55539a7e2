use Rattle.std.proofs.Common.{◌∙◌, ap, arith, drop, length-drop, refl, sym, take, ℕ}
use Rattle.xet_xorb_chunk.specs.Stream.{Whole}
use Rattle.xet_xorb_chunk.proofs.Checks.{shown_with}
use Rattle.xet_xorb_chunk.specs.theorems.Prefixes.{prefix_body, prefix_few, prefix_refused, prefix_short}
use Rattle.xet_xorb_chunk.proofs.chunk_prefix.chunk_len.Goals as goal

pub returns-in_err-header-clause-prefix : goal.returns-in_err-header-clause-prefix
returns-in_err-header-clause-prefix c =
    shown_with c.args.max_chunk c.args.bytes.now c.from_residual.result _ c.from_residual.ensures.1
    (prefix_refused c.args.max_chunk c.args.bytes.now _ c.in_err-header.ensures.refused_whole c.in_err-header.ensures.refused)

pub returns-in_default-clause-prefix : goal.returns-in_default-clause-prefix
returns-in_default-clause-prefix c = prefix_few c.args.max_chunk c.args.bytes.now (c.in_ok-header.ensures.none (rw c.in_default.is refl))

pub returns-then-bytes-stored-clause-prefix : goal.returns-then-bytes-stored-clause-prefix
returns-then-bytes-stored-clause-prefix c =
    let some = rw c.in-Some.is at c.in_ok-header.ensures.some in
    prefix_short c.args.max_chunk c.args.bytes.now c.in-Some.header some.0 (omega (arith, some.1, length-drop 8 c.args.bytes.now, c.get_compressed_length-stored.ensures))

pub returns-in_err-check_body-clause-prefix : goal.returns-in_err-check_body-clause-prefix
returns-in_err-check_body-clause-prefix c =
    let some = rw c.in-Some.is at c.in_ok-header.ensures.some in
    shown_with c.args.max_chunk c.args.bytes.now c.from_residual-in_err-check_body.result _ c.from_residual-in_err-check_body.ensures.1
    (prefix_body c.args.max_chunk c.args.bytes.now c.in-Some.header some.0 some.1 (omega (arith, some.1, c.get_compressed_length-stored.ensures)) ∙ c.in_err-check_body.ensures.body _)

pub returns-clause-prefix : goal.returns-clause-prefix
returns-clause-prefix c =
    let some = rw c.in-Some.is at c.in_ok-header.ensures.some in (
      prefix_body c.args.max_chunk c.args.bytes.now c.in-Some.header some.0 some.1 (omega (arith, some.1, c.get_compressed_length-stored.ensures)) ∙ c.in_ok-check_body.ensures.body _ ∙ ap (λ (n : ℕ). Whole (take n (drop 8 c.args.bytes.now))) (sym c.get_compressed_length-stored.ensures),
      omega (arith, some.1, c.get_compressed_length-stored.ensures),
    )
