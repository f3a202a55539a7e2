use Rattle.std.proofs.Common.{◌∙◌, ◌+◌, List, ap, drop, ℕ}
use Rattle.xet_codec.specs.Blocks.{RefusedBy}
use Rattle.xet_xorb_footer.specs.Reader.{footer_parts_of, rest_of}
use Rattle.xet_xorb_footer.proofs.Endings.{field_refused, field_then}
use Rattle.xet_base.specs.theorems.Exits.{exit_with}
use Rattle.xet_xorb_footer.proofs.Placing.{part_refused}
use Rattle.xet_xorb_footer.proofs.Shorts.{rest_short}
use Rattle.xet_xorb_footer.proofs.ends.read_field_at.Goals as goal

pub returns-in_err-load-clause-refused : goal.returns-in_err-load-clause-refused
returns-in_err-load-clause-refused g c = λ bytes sees.
    let r = c.args.footer.now in
    exit_with (RefusedBy (rest_of r (drop c.args.at bytes))) _ _ c.from_residual.ensures.1
    (part_refused (rest_of r) bytes c.args.at c.wanted-wanted.result _ c.in_err-load.field-0.0 c.wanted-wanted.ensures (rest_short r.next (footer_parts_of r)) (c.in_err-load.ensures.refused bytes sees))

pub returns-in_err-take-clause-refused : goal.returns-in_err-take-clause-refused
returns-in_err-take-clause-refused g c = λ bytes sees.
    let r = c.args.footer.now in
    let n = c.wanted-wanted.result in
    let is = c.part.ensures.value bytes (c.in_ok-load.ensures.part bytes sees) in
    exit_with (RefusedBy (rest_of r (drop c.args.at bytes))) _ _ c.from_residual-in_err-take.ensures.1
    (field_refused r.next (footer_parts_of r) n c.args.at c.part.result.now bytes _ is c.in_err-take.ensures.refused)

pub returns-clause-taken : goal.returns-clause-taken
returns-clause-taken g c = λ bytes sees.
    let n = c.wanted-wanted.result in
    let two = field_then n c.args.at c.part.result.now bytes (c.part.ensures.value bytes (c.in_ok-load.ensures.part bytes sees)) in
    ap (λ (b : List ℕ). rest_of c.args.footer.now b) two ∙ c.in_ok-take.ensures.taken (drop (c.args.at + n) bytes)
