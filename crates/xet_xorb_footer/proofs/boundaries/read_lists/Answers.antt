use Rattle.std.proofs.Common.{◌≡◌, ◌+◌, ◌*◌, arith, drop}
use Rattle.xet_codec.specs.Blocks.{RefusedBy}
use Rattle.xet_xorb_footer.specs.internal.Places.{lists_at}
use Rattle.xet_base.specs.theorems.Exits.{exit_with}
use Rattle.xet_codec.specs.theorems.Seeing.{sees_on}
use Rattle.xet_xorb_footer.proofs.Sections.{at_place, ends_unread, lists_are, plain_unread}
use Rattle.xet_xorb_footer.proofs.boundaries.read_lists.Goals as goal

pub returns-in_err-ends-clause-refused : goal.returns-in_err-ends-clause-refused
returns-in_err-ends-clause-refused g c = λ bytes tells.
    exit_with (RefusedBy (lists_at c.args.count (drop c.args.at bytes))) _ _ c.from_residual.ensures.1 (ends_unread c.args.count _ c.in_err-ends.field-0.0 (c.in_err-ends.ensures.refused bytes tells))

pub returns-in_err-plain-clause-refused : goal.returns-in_err-plain-clause-refused
returns-in_err-plain-clause-refused g c = λ bytes tells.
    let n = c.args.count in let b = drop c.args.at bytes in
    let s1 = c.in_ok-ends.ensures in
    exit_with (RefusedBy (lists_at n b)) _ _ c.from_residual-in_err-plain.ensures.1
    (plain_unread n b _ c.in_ok-ends.ends.items c.in_err-plain.field-0.0 (s1.read bytes tells) (c.in_err-plain.ensures.refused bytes (sees_on tells s1.frame.tells s1.frame.same (s1.part bytes tells))))

pub returns-clause-read : goal.returns-clause-read
returns-clause-read g c = λ bytes tells.
    let n = c.args.count in let at = c.args.at in let b = drop at bytes in
    let s1 = c.in_ok-ends.ensures in
    let end : at + 4 * n + 4 * n ≡ at + 8 * n = omega arith in
    at_place _ (c.in_ok-ends.ends.items, c.in_ok-plain.plain.items) bytes (at + 4 * n + 4 * n) (at + 8 * n)
    (lists_are n b _ _ c.in_ok-ends.ends.items c.in_ok-plain.plain.items (s1.read bytes tells) (c.in_ok-plain.ensures.read bytes (sees_on tells s1.frame.tells s1.frame.same (s1.part bytes tells)))) end

pub returns-clause-part : goal.returns-clause-part
returns-clause-part g c = λ bytes tells.
    let s1 = c.in_ok-ends.ensures in
    c.in_ok-plain.ensures.part bytes (sees_on tells s1.frame.tells s1.frame.same (s1.part bytes tells))
