use Rattle.std.proofs.Common.{◌≡◌, ◌∙◌, ◌+◌, arith, drop, inl}
use Rattle.xet_codec.specs.Blocks.{RefusedBy}
use Rattle.xet_xorb_footer.specs.internal.Places.{head_at}
use Rattle.xet_base.specs.theorems.Exits.{exit_with}
use Rattle.xet_codec.specs.theorems.Seeing.{sees_on}
use Rattle.xet_xorb_footer.proofs.Sections.{at_place, count_few, count_many, count_unread, head_from, head_ident, head_version, refused_as}
use Rattle.xet_xorb_footer.proofs.boundaries.read_head.Goals as goal

pub returns-in_err-expect_bytes-clause-refused : goal.returns-in_err-expect_bytes-clause-refused
returns-in_err-expect_bytes-clause-refused g c = λ bytes tells.
    let b = drop c.args.at bytes in
    exit_with (RefusedBy (head_at b)) _ _ c.from_residual.ensures.1 (head_ident b c.in_err-expect_bytes.field-0.0 (c.in_err-expect_bytes.ensures.refused bytes tells))

pub returns-in_err-expect_bytes-2-clause-refused : goal.returns-in_err-expect_bytes-2-clause-refused
returns-in_err-expect_bytes-2-clause-refused g c = λ bytes tells.
    let at = c.args.at in let b = drop at bytes in
    let s1 = c.in_ok-expect_bytes.ensures in
    exit_with (RefusedBy (head_at b)) _ _ c.from_residual-in_err-expect_bytes-2.ensures.1
    (head_version b (drop (at + 7) bytes) c.in_err-expect_bytes-2.field-0.0 (s1.read bytes tells) (c.in_err-expect_bytes-2.ensures.refused bytes (sees_on tells s1.frame.tells s1.frame.same (s1.part bytes tells))))

pub returns-in_err-count-clause-refused : goal.returns-in_err-count-clause-refused
returns-in_err-count-clause-refused g c = λ bytes tells.
    let at = c.args.at in let b = drop at bytes in
    let s1 = c.in_ok-expect_bytes.ensures in let t1 = sees_on tells s1.frame.tells s1.frame.same (s1.part bytes tells) in
    let s2 = c.in_ok-expect_bytes-2.ensures in let t2 = sees_on t1 s2.frame.tells s2.frame.same (s2.part bytes t1) in
    let e = c.in_err-count.field-0.0 in
    let two = at_place _ tt bytes (at + 7 + 1) (at + 8) (s2.read bytes t1) (omega arith) in
    exit_with (RefusedBy (head_at b)) _ _ c.from_residual-in_err-count.ensures.1
    (refused_as (head_at b) _ e (head_from b (drop (at + 7) bytes) (drop (at + 8) bytes) (s1.read bytes tells) two) (count_unread (drop (at + 8) bytes) e (c.in_err-count.ensures.refused bytes t2)))

pub returns-then-count-gt-MAX_CHUNKS-clause-refused : goal.returns-then-count-gt-MAX_CHUNKS-clause-refused
returns-then-count-gt-MAX_CHUNKS-clause-refused g c = λ bytes tells.
    let at = c.args.at in let b = drop at bytes in
    let s1 = c.in_ok-expect_bytes.ensures in let t1 = sees_on tells s1.frame.tells s1.frame.same (s1.part bytes tells) in
    let s2 = c.in_ok-expect_bytes-2.ensures in let t2 = sees_on t1 s2.frame.tells s2.frame.same (s2.part bytes t1) in
    let two = at_place _ tt bytes (at + 7 + 1) (at + 8) (s2.read bytes t1) (omega arith) in
    inl (head_from b (drop (at + 7) bytes) (drop (at + 8) bytes) (s1.read bytes tells) two ∙ count_many (drop (at + 8) bytes) _ c.in_ok-count.count (c.in_ok-count.ensures.read bytes t2) c.if-count-gt-MAX_CHUNKS.true)

pub returns-clause-read : goal.returns-clause-read
returns-clause-read g c = λ bytes tells.
    let at = c.args.at in let b = drop at bytes in
    let s1 = c.in_ok-expect_bytes.ensures in let t1 = sees_on tells s1.frame.tells s1.frame.same (s1.part bytes tells) in
    let s2 = c.in_ok-expect_bytes-2.ensures in let t2 = sees_on t1 s2.frame.tells s2.frame.same (s2.part bytes t1) in
    let two = at_place _ tt bytes (at + 7 + 1) (at + 8) (s2.read bytes t1) (omega arith) in
    let end : at + 8 + 4 ≡ at + 12 = omega arith in
    at_place _ c.in_ok-count.count bytes (at + 8 + 4) (at + 12)
    (head_from b (drop (at + 7) bytes) (drop (at + 8) bytes) (s1.read bytes tells) two ∙ count_few (drop (at + 8) bytes) _ c.in_ok-count.count (c.in_ok-count.ensures.read bytes t2) c.if-count-gt-MAX_CHUNKS.false) end

pub returns-clause-part : goal.returns-clause-part
returns-clause-part g c = λ bytes tells.
    let s1 = c.in_ok-expect_bytes.ensures in let t1 = sees_on tells s1.frame.tells s1.frame.same (s1.part bytes tells) in
    let s2 = c.in_ok-expect_bytes-2.ensures in let t2 = sees_on t1 s2.frame.tells s2.frame.same (s2.part bytes t1) in
    c.in_ok-count.ensures.part bytes t2
