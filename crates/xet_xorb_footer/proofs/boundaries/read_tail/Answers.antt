use Rattle.std.proofs.Common.{◌≡◌, ◌∙◌, ◌+◌, List, Ok, ap, arith, drop, sym, ℕ}
use Rattle.xet_codec.specs.Blocks.{RefusedBy}
use Rattle.xet_xorb_footer.specs.internal.Places.{tail_at}
use Rattle.xet_codec.specs.Parsing.{next_bytes}
use Rattle.xet_xorb_footer.proofs.Endings.{field_then}
use Rattle.xet_base.specs.theorems.Exits.{exit_with}
use Rattle.xet_xorb_footer.specs.theorems.Prefixes.{bytes_short}
use Rattle.xet_codec.specs.theorems.Seeing.{sees_on}
use Rattle.xet_xorb_footer.proofs.Placing.{short_refused}
use Rattle.xet_xorb_footer.proofs.Sections.{at_place, tail_count, tail_hashes, tail_is, tail_offset, tail_short}
use Rattle.xet_xorb_footer.proofs.boundaries.read_tail.Goals as goal

pub returns-in_err-expect_number-clause-refused : goal.returns-in_err-expect_number-clause-refused
returns-in_err-expect_number-clause-refused g c = λ bytes tells.
    let b = drop c.args.at bytes in
    exit_with (RefusedBy (tail_at c.args.count b)) _ _ c.from_residual.ensures.1 (tail_count c.args.count b c.in_err-expect_number.field-0.0 (c.in_err-expect_number.ensures.refused bytes tells))

pub returns-in_err-hashes-clause-refused : goal.returns-in_err-hashes-clause-refused
returns-in_err-hashes-clause-refused g c = λ bytes tells.
    let b = drop c.args.at bytes in
    let s1 = c.in_ok-expect_number.ensures in
    exit_with (RefusedBy (tail_at c.args.count b)) _ _ c.from_residual-in_err-hashes.ensures.1
    (tail_hashes c.args.count b _ c.in_err-hashes.field-0.0 (s1.read bytes tells) (c.in_err-hashes.ensures.refused bytes (sees_on tells s1.frame.tells s1.frame.same (s1.part bytes tells))))

pub returns-in_err-expect_number-2-clause-refused : goal.returns-in_err-expect_number-2-clause-refused
returns-in_err-expect_number-2-clause-refused g c = λ bytes tells.
    let at = c.args.at in let b = drop at bytes in
    let s1 = c.in_ok-expect_number.ensures in let t1 = sees_on tells s1.frame.tells s1.frame.same (s1.part bytes tells) in
    let s2 = c.in_ok-hashes.ensures in let t2 = sees_on t1 s2.frame.tells s2.frame.same (s2.part bytes t1) in
    let sum : at + 4 + 4 ≡ at + 8 = omega arith in let h = c.in_ok-hashes.hashes in
    exit_with (RefusedBy (tail_at c.args.count b)) _ _ c.from_residual-in_err-expect_number-2.ensures.1
    (tail_offset c.args.count h b (drop (at + 4) bytes) (drop (at + 8) bytes) c.in_err-expect_number-2.field-0.0 (s1.read bytes tells) (at_place _ h bytes (at + 4 + 4) (at + 8) (s2.read bytes t1) sum)
    (c.in_err-expect_number-2.ensures.refused bytes t2))

pub returns-in_err-load-clause-refused : goal.returns-in_err-load-clause-refused
returns-in_err-load-clause-refused g c = λ bytes tells.
    let at = c.args.at in let b = drop at bytes in
    let s1 = c.in_ok-expect_number.ensures in let t1 = sees_on tells s1.frame.tells s1.frame.same (s1.part bytes tells) in
    let s2 = c.in_ok-hashes.ensures in let t2 = sees_on t1 s2.frame.tells s2.frame.same (s2.part bytes t1) in
    let s3 = c.in_ok-expect_number-2.ensures in let t3 = sees_on t2 s3.frame.tells s3.frame.same (s3.part bytes t2) in
    let sum : at + 4 + 4 ≡ at + 8 = omega arith in let more : at + 8 + 4 ≡ at + 12 = omega arith in
    let h = c.in_ok-hashes.hashes in let e = c.in_err-load.field-0.0 in
    exit_with (RefusedBy (tail_at c.args.count b)) _ _ c.from_residual-in_err-load.ensures.1
    (tail_short c.args.count h b (drop (at + 4) bytes) (drop (at + 8) bytes) (drop (at + 12) bytes) e (s1.read bytes tells) (at_place _ h bytes (at + 4 + 4) (at + 8) (s2.read bytes t1) sum)
    (at_place _ tt bytes (at + 8 + 4) (at + 12) (s3.read bytes t2) more)
    (short_refused (next_bytes 16) bytes (at + 12) 16 e (bytes_short 16) (c.in_err-load.ensures.refused bytes t3)))

pub returns-clause-read : goal.returns-clause-read
returns-clause-read g c = λ bytes tells.
    let at = c.args.at in let b = drop at bytes in
    let s1 = c.in_ok-expect_number.ensures in let t1 = sees_on tells s1.frame.tells s1.frame.same (s1.part bytes tells) in
    let s2 = c.in_ok-hashes.ensures in let t2 = sees_on t1 s2.frame.tells s2.frame.same (s2.part bytes t1) in
    let s3 = c.in_ok-expect_number-2.ensures in let t3 = sees_on t2 s3.frame.tells s3.frame.same (s3.part bytes t2) in
    let sum : at + 4 + 4 ≡ at + 8 = omega arith in let more : at + 8 + 4 ≡ at + 12 = omega arith in let end : at + 12 + 16 ≡ at + 28 = omega arith in
    let h = c.in_ok-hashes.hashes in let spare = c.part.result.now in
    let there = field_then 16 (at + 12) spare bytes (c.part.ensures.value bytes (c.in_ok-load.ensures.part bytes t3)) in
    at_place _ (h, spare) bytes (at + 12 + 16) (at + 28)
    (tail_is c.args.count h b (drop (at + 4) bytes) (drop (at + 8) bytes) (drop (at + 12) bytes) spare (drop (at + 12 + 16) bytes) (s1.read bytes tells) (at_place _ h bytes (at + 4 + 4) (at + 8) (s2.read bytes t1) sum)
    (at_place _ tt bytes (at + 8 + 4) (at + 12) (s3.read bytes t2) more) there c.part.ensures.len) end
    ∙ ap (λ (s : List ℕ). Ok ((h, s), drop (at + 28) bytes)) (sym c.copy_from_slice.ensures.after)

pub returns-clause-part : goal.returns-clause-part
returns-clause-part g c = λ bytes tells.
    let s1 = c.in_ok-expect_number.ensures in let t1 = sees_on tells s1.frame.tells s1.frame.same (s1.part bytes tells) in
    let s2 = c.in_ok-hashes.ensures in let t2 = sees_on t1 s2.frame.tells s2.frame.same (s2.part bytes t1) in
    let s3 = c.in_ok-expect_number-2.ensures in let t3 = sees_on t2 s3.frame.tells s3.frame.same (s3.part bytes t2) in
    c.in_ok-load.ensures.part bytes t3
