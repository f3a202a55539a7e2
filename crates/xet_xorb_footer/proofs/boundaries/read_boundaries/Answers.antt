use Rattle.std.proofs.Common.{◌≡◌, ◌∙◌, ◌+◌, ◌*◌, Ok, ap, arith, drop}
use Rattle.xet_xorb_footer.specs.declared.info.XorbObjectInfoV1.{XorbObjectInfoV1}
use Rattle.xet_xorb_footer.specs.Ends.{boundaries}
use Rattle.xet_codec.specs.Blocks.{RefusedBy}
use Rattle.xet_base.specs.theorems.Exits.{exit_with}
use Rattle.xet_codec.specs.theorems.Seeing.{sees_on}
use Rattle.xet_xorb_footer.proofs.Placing.{sees_first}
use Rattle.xet_xorb_footer.proofs.Sections.{all_parts, at_place, filled_info, unread_head, unread_lists, unread_tail, whole_info}
use Rattle.xet_xorb_footer.proofs.boundaries.read_boundaries.Goals as goal

pub returns-in_err-count-clause-refused : goal.returns-in_err-count-clause-refused
returns-in_err-count-clause-refused g c = λ bytes told.
    let tells = sees_first c.new-block.result told (c.new-block.ensures bytes) in
    let b = drop c.args.at bytes in
    exit_with (RefusedBy (boundaries b)) _ _ c.from_residual.ensures.1 (unread_head b c.in_err-count.field-0.0 (c.in_err-count.ensures.refused bytes tells))

pub returns-in_err-ends-clause-refused : goal.returns-in_err-ends-clause-refused
returns-in_err-ends-clause-refused g c = λ bytes told.
    let tells = sees_first c.new-block.result told (c.new-block.ensures bytes) in
    let b = drop c.args.at bytes in
    let s1 = c.in_ok-count.ensures in
    exit_with (RefusedBy (boundaries b)) _ _ c.from_residual-in_err-ends.ensures.1
    (unread_lists c.in_ok-count.count b _ c.in_err-ends.field-0.0 (s1.read bytes tells) (c.in_err-ends.ensures.refused bytes (sees_on tells s1.frame.tells s1.frame.same (s1.part bytes tells))))

pub returns-in_err-hashes-clause-refused : goal.returns-in_err-hashes-clause-refused
returns-in_err-hashes-clause-refused g c = λ bytes told.
    let tells = sees_first c.new-block.result told (c.new-block.ensures bytes) in
    let b = drop c.args.at bytes in
    let s1 = c.in_ok-count.ensures in let t1 = sees_on tells s1.frame.tells s1.frame.same (s1.part bytes tells) in
    let s2 = c.in_ok-ends.ensures in
    exit_with (RefusedBy (boundaries b)) _ _ c.from_residual-in_err-hashes.ensures.1
    (unread_tail c.in_ok-count.count (c.in_ok-ends.ends.items, c.in_ok-ends.plain.items) b _ _ c.in_err-hashes.field-0.0 (s1.read bytes tells) (s2.read bytes t1) (c.in_err-hashes.ensures.refused bytes (sees_on t1 s2.frame.tells s2.frame.same (s2.part bytes t1))))

pub returns-clause-read : goal.returns-clause-read
returns-clause-read g c = λ bytes told.
    let tells = sees_first c.new-block.result told (c.new-block.ensures bytes) in
    let n = c.in_ok-count.count in let at = c.args.at in let b = drop at bytes in
    let s1 = c.in_ok-count.ensures in let t1 = sees_on tells s1.frame.tells s1.frame.same (s1.part bytes tells) in
    let s2 = c.in_ok-ends.ensures in let t2 = sees_on t1 s2.frame.tells s2.frame.same (s2.part bytes t1) in
    let ends = c.in_ok-ends.ends.items in let plain = c.in_ok-ends.plain.items in
    let h = c.in_ok-hashes.hashes in let spare = c.in_ok-hashes.spare in
    let end : at + 12 + 8 * n + 28 ≡ at + (40 + 8 * n) = omega arith in
    at_place _ (whole_info n (ends, plain) (h, spare)) bytes (at + 12 + 8 * n + 28) (at + (40 + 8 * n)) (all_parts n (ends, plain) (h, spare) b _ _ _ (s1.read bytes tells) (s2.read bytes t1) (c.in_ok-hashes.ensures.read bytes t2)) end
    ∙ ap (λ (i : XorbObjectInfoV1). Ok (i, drop (at + (40 + 8 * n)) bytes)) (filled_info c.default-info.result n ends plain c.from_vec.result c.from_vec-2.result h spare c.default-info.ensures c.from_vec.ensures c.from_vec-2.ensures)
