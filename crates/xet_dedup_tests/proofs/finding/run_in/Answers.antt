use Rattle.std.proofs.Common.{◌≡◌, ◌∙◌, ◌≤◌, ◌<◌, ◌-◌, ◌+◌, List, ℕ, ap, arith, drop, length, length-drop, map, sum, take}
use Rattle.std.proofs.lemmas.List.{take_rest}
use Rattle.xet_dedup_tests.proofs.Runs.{found, part_small}
use Rattle.xet_dedup_tests.proofs.finding.run_in.Goals as goal

pub bytes_of-bytes-requires : goal.bytes_of-bytes-requires
bytes_of-bytes-requires c = rw c.as_slice-leaves.ensures (part_small c.args.xorb.now.leaves c.in_ok-start.start _ c.args.xorb.now.small)

pub returns : goal.returns
returns c = λ known listed.
    let leaves = c.as_slice-leaves.result.now in
    let start = c.in_ok-start.start in
    let count = c.agreeing-count.result in
    let rest : length (take (length leaves - start) (drop start leaves)) ≡ length leaves - start = ap length (take_rest leaves start) ∙ length-drop start leaves in
    let whole : length leaves ≡ length c.args.xorb.now.leaves = ap length c.as_slice-leaves.ensures in
    let one : start + count - start ≡ count = omega arith in
    let some : 0 < count = omega (arith, c.if-count-eq0.false) in
    let within : start + count ≤ length c.args.xorb.now.leaves = omega (arith, rest, whole, c.agreeing-count.ensures.few.0, c.in_ok-start.ensures) in
    let bytes : c.bytes_of-bytes.result ≡ sum (map (λ (m : List ℕ × ℕ). m.1) (take count (drop start c.args.xorb.now.leaves))) =
    c.bytes_of-bytes.ensures ∙ (λ i. sum (map (λ (m : List ℕ × ℕ). m.1) (take (one i) (drop start (c.as_slice-leaves.ensures i))))) in
    rw c.new.ensures (found known c.args.xorb.now c.args.hashes.now start count c.bytes_of-bytes.result listed some within c.agreeing-count.ensures.few.1 bytes)
