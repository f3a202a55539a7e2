use Rattle.std.proofs.Common.{◌≡◌, ◌∙◌, ◌++◌, Bool, List, ap, arith, length, refl, rules, sym, true, ℕ}
use Rattle.xet_hash.specs.Merkle.{total_len}
use Rattle.xet_xorb.specs.Building.{ending, no_spare}
use Rattle.xet_xorb.specs.Footer.{footer_v1}
use Rattle.xet_xorb.specs.Raw.{raw_leaves}
use Rattle.xet_xorb.proofs.Built.{count_listed, ending_is, total_listed}
use Rattle.xet_xorb.proofs.building.write_ending.Goals as goal

pub new_footer-requires-clause-bound : goal.new_footer-requires-clause-bound
new_footer-requires-clause-bound c =
    let x = c.args.xorb.now in
    let is = c.deref.ensures.value ∙ c.in_ok-leaves.ensures.leaves in
    omega (arith, ap total_len is, ap (λ (ms : List (List ℕ × ℕ)). length ms) is, count_listed x c.requires, total_listed x c.requires)

pub returns-clause-written : goal.returns-clause-written
returns-clause-written c =
    let x = c.args.xorb.now in
    let before : List ℕ = c.args.sink.now in
    let hash : List ℕ = x.xorb_info.metadata.xorb_hash in
    let is = c.deref.ensures.value ∙ c.in_ok-leaves.ensures.leaves in
    let wanted : c.args.footer ≡ true = search rules in
    let info = c.in_ok-info.ensures.footer ∙ ap (λ (ms : List (List ℕ × ℕ)). footer_v1 c.hash.result ms no_spare) is ∙ ap (λ (h : List ℕ). footer_v1 h (raw_leaves x) no_spare) c.hash.ensures in
    c.in_ok-serialize_given_info.ensures.written refl ∙ ap (λ (t : List ℕ). before ++ t) (ending_is hash (raw_leaves x) c.in_ok-info.info info)
    ∙ ap (λ (f : Bool). before ++ ending f hash (raw_leaves x)) (sym wanted)
