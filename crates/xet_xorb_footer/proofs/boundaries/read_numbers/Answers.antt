use Rattle.std.proofs.Common.{◌≡◌, ◌∙◌, ◌+◌, ◌-◌, ◌*◌, ◌<◌, ◌≤◌, Ok, ap, arith, drop, inl, length, length-drop, min, refl, sym, ℕ, rules}
use Rattle.std.specs.Int.{w32, from_le_bytes}
use Rattle.xet_codec.specs.Blocks.{RefusedBy}
use Rattle.xet_codec.specs.Parsing.{number_at, times}
use Rattle.xet_xorb_footer.proofs.Endings.{field_then}
use Rattle.xet_base.specs.theorems.Exits.{exit_with}
use Rattle.xet_xorb_footer.specs.theorems.Prefixes.{a_number, times_short}
use Rattle.xet_codec.specs.theorems.Seeing.{sees_on}
use Rattle.xet_xorb_footer.proofs.Placing.{behind_all, behind_more, behind_refused, pushed}
use Rattle.xet_xorb_footer.proofs.boundaries.read_numbers.Goals as goal

pub returns-then-end-at-clause-refused : goal.returns-then-end-at-clause-refused
returns-then-end-at-clause-refused g c = λ bytes tells.
    let few : length (drop c.args.at bytes) < 4 * c.args.count = omega (arith, length-drop c.args.at bytes, tells.all, c.if-end-at.true) in
    inl (times_short number_at (from_le_bytes w32) 4 a_number c.args.count (drop c.args.at bytes) few)

pub returns-in_err-load-clause-refused : goal.returns-in_err-load-clause-refused
returns-in_err-load-clause-refused g c = λ bytes tells.
    let ns = c.numbers.list.items in
    let n = c.min-wanted.result in
    let is : n ≡ min 64 (c.args.count - length ns) = omega (arith, c.min-wanted.ensures, c.len-in-numbers.ensures, c.numbers.list.ok) in
    let inv = c.numbers.invariant in
    exit_with (RefusedBy (times number_at c.args.count (drop c.args.at bytes))) _ _ c.from_residual-in_err-load.ensures.1
    (behind_refused c.args.count n ns bytes c.numbers.to (4 * n) (times number_at c.args.count (drop c.args.at bytes)) c.in_err-load.field-0.0 is refl (inv.taken bytes tells)
    (c.in_err-load.ensures.refused bytes (sees_on tells inv.frame.tells inv.frame.same (inv.part bytes tells))))

pub numbers-smaller : goal.numbers-smaller
numbers-smaller g c =
    let ns = c.numbers.list.items in
    let n = c.min-wanted.result in
    let is : n ≡ min 64 (c.args.count - length ns) = omega (arith, c.min-wanted.ensures, c.len-in-numbers.ensures, c.numbers.list.ok) in
    let more = pushed ns c.push_numbers.new.list.items c.part.result.now n c.in_ok-push_numbers.ensures.items in
    let some : length ns < c.args.count = omega (arith, c.numbers-test.true, c.len.ensures, c.numbers.list.ok) in
    omega (arith, is, more, some)

pub numbers-preserved : goal.numbers-preserved
numbers-preserved g c =
    let ns = c.numbers.list.items in
    let n = c.min-wanted.result in
    let is : n ≡ min 64 (c.args.count - length ns) = omega (arith, c.min-wanted.ensures, c.len-in-numbers.ensures, c.numbers.list.ok) in
    let field = c.part.result.now in
    let more = pushed ns c.push_numbers.new.list.items field n c.in_ok-push_numbers.ensures.items in
    let to = c.numbers.to in
    let inv = c.numbers.invariant in
    let kept = c.in_ok-load.ensures.frame in
    record {
      taken = λ bytes tells.
          let here = sees_on tells inv.frame.tells inv.frame.same (inv.part bytes tells) in
          behind_more c.args.count n ns c.push_numbers.new.list.items (drop to bytes) field (drop (to + 4 * n) bytes) is
          (field_then (4 * n) to field bytes (c.part.ensures.value bytes (c.in_ok-load.ensures.part bytes here))) c.part.ensures.len c.in_ok-push_numbers.ensures.items
          ∙ inv.taken bytes tells;
      part = λ bytes tells. c.in_ok-load.ensures.part bytes (sees_on tells inv.frame.tells inv.frame.same (inv.part bytes tells));
      few = omega (arith, is, more, inv.few);
      place = omega (arith, more, inv.place);
      within = omega (arith, c.in_ok-load.ensures.within);
      frame = record { same = kept.same ∙ inv.frame.same; tells = kept.tells ∙ inv.frame.tells; later = omega (arith, kept.later, inv.frame.later); rose = λ x. absurd x; lent = search rules };
    }

pub returns-clause-read : goal.returns-clause-read
returns-clause-read g c = λ bytes tells.
    let ns = c.numbers.list.items in
    let inv = c.numbers.invariant in
    let all : c.args.count ≤ length ns = omega (arith, c.numbers-test.false, c.len.ensures, c.numbers.list.ok) in
    let place : c.numbers.to ≡ c.args.at + 4 * c.args.count = omega (arith, inv.place, inv.few, all) in
    sym (inv.taken bytes tells) ∙ behind_all c.args.count ns (drop c.numbers.to bytes) all ∙ ap (λ (k : ℕ). Ok (ns, drop k bytes)) place
