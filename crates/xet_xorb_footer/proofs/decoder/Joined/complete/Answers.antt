use Rattle.std.proofs.Common.{◌∙◌, ◌++◌, List, ap, drop, subst, sym, ℕ}
use Rattle.xet_xorb_footer.specs.internal.Joining.{Stops}
use Rattle.xet_base.specs.theorems.Exits.{exit_with}
use Rattle.xet_xorb_footer.proofs.Joining.{filled, reads_as, reads_behind, stops_behind}
use Rattle.xet_xorb_footer.proofs.decoder.Joined.complete.Goals as goal

pub returns-in_err-take-clause-refused : goal.returns-in_err-take-clause-refused
returns-in_err-take-clause-refused c =
    let j = c.args.self.now in
    let held = c.args.held.now.items in
    let piece = c.args.piece.now in
    let n = c.min-added.result in
    let all = filled held piece c.deref.result.now n (c.deref.ensures.value ∙ c.in_ok-extend_from_slice.ensures.items) in
    exit_with (Stops j (held ++ piece)) _ _ c.from_residual-in_err-take.ensures.1
    (subst (λ (b : List ℕ). Stops j b c.in_err-take.field-0.0) all (stops_behind j c.deref.result.now _ (drop n piece) c.in_err-take.ensures.refused))

pub returns-clause-read : goal.returns-clause-read
returns-clause-read c =
    let held = c.args.held.now.items in
    let piece = c.args.piece.now in
    let n = c.min-added.result in
    let all = filled held piece c.deref.result.now n (c.deref.ensures.value ∙ c.in_ok-extend_from_slice.ensures.items) in
    reads_as (held ++ piece) _ all (ap (λ (b : List ℕ). b ++ drop n piece) (sym c.clear.ensures.items)) (reads_behind (drop n piece) c.in_ok-take.ensures.read)
