use Rattle.std.proofs.Common.{◌+◌, List, arith, drop, refl, slice_range, subst, sym, ℕ}
use Rattle.std.proofs.lemmas.List.Folds.{drop_split}
use Rattle.xet_xorb_footer.specs.internal.Joining.{Stops}
use Rattle.xet_base.specs.theorems.Exits.{exit_with}
use Rattle.xet_xorb_footer.proofs.Joining.{reads_as, reads_behind, reads_then, stops_behind, stops_then}
use Rattle.xet_xorb_footer.proofs.decoder.Joined.take_whole.Goals as goal

pub returns-in_err-take-clause-refused : goal.returns-in_err-take-clause-refused
returns-in_err-take-clause-refused c =
    let piece = c.args.piece.now in
    let at = c.fields.at in
    let to : ℕ = at + c.wanted-in-fields.result in
    let two = drop_split piece at to (omega arith) in
    exit_with (Stops c.args.self.now piece) _ _ c.from_residual.ensures.1
    (stops_then _ c.fields.invariant.read (subst (λ (b : List ℕ). Stops c.fields.self b c.in_err-take.field-0.0) (sym two) (stops_behind c.fields.self (slice_range piece at to) _ (drop to piece) c.in_err-take.ensures.refused)))

pub fields-preserved : goal.fields-preserved
fields-preserved c =
    let piece = c.args.piece.now in
    let at = c.fields.at in
    let to : ℕ = at + c.wanted-in-fields.result in
    let two = drop_split piece at to (omega arith) in
    record {
      within = omega arith;
      ready = c.in_ok-take.ensures.ready;
      read = reads_then c.fields.invariant.read (reads_as (drop at piece) (drop to piece) (sym two) refl (reads_behind (drop to piece) c.in_ok-take.ensures.read));
    }
