use Rattle.std.proofs.Common.{◌≡◌, ◌∙◌, List, ap, arith, sym, take, ℕ}
use Rattle.std.proofs.lemmas.List.{take_all}
use Rattle.std.proofs.lemmas.List.Concat.{concat_is}
use Rattle.std.specs.List.{concat, flat_map}
use Rattle.xet_xorb.proofs.raw.raw_xorb_to_vec.Goals as goal

pub returns-clause-joined : goal.returns-clause-joined
returns-clause-joined c =
    let items = c.as_slice-part-items.result.now in
    let whole : take c.loop-part.part-index items ≡ items = take_all _ _ (omega arith) in
    c.loop-part.invariant ∙ ap (flat_map (λ (p : List ℕ). p)) whole ∙ sym (concat_is items) ∙ ap concat c.as_slice-part-items.ensures
