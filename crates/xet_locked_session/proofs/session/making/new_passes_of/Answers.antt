use Rattle.std.proofs.Common.{rules, ◌≡◌, ◌∙◌, ◌+◌, ◌++◌, ◌∷◌, [], List, ap, refl, sym, arith}
use Rattle.xet_store.specs.Holders.{Holder}
use Rattle.xet_locked_session.specs.Passes.{holder_of, new_passes}
use Rattle.xet_locked_session.proofs.Returning.{new_passes_more}
use Rattle.xet_locked_session.proofs.session.making.new_passes_of.Goals as goal

pub numbers-preserved : goal.numbers-preserved
numbers-preserved g c =
    let start = g.J.Naming.store in
    let i = c.numbers.i in
    let was = c.numbers.invariant in
    let number : holder_of start (i + 1) [] [] ≡ holder_of start (1 + i) [] [] = ap (λ n. holder_of start n [] []) (omega arith) in
    record {
      writer = c.new_pass.ensures.writer ∙ was.writer;
      rest = (omega (arith, c.new_pass.ensures.rest.0, was.rest.0), c.new_pass.ensures.rest.1);
      all = c.push_reserved.ensures.items
          ∙ ap (λ (l : List Holder). l ++ c.new_pass.result ∷ []) was.all
          ∙ ap (λ (h : Holder). new_passes start 1 i ++ h ∷ []) (c.new_pass.ensures.pass ∙ number)
          ∙ sym (new_passes_more start 1 i (i + 1) refl);
      room = search rules;
    }
