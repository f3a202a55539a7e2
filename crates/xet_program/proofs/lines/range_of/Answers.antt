use Rattle.std.proofs.Common.{◌≡◌, ◌∙◌, ℕ, Bool, true, cond, eqb, List, ◌∷◌, None, codes, ap, sym}
use Rattle.std.specs.Cmp.Lexicographic.{pointwise}
use Rattle.xet_program.specs.Lines.{range_by, range_of, words_of}
use Rattle.xet_program.specs.Words.{number_of}
use Rattle.xet_program.proofs.Ranged.{from_not, range_four}
use Rattle.xet_program.proofs.lines.range_of.Goals as goal

pub returns : goal.returns
returns c =
    let name = c.in_ok-name.name.now in
    let file = c.in_ok-file.file.now in
    let from = c.in_ok-from.from.now in
    let words : words_of c.args.line.now ≡ name ∷ file ∷ from ∷ words_of c.in_ok-from.to.now =
    c.in_ok-name.ensures.found ∙ ap (λ (ws : List (List ℕ)). name ∷ ws) (c.in_ok-file.ensures.found ∙ ap (λ (ws : List (List ℕ)). file ∷ ws) c.in_ok-from.ensures.found) in
    let test : pointwise eqb name (codes "range") ≡ true = ap (pointwise eqb name) (sym c.as_slice.ensures) ∙ from_not _ (sym c.ne.ensures ∙ c.if-ne.false) in
    let to = c.in_ok-from.to.now in
    c.range_by.ensures ∙ sym (ap range_of words ∙ range_four name file from to ∙ ap (λ (t : Bool). cond t (range_by (number_of file) (number_of from) (number_of to)) None) test)
