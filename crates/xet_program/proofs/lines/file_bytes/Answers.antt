use Rattle.std.proofs.Common.{◌≡◌, ◌∙◌, ap, sym, Some, Ok, Err, true, false, eqb, codes, inl, inr}
use Rattle.std.proofs.lemmas.Bool.{false≢true}
use Rattle.hex.specs.Hex.{decode_of}
use Rattle.std.specs.Cmp.Lexicographic.{pointwise}
use Rattle.xet_program.proofs.Said.{file_bare, file_other, file_digits}
use Rattle.xet_program.proofs.lines.file_bytes.Goals as goal

pub returns-then-eq-clause-bytes : goal.returns-then-eq-clause-bytes
returns-then-eq-clause-bytes c =
    let line = c.args.line.now in
    let test : pointwise eqb line (codes "file") ≡ true = ap (pointwise eqb line) (sym c.as_slice.ensures) ∙ sym c.eq.ensures ∙ c.if-eq.true in
    ap Some c.new.ensures.items ∙ sym (file_bare line test)

pub returns-in_default-clause-bytes : goal.returns-in_default-clause-bytes
returns-in_default-clause-bytes c =
    let line = c.args.line.now in
    let test : pointwise eqb line (codes "file") ≡ false = ap (pointwise eqb line) (sym c.as_slice.ensures) ∙ sym c.eq.ensures ∙ c.if-eq.false in
    sym (file_other line test c.in_default.ensures.cases)

pub returns-in-Ok-clause-bytes : goal.returns-in-Ok-clause-bytes
returns-in-Ok-clause-bytes c =
    let line = c.args.line.now in
    let test : pointwise eqb line (codes "file") ≡ false = ap (pointwise eqb line) (sym c.as_slice.ensures) ∙ sym c.eq.ensures ∙ c.if-eq.false in
    let consumed = c.in-Some.ensures.cases in
    sym (file_digits line (Ok c.in-Ok.bytes.items) test consumed.0 (ap decode_of (sym consumed.1) ∙ c.in-Ok.ensures.ok))

pub returns-else-is_out_of_memory-clause-bytes : goal.returns-else-is_out_of_memory-clause-bytes
returns-else-is_out_of_memory-clause-bytes c =
    let line = c.args.line.now in
    let test : pointwise eqb line (codes "file") ≡ false = ap (pointwise eqb line) (sym c.as_slice.ensures) ∙ sym c.eq.ensures ∙ c.if-eq.false in
    let consumed = c.in-Some.ensures.cases in
    elim c.in-Err.ensures.err [
      | inl memory ↦ absurd (false≢true (c.if-is_out_of_memory.ensures.1 memory))
      | inr refused ↦ sym (file_digits line (Err c.in-Err.error) test consumed.0 (ap decode_of (sym consumed.1) ∙ refused))
    ]
