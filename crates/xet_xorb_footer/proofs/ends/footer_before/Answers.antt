use Rattle.std.proofs.Common.{◌≡◌, ◌∙◌, ◌+◌, ◌-◌, ◌⊎◌, Err, Ok, ap, arith, inl, length, sym, ℕ}
use Rattle.std.proofs.lemmas.Bool.{eq-eqb, ne_eqb}
use Rattle.xet_hash.specs.declared.error.Place.TheVariants.{Input}
use Rattle.xet_hash.specs.declared.error.StoreError.{StoreError}
use Rattle.xet_hash.specs.declared.error.StoreError.TheVariants.{Io, OutOfMemory}
use Rattle.xet_xorb_footer.specs.declared.info.XorbObjectInfoV1.{XorbObjectInfoV1}
use Rattle.xet_xorb_footer.specs.Ends.{last_footer}
use Rattle.xet_xorb_footer.specs.Reader.{footer_parts_of, rest_of}
use Rattle.xet_xorb_footer.proofs.Endings.{last_beyond, last_is, last_wrong, seen_at, unread, untold}
use Rattle.xet_base.specs.theorems.Exits.{exit_with}
use Rattle.xet_xorb_footer.proofs.ends.footer_before.Goals as goal

pub returns-in_err-told-clause-refused : goal.returns-in_err-told-clause-refused
returns-in_err-told-clause-refused g c = λ told len.
    let bytes = g.R.ReadAt.bytes c.args.reader.now in
    exit_with (λ (e : StoreError). (last_footer bytes ≡ Err e) ⊎ (e ≡ Io Input) ⊎ (e ≡ OutOfMemory)) _ _ c.from_residual.ensures.1 (untold bytes _ (c.in_err-told.ensures.refused told len))

pub returns-then-len-size-clause-refused : goal.returns-then-len-size-clause-refused
returns-then-len-size-clause-refused g c = λ told len. inl (last_beyond c.args.len c.in_ok-told.told (g.R.ReadAt.bytes c.args.reader.now) len (c.in_ok-told.ensures.read told len) (omega arith))

pub returns-in_err-to-clause-refused : goal.returns-in_err-to-clause-refused
returns-in_err-to-clause-refused g c = λ told len.
    let bytes = g.R.ReadAt.bytes c.args.reader.now in let seen = g.R.ReadAt.bytes c.number_at_end.new.reader in
    let same = c.in_ok-told.ensures.frame.same in
    exit_with (λ (e : StoreError). (last_footer bytes ≡ Err e) ⊎ (e ≡ Io Input) ⊎ (e ≡ OutOfMemory)) _ _ c.from_residual-in_err-to.ensures.1
    (unread c.args.len c.in_ok-told.told bytes seen (rest_of c.of_either-footer.result) _ same len (c.in_ok-told.ensures.read told len) (omega arith) c.of_either-footer.ensures.rest
    (c.in_err-to.ensures.refused (c.in_ok-told.ensures.frame.tells ∙ told) (len ∙ ap length (sym same))))

pub returns-then-len-to-ne-LENGTH_SIZE-clause-refused : goal.returns-then-len-to-ne-LENGTH_SIZE-clause-refused
returns-then-len-to-ne-LENGTH_SIZE-clause-refused g c = λ told len.
    let bytes = g.R.ReadAt.bytes c.args.reader.now in let seen = g.R.ReadAt.bytes c.number_at_end.new.reader in
    let same = c.in_ok-told.ensures.frame.same in
    let n = c.in_ok-told.told in let at : ℕ = c.args.len - (n + 4) in let r = c.of_either-footer.result in
    inl (last_wrong c.args.len n c.in_ok-to.to bytes _ (footer_parts_of c.read_fields_at.new.footer) len (c.in_ok-told.ensures.read told len) (omega arith) (c.of_either-footer.ensures.rest _)
    (seen_at at c.in_ok-to.to bytes seen (rest_of r) _ same (c.in_ok-to.ensures.read (c.in_ok-told.ensures.frame.tells ∙ told) (len ∙ ap length (sym same))))
    (ne_eqb _ _ c.if-len-to-ne-LENGTH_SIZE.true))

pub returns-clause-read : goal.returns-clause-read
returns-clause-read g c = λ told len.
    let bytes = g.R.ReadAt.bytes c.args.reader.now in let seen = g.R.ReadAt.bytes c.number_at_end.new.reader in
    let same = c.in_ok-told.ensures.frame.same in
    let n = c.in_ok-told.told in let at : ℕ = c.args.len - (n + 4) in let r = c.of_either-footer.result in
    last_is c.args.len n c.in_ok-to.to bytes _ (footer_parts_of c.read_fields_at.new.footer) len (c.in_ok-told.ensures.read told len) (omega arith) (c.of_either-footer.ensures.rest _)
    (seen_at at c.in_ok-to.to bytes seen (rest_of r) _ same (c.in_ok-to.ensures.read (c.in_ok-told.ensures.frame.tells ∙ told) (len ∙ ap length (sym same))))
    (eq-eqb _ _ c.if-len-to-ne-LENGTH_SIZE.false)
    ∙ ap (λ (i : XorbObjectInfoV1). Ok (i, n)) (sym c.into_v1.ensures)
