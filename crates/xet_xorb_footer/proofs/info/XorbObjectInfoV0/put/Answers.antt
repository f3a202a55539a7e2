use Rattle.std.proofs.Common.{◌≡◌, ◌∙◌, ◌*◌, List, ap, length, refl, rules, subst, sym, ℕ}
use Rattle.xet_codec.specs.Numbers.{joined, numbers}
use Rattle.xet_codec.specs.theorems.Buffering.{on_ok}
use Rattle.xet_xorb_footer.proofs.Encodings.{begins_v0, encoded_v0, is_begun_v0}
use Rattle.xet_xorb_footer.proofs.Puts.{after, exit_puts, last, none, sooner, stops}
use Rattle.xet_xorb_footer.specs.theorems.EncodedLengths.{length_v0}
use Rattle.xet_xorb_footer.proofs.info.XorbObjectInfoV0.put.Goals as goal

pub returns-in_err-put_all-clause-puts : goal.returns-in_err-put_all-clause-puts
returns-in_err-put_all-clause-puts g c = λ told.
    exit_puts _ _ c.from_residual.ensures.1
    (stops none (is_begun_v0 c.args.self.now c.as_bytes.ensures c.to_le_bytes.ensures) (sooner _ _ _ (sooner _ _ _ (begins_v0 c.args.self.now))) c.in_err-put_all.ensures.prefix told)

pub returns-in_err-put_numbers-clause-puts : goal.returns-in_err-put_numbers-clause-puts
returns-in_err-put_numbers-clause-puts g c = λ told.
    let first = after none (is_begun_v0 c.args.self.now c.as_bytes.ensures c.to_le_bytes.ensures) c.in_ok-put_all.ensures.frame.tells c.in_ok-put_all.ensures.moved in
    exit_puts _ _ c.from_residual-in_err-put_numbers.ensures.1 (stops first (ap numbers c.as_slice.ensures) (sooner _ _ _ (begins_v0 c.args.self.now)) c.in_err-put_numbers.ensures.prefix told)

pub returns-in_err-put_hashes-clause-puts : goal.returns-in_err-put_hashes-clause-puts
returns-in_err-put_hashes-clause-puts g c = λ told.
    let first = after none (is_begun_v0 c.args.self.now c.as_bytes.ensures c.to_le_bytes.ensures) c.in_ok-put_all.ensures.frame.tells c.in_ok-put_all.ensures.moved in
    let second = after first (ap numbers c.as_slice.ensures) c.in_ok-put_numbers.ensures.frame.tells c.in_ok-put_numbers.ensures.moved in
    exit_puts _ _ c.from_residual-in_err-put_hashes.ensures.1 (stops second (ap joined c.as_slice-2.ensures) (begins_v0 c.args.self.now) c.in_err-put_hashes.ensures.prefix told)

pub returns-clause-puts : goal.returns-clause-puts
returns-clause-puts g c = λ told.
    let first = after none (is_begun_v0 c.args.self.now c.as_bytes.ensures c.to_le_bytes.ensures) c.in_ok-put_all.ensures.frame.tells c.in_ok-put_all.ensures.moved in
    let second = after first (ap numbers c.as_slice.ensures) c.in_ok-put_numbers.ensures.frame.tells c.in_ok-put_numbers.ensures.moved in
    let third = after second (ap joined c.as_slice-2.ensures) c.in_ok-put_hashes.ensures.frame.tells c.in_ok-put_hashes.ensures.moved in
    last c.put.result third refl (encoded_v0 c.args.self.now) c.put.ensures.moved c.put.ensures.prefix told

pub returns-clause-bytes : goal.returns-clause-bytes
returns-clause-bytes g c =
    let i = c.args.self.now in
    let ident : length i.ident ≡ 7 = search rules in
    let spare : length i.spare ≡ 16 = search rules in
    let hash : length c.as_bytes.result.now ≡ 32 = search rules in
    on_ok c.put.result
    (length_v0 i ident (ap length (sym c.as_bytes.ensures) ∙ hash) (subst (λ (hs : List (List ℕ)). length (joined hs) ≡ 32 * length hs) c.as_slice-2.ensures c.in_ok-put_hashes.ensures.length) spare)
