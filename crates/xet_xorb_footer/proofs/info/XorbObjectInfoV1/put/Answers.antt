use Rattle.std.proofs.Common.{◌≡◌, ◌∙◌, ◌*◌, List, ap, length, rules, subst, sym, ℕ}
use Rattle.xet_codec.specs.Numbers.{joined, numbers}
use Rattle.xet_codec.specs.theorems.Buffering.{on_ok}
use Rattle.xet_xorb_footer.proofs.Encodings.{begins_v1, encoded_v1, is_begun_v1, is_ended_v1, middle_v1}
use Rattle.xet_xorb_footer.proofs.Puts.{after, exit_puts, last, none, sooner, stops}
use Rattle.xet_xorb_footer.specs.theorems.EncodedLengths.{length_v1}
use Rattle.xet_xorb_footer.proofs.info.XorbObjectInfoV1.put.Goals as goal

pub returns-in_err-put_all-clause-puts : goal.returns-in_err-put_all-clause-puts
returns-in_err-put_all-clause-puts g c = λ told.
    exit_puts _ _ c.from_residual.ensures.1
    (stops none (is_begun_v1 c.args.self.now c.as_bytes-hash.ensures c.to_le_bytes-count.ensures) (sooner _ _ _ (sooner _ _ _ (sooner _ _ _ (sooner _ _ _ (begins_v1 c.args.self.now))))) c.in_err-put_all.ensures.prefix told)

pub returns-in_err-put_hashes-clause-puts : goal.returns-in_err-put_hashes-clause-puts
returns-in_err-put_hashes-clause-puts g c = λ told.
    let s1 = c.in_ok-put_all.ensures in
    exit_puts _ _ c.from_residual-in_err-put_hashes.ensures.1
    (stops (after none (is_begun_v1 c.args.self.now c.as_bytes-hash.ensures c.to_le_bytes-count.ensures) s1.frame.tells s1.moved) (ap joined c.as_slice.ensures)
    (sooner _ _ _ (sooner _ _ _ (sooner _ _ _ (begins_v1 c.args.self.now)))) c.in_err-put_hashes.ensures.prefix told)

pub returns-in_err-put_all-2-clause-puts : goal.returns-in_err-put_all-2-clause-puts
returns-in_err-put_all-2-clause-puts g c = λ told.
    let s1 = c.in_ok-put_all.ensures in let s2 = c.in_ok-put_hashes.ensures in
    let two = after (after none (is_begun_v1 c.args.self.now c.as_bytes-hash.ensures c.to_le_bytes-count.ensures) s1.frame.tells s1.moved) (ap joined c.as_slice.ensures) s2.frame.tells s2.moved in
    exit_puts _ _ c.from_residual-in_err-put_all-2.ensures.1
    (stops two (ap (middle_v1 c.args.self.now) c.to_le_bytes-count.ensures) (sooner _ _ _ (sooner _ _ _ (begins_v1 c.args.self.now))) c.in_err-put_all-2.ensures.prefix told)

pub returns-in_err-put_numbers-clause-puts : goal.returns-in_err-put_numbers-clause-puts
returns-in_err-put_numbers-clause-puts g c = λ told.
    let s1 = c.in_ok-put_all.ensures in let s2 = c.in_ok-put_hashes.ensures in let s3 = c.in_ok-put_all-2.ensures in
    let two = after (after none (is_begun_v1 c.args.self.now c.as_bytes-hash.ensures c.to_le_bytes-count.ensures) s1.frame.tells s1.moved) (ap joined c.as_slice.ensures) s2.frame.tells s2.moved in
    exit_puts _ _ c.from_residual-in_err-put_numbers.ensures.1
    (stops (after two (ap (middle_v1 c.args.self.now) c.to_le_bytes-count.ensures) s3.frame.tells s3.moved) (ap numbers c.as_slice-2.ensures) (sooner _ _ _ (begins_v1 c.args.self.now)) c.in_err-put_numbers.ensures.prefix told)

pub returns-in_err-put_numbers-2-clause-puts : goal.returns-in_err-put_numbers-2-clause-puts
returns-in_err-put_numbers-2-clause-puts g c = λ told.
    let s1 = c.in_ok-put_all.ensures in let s2 = c.in_ok-put_hashes.ensures in let s3 = c.in_ok-put_all-2.ensures in let s4 = c.in_ok-put_numbers.ensures in
    let two = after (after none (is_begun_v1 c.args.self.now c.as_bytes-hash.ensures c.to_le_bytes-count.ensures) s1.frame.tells s1.moved) (ap joined c.as_slice.ensures) s2.frame.tells s2.moved in
    let four = after (after two (ap (middle_v1 c.args.self.now) c.to_le_bytes-count.ensures) s3.frame.tells s3.moved) (ap numbers c.as_slice-2.ensures) s4.frame.tells s4.moved in
    exit_puts _ _ c.from_residual-in_err-put_numbers-2.ensures.1 (stops four (ap numbers c.as_slice-3.ensures) (begins_v1 c.args.self.now) c.in_err-put_numbers-2.ensures.prefix told)

pub returns-clause-puts : goal.returns-clause-puts
returns-clause-puts g c = λ told.
    let s1 = c.in_ok-put_all.ensures in let s2 = c.in_ok-put_hashes.ensures in let s3 = c.in_ok-put_all-2.ensures in let s4 = c.in_ok-put_numbers.ensures in let s5 = c.in_ok-put_numbers-2.ensures in
    let two = after (after none (is_begun_v1 c.args.self.now c.as_bytes-hash.ensures c.to_le_bytes-count.ensures) s1.frame.tells s1.moved) (ap joined c.as_slice.ensures) s2.frame.tells s2.moved in
    let four = after (after two (ap (middle_v1 c.args.self.now) c.to_le_bytes-count.ensures) s3.frame.tells s3.moved) (ap numbers c.as_slice-2.ensures) s4.frame.tells s4.moved in
    last c.put_all-3.result (after four (ap numbers c.as_slice-3.ensures) s5.frame.tells s5.moved) (is_ended_v1 c.args.self.now c.to_le_bytes-count.ensures c.to_le_bytes-hashes_at.ensures c.to_le_bytes-boundaries_at.ensures)
    (encoded_v1 c.args.self.now) c.put_all-3.ensures.moved c.put_all-3.ensures.prefix told

pub returns-clause-bytes : goal.returns-clause-bytes
returns-clause-bytes g c =
    let i = c.args.self.now in
    let ident : length i.ident ≡ 7 = search rules in
    let hashes_magic : length i.ident_hash_section ≡ 7 = search rules in
    let boundaries_magic : length i.ident_boundary_section ≡ 7 = search rules in
    let spare : length i.spare ≡ 16 = search rules in
    let hash : length c.as_bytes-hash.result.now ≡ 32 = search rules in
    on_ok c.put_all-3.result
    (length_v1 i ident (ap length (sym c.as_bytes-hash.ensures) ∙ hash) hashes_magic
    (subst (λ (hs : List (List ℕ)). length (joined hs) ≡ 32 * length hs) c.as_slice.ensures c.in_ok-put_hashes.ensures.length) boundaries_magic spare)
