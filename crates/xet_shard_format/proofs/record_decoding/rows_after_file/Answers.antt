use Rattle.std.proofs.Common.{◌≡◌, ◌∙◌, ℕ, ◌+◌, Bool, true, false, cond, ap, sym}
use Rattle.xet_shard_format.specs.Reading.{has_ext, is_verified}
use Rattle.xet_shard_format.proofs.record_decoding.rows_after_file.Goals as goal
use Rattle.xet_shard_format.proofs.record_decoding.rows_after_file.Goals.{then-is_verified, else-is_verified, then-has_ext, else-has_ext}

-- what a test chose
chosen : (b r v : Bool) (n m x : ℕ) → r ≡ v → r ≡ b → x ≡ cond b n 0 → n ≡ m → x ≡ cond v m 0
chosen b r v n m x is t e same = e ∙ ap (λ (w : Bool). cond w n 0) (sym t ∙ is) ∙ ap (λ (k : ℕ). cond v k 0) same

pub returns : goal.returns
returns c =
    let head = c.args.head.now in
    let entries : c.from-entries.result ≡ head.b = c.from-entries.ensures in
    let checks : c.if-is_verified.checks ≡ cond (is_verified head.a) head.b 0 = elim c.if-is_verified.branch [
      | then-is_verified w ↦ chosen true c.is_verified.result (is_verified head.a) c.from-entries.result head.b c.if-is_verified.checks c.is_verified.ensures w.if-is_verified.true w.checks-is entries
      | else-is_verified w ↦ chosen false c.is_verified.result (is_verified head.a) c.from-entries.result head.b c.if-is_verified.checks c.is_verified.ensures w.if-is_verified.false w.checks-is entries
    ] in
    let ext : c.if-has_ext.ext ≡ cond (has_ext head.a) 1 0 = elim c.if-has_ext.branch [
      | then-has_ext w ↦ chosen true c.has_ext.result (has_ext head.a) 1 1 c.if-has_ext.ext c.has_ext.ensures w.if-has_ext.true w.ext-is (λ i. 1)
      | else-has_ext w ↦ chosen false c.has_ext.result (has_ext head.a) 1 1 c.if-has_ext.ext c.has_ext.ensures w.if-has_ext.false w.ext-is (λ i. 1)
    ] in
    λ i. entries i + (checks i + ext i)
