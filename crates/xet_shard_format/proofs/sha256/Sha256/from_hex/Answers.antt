use Rattle.std.proofs.Common.{◌∙◌, List, [], ℕ, Ok, refl, sym, ap}
use Rattle.std.proofs.lemmas.Bool.{true≢false}
use Rattle.std.specs.Result.{is_ok, result_unwrap_or}
use Rattle.hex.proofs.HexLemmas.{IsOk-decode_sized, decode_sized-encode_lower}
use Rattle.hex.specs.Hex.{decode_sized}
use Rattle.xet_shard_format.proofs.sha256.Sha256.from_hex.Goals as goal

pub returns-in-Ok-clause-digits : goal.returns-in-Ok-clause-digits
returns-in-Ok-clause-digits c = (λ _. (IsOk-decode_sized c.args.text.now 32).0 (ap is_ok (sym c.in-Ok.ensures)), λ _. refl)

pub returns-in-Ok-clause-inverts : goal.returns-in-Ok-clause-inverts
returns-in-Ok-clause-inverts c = λ digest len bytes e.
    ap Ok (ap (λ r. result_unwrap_or r []) (c.in-Ok.ensures ∙ ap (λ (t : List ℕ). decode_sized t 32) e ∙ decode_sized-encode_lower digest 32 len bytes))

pub returns-in-Err-clause-digits : goal.returns-in-Err-clause-digits
returns-in-Err-clause-digits c =
    (λ e. absurd (true≢false (sym e)), λ digits. ap is_ok c.in-Err.ensures ∙ (IsOk-decode_sized c.args.text.now 32).1 digits)

pub returns-in-Err-clause-inverts : goal.returns-in-Err-clause-inverts
returns-in-Err-clause-inverts c = λ digest len bytes e.
    cc (c.in-Err.ensures ∙ ap (λ (t : List ℕ). decode_sized t 32) e ∙ decode_sized-encode_lower digest 32 len bytes)
