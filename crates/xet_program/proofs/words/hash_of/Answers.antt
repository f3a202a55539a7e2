use Rattle.std.proofs.Common.{◌∙◌, sym, ap}
use Rattle.std.proofs.lemmas.Bool.{true≢false}
use Rattle.std.specs.Result.{is_ok}
use Rattle.xet_program.proofs.Hashes.{hash_none, hash_some}
use Rattle.xet_program.proofs.words.hash_of.Goals as goal

pub returns-in-Ok : goal.returns-in-Ok
returns-in-Ok c = sym (hash_some c.args.word.now c.in-Ok.hash (c.from_hex.ensures.digits.0 (ap is_ok c.in-Ok.is)) c.in-Ok.ensures.hash c.recall_bytes.ensures.length c.recall_bytes.ensures.bytes)

pub returns-in-Err : goal.returns-in-Err
returns-in-Err c = sym (hash_none c.args.word.now (λ digits. absurd (true≢false (sym (c.from_hex.ensures.digits.1 digits) ∙ ap is_ok c.in-Err.is))))
