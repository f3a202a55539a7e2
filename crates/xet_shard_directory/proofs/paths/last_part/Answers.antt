use Rattle.std.proofs.Common.{◌≡◌, ◌+◌, arith}
use Rattle.std.proofs.lemmas.Str.{len_utf8_ascii}
use Rattle.xet_shard_directory.proofs.LastPart.{last_is_all, last_is_rest}
use Rattle.xet_shard_directory.proofs.paths.last_part.Goals as goal

pub returns-in-Some : goal.returns-in-Some
returns-in-Some c =
    let h = c.in-Some.ensures.cases in
    let next : h.1 ≡ h.0 + 1 = omega (arith, h.2.1.ends, len_utf8_ascii 47 (omega arith)) in
    last_is_rest c.args.path.now c.in-Some.name.now h.0 h.1 next (omega (arith, h.7)) (h.2.1.byte (omega arith)) h.4 h.2.0

pub returns-in-None : goal.returns-in-None
returns-in-None c = last_is_all c.args.path.now c.in-None.ensures.cases
