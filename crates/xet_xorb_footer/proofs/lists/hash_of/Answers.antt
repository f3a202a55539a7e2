use Rattle.std.proofs.Common.{◌∙◌, arith}
use Rattle.std.proofs.lemmas.List.{take_all}
use Rattle.xet_xorb_footer.proofs.lists.hash_of.Goals as goal

pub returns-clause-whole : goal.returns-clause-whole
returns-clause-whole c = λ len. c.from_bytes.ensures ∙ c.copy_from_slice.ensures.after ∙ take_all 32 c.args.bytes.now (omega arith)
