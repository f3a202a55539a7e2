use Rattle.std.proofs.Common.{◌∙◌, rules, tests, string_bytes}
use Rattle.std.proofs.lemmas.Iterator.{YieldsList-from_slice}
use Rattle.std.proofs.lemmas.Iterator.Search.{any_from_yields_List}
use Rattle.xet_arguments.specs.Arguments.{is_option}
use Rattle.xet_arguments.proofs.Hyphens.{any_map}
use Rattle.xet_arguments.proofs.options.has_option.Goals as goal

pub returns : goal.returns
returns c =
    any_from_yields_List (λ word. is_option (string_bytes word)) _ _ _ c.any.ensures.ran (YieldsList-from_slice c.args.words.now cc) (λ x b q k. search (rules, tests))
    ∙ any_map string_bytes c.args.words.now
