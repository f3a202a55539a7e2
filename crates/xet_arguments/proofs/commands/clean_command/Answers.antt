use Rattle.std.proofs.Common.{◌≡◌, ◌∙◌, rules, ap, ap₂, Option, Some, None, codes, false}
use Rattle.std.specs.Prelude.{IsSomeAnd}
use Rattle.std.proofs.lemmas.Result.{IfOk-weaker}
use Rattle.clap.specs.Words.{Rule, app_of, rule_of, with_rule}
use Rattle.clap.specs.Lexer.{usize_max}
use Rattle.clap.specs.declared.builder.arg.Arg.{Arg}
use Rattle.clap.specs.declared.builder.range.ValueRange.{ValueRange}
use Rattle.xet_arguments.specs.internal.Commands.{bare, many_needed, needed}
use Rattle.xet_arguments.proofs.commands.clean_command.Goals as goal

abbrev one_or_more : ValueRange
one_or_more = record { start_inclusive = 1; end_inclusive = usize_max }

some_range : (o : Option ValueRange) → IsSomeAnd o (λ r. r ≡ one_or_more) → o ≡ Some one_or_more
some_range None h = absurd h
some_range (Some r) h = ap (λ x. Some x) h

pub returns : goal.returns
returns c =
    let arg = c.num_args-name in
    let range = some_range arg.result.num_vals arg.ensures.1 in
    let required_is : rule_of c.required_argument.result ≡ needed (codes "name") = search rules in
    let name_is : rule_of arg.result ≡ many_needed (codes "name") = ap rule_of arg.ensures.0
    ∙ (ap (λ (v : Option ValueRange). record (rule_of c.required_argument.result) { range = v }) range
    ∙ ap (λ (r : Rule). record r { range = Some one_or_more }) required_is) in
    let bare_is : app_of c.bare_command.result ≡ bare (codes "clean") = search rules in
    let local : arg.result.global ≡ false = ap (λ (a : Arg). a.global) arg.ensures.0 ∙ c.required_argument.ensures.local in
    IfOk-weaker c.arg.result _ _ (λ r added. added.shape local ∙ ap₂ with_rule bare_is name_is) c.arg.ensures
