use Rattle.std.proofs.Common.{◌≡◌, ◌∙◌, false, IfSome, Option, ap, map, string_bytes, subst, sym}
use Rattle.std.proofs.lemmas.Result.{IfOk-weaker}
use Rattle.std.specs.List.{list_any}
use Rattle.xet_arguments.specs.Arguments.{is_option}
use Rattle.xet_program.specs.internal.Asked.{AllowsInput}
use Rattle.xet_program.specs.Words.{Command, command_by, command_of}
use Rattle.xet_program.proofs.Commands.{allows_asked, allows_command, command_empty, command_first, command_option, rest_passes_none}
use Rattle.xet_program.proofs.words.command_of.Goals as goal

pub returns-then-has_option-clause-command : goal.returns-then-has_option-clause-command
returns-then-has_option-clause-command c =
    sym (command_option (map string_bytes c.args.words.now) (sym c.has_option.ensures ∙ c.if-has_option.true))

pub returns-in-None-clause-command : goal.returns-in-None-clause-command
returns-in-None-clause-command c = sym (command_empty string_bytes c.args.words.now c.in-None.ensures.cases)

pub command_by-requires : goal.command_by-requires
command_by-requires c =
    let parts = c.in-Some.ensures.cases.0 in
    let none : list_any is_option (map string_bytes c.args.words.now) ≡ false = sym c.has_option.ensures ∙ c.if-has_option.false in
    rest_passes_none (string_bytes c.in-Some.name.now) (map string_bytes c.in-Some.arguments.now) (sym (ap (λ ws. list_any is_option (map string_bytes ws)) parts) ∙ none)

pub returns-in-Some-clause-command : goal.returns-in-Some-clause-command
returns-in-Some-clause-command c =
    let parts = c.in-Some.ensures.cases.0 in
    let none : list_any is_option (map string_bytes c.args.words.now) ≡ false = sym c.has_option.ensures ∙ c.if-has_option.false in
    IfOk-weaker c.command_by.result _ _ (λ found is. is
    ∙ ap (λ n. command_by n (map string_bytes c.in-Some.arguments.now)) c.as_str.ensures.value
    ∙ sym (ap (λ ws. command_of (map string_bytes ws)) parts ∙ command_first (string_bytes c.in-Some.name.now) (map string_bytes c.in-Some.arguments.now) (sym (ap (λ ws. list_any is_option (map string_bytes ws)) parts) ∙ none))) c.command_by.ensures

pub returns-in-Some-clause-allows : goal.returns-in-Some-clause-allows
returns-in-Some-clause-allows c =
    IfOk-weaker c.command_by.result _ _ (λ found is. allows_asked found (subst (λ (o : Option Command). IfSome o AllowsInput) (sym is) (allows_command (map string_bytes c.args.words.now))))
    (returns-in-Some-clause-command c)
