use Rattle.std.proofs.Common.{◌≡◌, ◌∙◌, List, ℕ, subst, IfErr, IfOk, true}
use Rattle.std.proofs.lemmas.Result.{IfErr-weaker}
use Rattle.xet_store_disk.specs.theorems.Keeping.{keeps_nothing}
use Rattle.xet_program.specs.internal.Cleaned.{AreCleaned}
use Rattle.xet_program.specs.internal.Stops.{IsStop, cleaning_causes, session_causes}
use Rattle.xet_program.proofs.Cleaned.{stop_of_files}
use Rattle.xet_program.proofs.session.clean_lines.Goals as goal

pub returns-in-Err-clause-keeps : goal.returns-in-Err-clause-keeps
returns-in-Err-clause-keeps g c = keeps_nothing c.args.session.store

pub returns-in-Ok-clause-cleaned : goal.returns-in-Ok-clause-cleaned
returns-in-Ok-clause-cleaned g c =
    let files : c.deref_mut.result.now ≡ c.args.lines.now.files = c.deref_mut.ensures.value ∙ c.in-Ok.ensures.sources in
    subst (λ (fs : List (List ℕ)). IfOk c.clean_sources.result.1 (λ cleaned. AreCleaned (λ s. true) (λ s. s) fs c.args.session c.clean_sources.result.0 cleaned.infos.items)) files c.clean_sources.ensures.cleaned

pub returns-in-Ok-clause-stop : goal.returns-in-Ok-clause-stop
returns-in-Ok-clause-stop g c =
    let s = c.args.session in
    let t = c.clean_sources.result.0 in
    let after = c.clean_sources.new.sources in
    let files : c.deref_mut.result.now ≡ c.args.lines.now.files = c.deref_mut.ensures.value ∙ c.in-Ok.ensures.sources in
    IfErr-weaker c.clean_sources.result.1 (IsStop (cleaning_causes (λ f. true) (λ f. f) (λ f. 0) c.args.lines.now.files after s t)) (IsStop (session_causes s t c.args.lines.now))
    (λ e h. stop_of_files c.args.lines.now after s t e h)
    (subst (λ (fs : List (List ℕ)). IfErr c.clean_sources.result.1 (IsStop (cleaning_causes (λ f. true) (λ f. f) (λ f. 0) fs after s t))) files c.clean_sources.ensures.stop)
