use Rattle.std.proofs.Common.{◌∙◌, ◌++◌, ℕ, List, ap, subst, sym}
use Rattle.std.specs.List.{concat}
use Rattle.xet_clean.specs.Policies.{HasBytes}
use Rattle.xet_workers.specs.internal.Behind.{HasBehind}
use Rattle.xet_workers.proofs.Hashing.{done_here, given, has_all}
use Rattle.xet_workers.proofs.behind.Behind.start.Goals as goal

pub returns-in-Ok : goal.returns-in-Ok
returns-in-Ok g c = λ bytes has.
    let old = c.args.self.now in
    given old.generator old.generator c.in-Ok.running old.waiting.items c.replace-blocks.new.dest.items bytes (c.in-Ok.ensures.given.0 ∙ c.replace-generator.ensures.value)
    (ap (λ v. v.items) c.in-Ok.ensures.given.1 ∙ ap (λ v. v.items) c.replace-blocks.ensures.value) (ap (λ v. v.items) c.replace-blocks.ensures.after ∙ c.new.ensures.items)
    (subst (λ r. HasBehind old.generator r old.waiting.items bytes) c.requires has)

pub returns-in-Err : goal.returns-in-Err
returns-in-Err g c = λ bytes has.
    let old = c.args.self.now in
    let now = c.in-Err.generator in
    let done : (before : List ℕ) → HasBytes old.generator before → HasBytes now (before ++ concat old.waiting.items) = λ before had.
    subst (λ v. HasBytes now (before ++ concat v.items)) c.replace-blocks.ensures.value (c.in-Err.ensures.done before (subst (λ x. HasBytes x before) (sym c.replace-generator.ensures.value) had)) in
    has_all now old.running c.replace-blocks.new.dest.items bytes c.requires (ap (λ v. v.items) c.replace-blocks.ensures.after ∙ c.new.ensures.items)
    (done_here old.generator now old.waiting.items bytes done (subst (λ r. HasBehind old.generator r old.waiting.items bytes) c.requires has))
