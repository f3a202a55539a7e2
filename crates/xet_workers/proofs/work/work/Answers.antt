use Rattle.std.proofs.Common.{◌≡◌, ◌∙◌, ap}
use Rattle.xet_store.specs.Holders.{Holder}
use Rattle.xet_workers.proofs.Parts.{ended_by}
use Rattle.xet_workers.proofs.work.work.Goals as goal

pub returns-clause-ended : goal.returns-clause-ended
returns-clause-ended g c =
    let begun : Holder = c.in-Some.pass in
    let is : begun ≡ c.requires.ready.pass = cc (c.requires.ready.there, c.in-Some.is, c.take.ensures.value) in
    let made = c.clean_part-pass.result in
    ended_by g.S.Source.tells g.S.Source.left g.S.Source.faults g.J.Naming.store begun c.args.sources.now c.clean_part-pass.new.sources c.args.from.pass c.args.from.source made.0 made.1 c.made_from.result
    (ap (λ (h : Holder). h.number) is ∙ c.requires.ready.number) c.clean_part-pass.ensures.cleaned c.clean_part-pass.ensures.refused c.made_from.ensures.working c.made_from.ensures.error
