use Rattle.std.proofs.Common.{◌∙◌, ℕ, List, Option, ap, subst, sym}
use Rattle.xet_aggregate.specs.Aggregate.{single}
use Rattle.xet_dedup.specs.Deduping.{open_indices}
use Rattle.xet_dedup.specs.Records.{file_record}
use Rattle.xet_clean.specs.Planning.{IsFinished}
use Rattle.xet_clean.proofs.Finishing.{finished_file, pointer, pointer_of}
use Rattle.xet_clean.proofs.cleaner.finished.Goals as goal

pub finalize-requires : goal.finalize-requires
finalize-requires g c = record { whole = c.requires.whole.0; plan = c.requires.planned.2.deduped }

pub returns-in-Ok-clause-finished : goal.returns-in-Ok-clause-finished
returns-in-Ok-clause-finished g c = λ bytes sized planned.
    let d = c.args.deduper in
    let now = g.S.Stepping.holder d.interface.steps in
    let sha256 = c.args.sha256 in
    let info = pointer c.in-Ok.file.hash c.args.file_size c.args.sha256 in
    let rest = c.in-Ok.ensures.rest ∙ ap (λ (digest : Option (List ℕ)). single d.plan.block (file_record d.plan.leaves d.plan.segments digest) (open_indices d.plan.segments) d.file_id) c.metadata.ensures in
    subst (λ a. IsFinished (g.S.Stepping.holder d.start.value.steps) (g.S.Stepping.holder a.steps) d.file_id sha256 bytes info c.in-Ok.file.metrics c.in-Ok.file.choices c.in-Ok.file.rest) (sym c.in-Ok.ensures.interface)
    (finished_file (g.S.Stepping.holder d.start.value.steps) now d.file_id bytes d.plan info c.in-Ok.file.metrics c.in-Ok.file.choices c.in-Ok.file.rest sha256 d.global planned c.requires.whole.1
    (pointer_of now.limits bytes d.plan.leaves c.in-Ok.file.hash c.args.file_size c.args.sha256 c.in-Ok.ensures.hash planned.leaves sized)
    c.in-Ok.ensures.choices c.in-Ok.ensures.metrics rest c.in-Ok.ensures.aggregate)
