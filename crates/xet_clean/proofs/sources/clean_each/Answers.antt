use Rattle.std.proofs.Common.{ap, length, subst, arith}
use Rattle.xet_cut.specs.Limits.{AreInRange}
use Rattle.xet_clean.specs.declared.cleaner.FinishedFile.{FinishedFile}
use Rattle.xet_clean.proofs.Looped.{has_cleaned, later_end, taken_end, tell_end}
use Rattle.xet_clean.proofs.Turning.{added_of, loop_begins_with, turn_goes_on, turn_stops}
use Rattle.xet_clean.proofs.sources.clean_each.Goals as goal

pub sources-init : goal.sources-init
sources-init g c =
    let w = c.args.working in
    let nothing = c.requires.nothing in
    record {
      loop = loop_begins_with g.R.Source.tells g.R.Source.left g.R.Source.faults c.args.policy.now c.args.sources.now (g.S.Stepping.holder c.args.asking.steps) w.cleaned.infos.items w.cleaned.choices.items w.cleaned.metrics w.aggregate c.requires.going nothing;
      infos_count = omega (arith, w.cleaned.infos.ok.0, ap length nothing.0);
      choices_count = omega (arith, w.cleaned.choices.ok.0, ap length nothing.1);
      infos_room = c.requires.room.0;
      choices_room = c.requires.room.1;
    }

pub keep-requires-clause-working : goal.keep-requires-clause-working
keep-requires-clause-working g c =
    let tells = g.R.Source.tells in let left = g.R.Source.left in let faults = g.R.Source.faults in
    let start = g.S.Stepping.holder c.args.asking.steps in
    let h = g.S.Stepping.holder c.sources.asking.steps in
    let w = c.sources.working in
    let h' = g.S.Stepping.holder c.clean_source-back.result.0.steps in
    let d = c.index-sources-at.result in
    let t = c.clean_source-back.new.source in
    let known = c.clean_source-back.ensures in
    added_of tells left faults c.args.policy.now (λ (f : FinishedFile). f.info) (λ (f : FinishedFile). f.metrics) (λ (f : FinishedFile). f.choices) (λ (f : FinishedFile). f.rest) c.args.sources.now c.sources.sources c.sources.at start h w.cleaned.infos.items w.cleaned.choices.items w.cleaned.metrics w.aggregate c.sources.invariant.loop (omega arith) c.requires.count (subst AreInRange c.limits.ensures c.recall_invariant.ensures) d t h' c.clean_source-back.result.1 (record { finished = known.finished; few = known.few; own = known.own; follows = known.follows; frame = known.frame; refused = known.refused })

pub returns-in-Err-clause-follows : goal.returns-in-Err-clause-follows
returns-in-Err-clause-follows g c =
    let tells = g.R.Source.tells in let left = g.R.Source.left in let faults = g.R.Source.faults in
    let start = g.S.Stepping.holder c.args.asking.steps in
    let h = g.S.Stepping.holder c.sources.asking.steps in
    let w = c.sources.working in
    let h' = g.S.Stepping.holder c.clean_source-back.result.0.steps in
    let d = c.index-sources-at.result in
    let t = c.clean_source-back.new.source in
    let known = c.clean_source-back.ensures in
    (turn_stops tells left faults c.args.policy.now (λ (f : FinishedFile). f.info) (λ (f : FinishedFile). f.metrics) (λ (f : FinishedFile). f.choices) (λ (f : FinishedFile). f.rest) c.args.sources.now c.sources.sources c.sources.at start h w.cleaned.infos.items w.cleaned.choices.items w.cleaned.metrics w.aggregate c.sources.invariant.loop (omega arith) d t h' (g.S.Stepping.holder c.keep.new.steps) c.clean_source-back.result.1 c.keep.result c.in-Err.error (record { finished = known.finished; few = known.few; own = known.own; follows = known.follows; frame = known.frame; refused = known.refused }) (record { few = c.keep.ensures.few; refused = c.keep.ensures.refused; kept = c.keep.ensures.kept }) (cc c.in-Err.is)).follows

pub returns-in-Err-clause-bound : goal.returns-in-Err-clause-bound
returns-in-Err-clause-bound g c =
    let tells = g.R.Source.tells in let left = g.R.Source.left in let faults = g.R.Source.faults in
    let start = g.S.Stepping.holder c.args.asking.steps in
    let h = g.S.Stepping.holder c.sources.asking.steps in
    let w = c.sources.working in
    let h' = g.S.Stepping.holder c.clean_source-back.result.0.steps in
    let d = c.index-sources-at.result in
    let t = c.clean_source-back.new.source in
    let known = c.clean_source-back.ensures in
    (turn_stops tells left faults c.args.policy.now (λ (f : FinishedFile). f.info) (λ (f : FinishedFile). f.metrics) (λ (f : FinishedFile). f.choices) (λ (f : FinishedFile). f.rest) c.args.sources.now c.sources.sources c.sources.at start h w.cleaned.infos.items w.cleaned.choices.items w.cleaned.metrics w.aggregate c.sources.invariant.loop (omega arith) d t h' (g.S.Stepping.holder c.keep.new.steps) c.clean_source-back.result.1 c.keep.result c.in-Err.error (record { finished = known.finished; few = known.few; own = known.own; follows = known.follows; frame = known.frame; refused = known.refused }) (record { few = c.keep.ensures.few; refused = c.keep.ensures.refused; kept = c.keep.ensures.kept }) (cc c.in-Err.is)).short

pub returns-in-Err-clause-sources_tell : goal.returns-in-Err-clause-sources_tell
returns-in-Err-clause-sources_tell g c =
    let tells = g.R.Source.tells in let left = g.R.Source.left in let faults = g.R.Source.faults in
    let start = g.S.Stepping.holder c.args.asking.steps in
    let h = g.S.Stepping.holder c.sources.asking.steps in
    let w = c.sources.working in
    let h' = g.S.Stepping.holder c.clean_source-back.result.0.steps in
    let d = c.index-sources-at.result in
    let t = c.clean_source-back.new.source in
    let known = c.clean_source-back.ensures in
    (turn_stops tells left faults c.args.policy.now (λ (f : FinishedFile). f.info) (λ (f : FinishedFile). f.metrics) (λ (f : FinishedFile). f.choices) (λ (f : FinishedFile). f.rest) c.args.sources.now c.sources.sources c.sources.at start h w.cleaned.infos.items w.cleaned.choices.items w.cleaned.metrics w.aggregate c.sources.invariant.loop (omega arith) d t h' (g.S.Stepping.holder c.keep.new.steps) c.clean_source-back.result.1 c.keep.result c.in-Err.error (record { finished = known.finished; few = known.few; own = known.own; follows = known.follows; frame = known.frame; refused = known.refused }) (record { few = c.keep.ensures.few; refused = c.keep.ensures.refused; kept = c.keep.ensures.kept }) (cc c.in-Err.is)).tell

pub returns-in-Err-clause-sources_taken : goal.returns-in-Err-clause-sources_taken
returns-in-Err-clause-sources_taken g c =
    let tells = g.R.Source.tells in let left = g.R.Source.left in let faults = g.R.Source.faults in
    let start = g.S.Stepping.holder c.args.asking.steps in
    let h = g.S.Stepping.holder c.sources.asking.steps in
    let w = c.sources.working in
    let h' = g.S.Stepping.holder c.clean_source-back.result.0.steps in
    let d = c.index-sources-at.result in
    let t = c.clean_source-back.new.source in
    let known = c.clean_source-back.ensures in
    (turn_stops tells left faults c.args.policy.now (λ (f : FinishedFile). f.info) (λ (f : FinishedFile). f.metrics) (λ (f : FinishedFile). f.choices) (λ (f : FinishedFile). f.rest) c.args.sources.now c.sources.sources c.sources.at start h w.cleaned.infos.items w.cleaned.choices.items w.cleaned.metrics w.aggregate c.sources.invariant.loop (omega arith) d t h' (g.S.Stepping.holder c.keep.new.steps) c.clean_source-back.result.1 c.keep.result c.in-Err.error (record { finished = known.finished; few = known.few; own = known.own; follows = known.follows; frame = known.frame; refused = known.refused }) (record { few = c.keep.ensures.few; refused = c.keep.ensures.refused; kept = c.keep.ensures.kept }) (cc c.in-Err.is)).taken

pub returns-in-Err-clause-sources_later : goal.returns-in-Err-clause-sources_later
returns-in-Err-clause-sources_later g c =
    let tells = g.R.Source.tells in let left = g.R.Source.left in let faults = g.R.Source.faults in
    let start = g.S.Stepping.holder c.args.asking.steps in
    let h = g.S.Stepping.holder c.sources.asking.steps in
    let w = c.sources.working in
    let h' = g.S.Stepping.holder c.clean_source-back.result.0.steps in
    let d = c.index-sources-at.result in
    let t = c.clean_source-back.new.source in
    let known = c.clean_source-back.ensures in
    (turn_stops tells left faults c.args.policy.now (λ (f : FinishedFile). f.info) (λ (f : FinishedFile). f.metrics) (λ (f : FinishedFile). f.choices) (λ (f : FinishedFile). f.rest) c.args.sources.now c.sources.sources c.sources.at start h w.cleaned.infos.items w.cleaned.choices.items w.cleaned.metrics w.aggregate c.sources.invariant.loop (omega arith) d t h' (g.S.Stepping.holder c.keep.new.steps) c.clean_source-back.result.1 c.keep.result c.in-Err.error (record { finished = known.finished; few = known.few; own = known.own; follows = known.follows; frame = known.frame; refused = known.refused }) (record { few = c.keep.ensures.few; refused = c.keep.ensures.refused; kept = c.keep.ensures.kept }) (cc c.in-Err.is)).later

pub returns-in-Err-clause-refused : goal.returns-in-Err-clause-refused
returns-in-Err-clause-refused g c =
    let tells = g.R.Source.tells in let left = g.R.Source.left in let faults = g.R.Source.faults in
    let start = g.S.Stepping.holder c.args.asking.steps in
    let h = g.S.Stepping.holder c.sources.asking.steps in
    let w = c.sources.working in
    let h' = g.S.Stepping.holder c.clean_source-back.result.0.steps in
    let d = c.index-sources-at.result in
    let t = c.clean_source-back.new.source in
    let known = c.clean_source-back.ensures in
    (turn_stops tells left faults c.args.policy.now (λ (f : FinishedFile). f.info) (λ (f : FinishedFile). f.metrics) (λ (f : FinishedFile). f.choices) (λ (f : FinishedFile). f.rest) c.args.sources.now c.sources.sources c.sources.at start h w.cleaned.infos.items w.cleaned.choices.items w.cleaned.metrics w.aggregate c.sources.invariant.loop (omega arith) d t h' (g.S.Stepping.holder c.keep.new.steps) c.clean_source-back.result.1 c.keep.result c.in-Err.error (record { finished = known.finished; few = known.few; own = known.own; follows = known.follows; frame = known.frame; refused = known.refused }) (record { few = c.keep.ensures.few; refused = c.keep.ensures.refused; kept = c.keep.ensures.kept }) (cc c.in-Err.is)).reason

pub sources-preserved : goal.sources-preserved
sources-preserved g c =
    let tells = g.R.Source.tells in let left = g.R.Source.left in let faults = g.R.Source.faults in
    let start = g.S.Stepping.holder c.args.asking.steps in
    let h = g.S.Stepping.holder c.sources.asking.steps in
    let w = c.sources.working in
    let h' = g.S.Stepping.holder c.clean_source-back.result.0.steps in
    let d = c.index-sources-at.result in
    let t = c.clean_source-back.new.source in
    let known = c.clean_source-back.ensures in
    let before = c.sources.invariant in
    record {
      loop = turn_goes_on tells left faults c.args.policy.now (λ (f : FinishedFile). f.info) (λ (f : FinishedFile). f.metrics) (λ (f : FinishedFile). f.choices) (λ (f : FinishedFile). f.rest) c.args.sources.now c.sources.sources c.sources.at start h w.cleaned.infos.items w.cleaned.choices.items w.cleaned.metrics w.aggregate c.sources.invariant.loop (omega arith) c.requires.count (subst AreInRange c.limits.ensures c.recall_invariant.ensures) d t h' (g.S.Stepping.holder c.keep.new.steps) c.clean_source-back.result.1 c.keep.result c.in_default.field-0 c.keep.new.working.cleaned.infos.items c.keep.new.working.cleaned.choices.items c.keep.new.working.cleaned.metrics c.keep.new.working.aggregate
          (record { finished = known.finished; few = known.few; own = known.own; follows = known.follows; frame = known.frame; refused = known.refused }) (record { few = c.keep.ensures.few; refused = c.keep.ensures.refused; kept = c.keep.ensures.kept }) (cc c.in_default.is) c.keep.ensures.working;
      infos_count = omega (arith, c.in_default.ensures.grown.0, before.infos_count);
      choices_count = omega (arith, c.in_default.ensures.grown.1, before.choices_count);
      infos_room = omega (arith, c.keep.ensures.room.0, before.infos_room);
      choices_room = omega (arith, c.keep.ensures.room.1, before.choices_room);
    }

pub returns-clause-cleaned : goal.returns-clause-cleaned
returns-clause-cleaned g c =
    let tells = g.R.Source.tells in let left = g.R.Source.left in let faults = g.R.Source.faults in
    let start = g.S.Stepping.holder c.args.asking.steps in
    let h = g.S.Stepping.holder c.sources.asking.steps in
    let w = c.sources.working in
    has_cleaned tells left faults c.args.policy.now c.args.sources.now c.sources.sources c.sources.at start h w.cleaned.infos.items w.cleaned.choices.items w.cleaned.metrics w.aggregate c.sources.invariant.loop (omega arith)

pub returns-clause-follows : goal.returns-clause-follows
returns-clause-follows g c = c.sources.invariant.loop.working.follows

pub returns-clause-sources_tell : goal.returns-clause-sources_tell
returns-clause-sources_tell g c =
    let tells = g.R.Source.tells in let left = g.R.Source.left in let faults = g.R.Source.faults in
    let start = g.S.Stepping.holder c.args.asking.steps in
    let h = g.S.Stepping.holder c.sources.asking.steps in
    let w = c.sources.working in
    tell_end tells left faults c.args.policy.now c.args.sources.now c.sources.sources c.sources.at start h w.cleaned.infos.items w.cleaned.choices.items w.cleaned.metrics w.aggregate c.sources.invariant.loop

pub returns-clause-sources_taken : goal.returns-clause-sources_taken
returns-clause-sources_taken g c =
    let tells = g.R.Source.tells in let left = g.R.Source.left in let faults = g.R.Source.faults in
    let start = g.S.Stepping.holder c.args.asking.steps in
    let h = g.S.Stepping.holder c.sources.asking.steps in
    let w = c.sources.working in
    taken_end tells left faults c.args.policy.now c.args.sources.now c.sources.sources c.sources.at start h w.cleaned.infos.items w.cleaned.choices.items w.cleaned.metrics w.aggregate c.sources.invariant.loop

pub returns-clause-sources_later : goal.returns-clause-sources_later
returns-clause-sources_later g c =
    let tells = g.R.Source.tells in let left = g.R.Source.left in let faults = g.R.Source.faults in
    let start = g.S.Stepping.holder c.args.asking.steps in
    let h = g.S.Stepping.holder c.sources.asking.steps in
    let w = c.sources.working in
    later_end tells left faults c.args.policy.now c.args.sources.now c.sources.sources c.sources.at start h w.cleaned.infos.items w.cleaned.choices.items w.cleaned.metrics w.aggregate c.sources.invariant.loop
