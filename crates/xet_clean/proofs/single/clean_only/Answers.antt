use Rattle.std.proofs.Common.{◌+◌, [], ◌∷◌, refl, subst, arith}
use Rattle.xet_cut.specs.Limits.{AreInRange}
use Rattle.xet_clean.specs.declared.cleaner.FinishedFile.{FinishedFile}
use Rattle.xet_clean.specs.declared.info.Cleaned.{Cleaned}
use Rattle.xet_clean.proofs.Looped.{taken_end}
use Rattle.xet_clean.proofs.Turning.{added_of, end_ends, end_reads, end_reason, end_short, loop_begins_with, turn_goes_on, turn_stops}
use Rattle.xet_store.specs.theorems.Following.{follows_then}
use Rattle.xet_clean.proofs.single.clean_only.Goals as goal

pub keep-requires-clause-working : goal.keep-requires-clause-working
keep-requires-clause-working g c =
    let tells = g.R.Source.tells in let left = g.R.Source.left in let faults = g.R.Source.faults in
    let start = g.S.Stepping.holder c.args.asking.steps in
    let w = c.args.working in
    let s = c.args.source.now in
    let t = c.clean_source-asking.new.source in
    let mid = g.S.Stepping.holder c.clean_source-asking.result.0.steps in
    let file = c.clean_source-asking.result.1 in
    let known = c.clean_source-asking.ensures in
    let range = subst AreInRange c.limits.ensures c.recall_invariant.ensures in
    let first = loop_begins_with tells left faults c.args.policy.now (s ∷ []) start w.cleaned.infos.items w.cleaned.choices.items w.cleaned.metrics w.aggregate c.requires.going c.requires.nothing in
    added_of tells left faults c.args.policy.now (λ (f : FinishedFile). f.info) (λ (f : FinishedFile). f.metrics) (λ (f : FinishedFile). f.choices) (λ (f : FinishedFile). f.rest) (s ∷ []) (s ∷ []) 0 start start w.cleaned.infos.items w.cleaned.choices.items w.cleaned.metrics w.aggregate first (omega arith) (omega arith) range s t mid file (record { finished = known.finished; few = known.few; own = known.own; follows = known.follows; frame = known.frame; refused = known.refused })

pub end-cleaned-requires : goal.end-cleaned-requires
end-cleaned-requires g c =
    let tells = g.R.Source.tells in let left = g.R.Source.left in let faults = g.R.Source.faults in
    let start = g.S.Stepping.holder c.args.asking.steps in
    let w = c.args.working in
    let s = c.args.source.now in
    let t = c.clean_source-asking.new.source in
    let mid = g.S.Stepping.holder c.clean_source-asking.result.0.steps in
    let file = c.clean_source-asking.result.1 in
    let known = c.clean_source-asking.ensures in
    let range = subst AreInRange c.limits.ensures c.recall_invariant.ensures in
    let first = loop_begins_with tells left faults c.args.policy.now (s ∷ []) start w.cleaned.infos.items w.cleaned.choices.items w.cleaned.metrics w.aggregate c.requires.going c.requires.nothing in
    let last = g.S.Stepping.holder c.keep.new.steps in
    let after = c.keep.new.working in
    let loop = turn_goes_on tells left faults c.args.policy.now (λ (f : FinishedFile). f.info) (λ (f : FinishedFile). f.metrics) (λ (f : FinishedFile). f.choices) (λ (f : FinishedFile). f.rest) (s ∷ []) (s ∷ []) 0 start start w.cleaned.infos.items w.cleaned.choices.items w.cleaned.metrics w.aggregate first (omega arith) (omega arith) range s t mid last file c.keep.result c.in-Ok.field-0 after.cleaned.infos.items after.cleaned.choices.items after.cleaned.metrics after.aggregate (record { finished = known.finished; few = known.few; own = known.own; follows = known.follows; frame = known.frame; refused = known.refused }) (record { few = c.keep.ensures.few; refused = c.keep.ensures.refused; kept = c.keep.ensures.kept }) c.in-Ok.is c.keep.ensures.working in
    record { aggregate = (loop.working.aggregate, loop.working.within, loop.working.forms) }

pub returns-in-Ok-clause-cleaned : goal.returns-in-Ok-clause-cleaned
returns-in-Ok-clause-cleaned g c =
    let tells = g.R.Source.tells in let left = g.R.Source.left in let faults = g.R.Source.faults in
    let start = g.S.Stepping.holder c.args.asking.steps in
    let w = c.args.working in
    let s = c.args.source.now in
    let t = c.clean_source-asking.new.source in
    let mid = g.S.Stepping.holder c.clean_source-asking.result.0.steps in
    let file = c.clean_source-asking.result.1 in
    let known = c.clean_source-asking.ensures in
    let range = subst AreInRange c.limits.ensures c.recall_invariant.ensures in
    let first = loop_begins_with tells left faults c.args.policy.now (s ∷ []) start w.cleaned.infos.items w.cleaned.choices.items w.cleaned.metrics w.aggregate c.requires.going c.requires.nothing in
    let last = g.S.Stepping.holder c.keep.new.steps in
    let after = c.keep.new.working in
    let loop = turn_goes_on tells left faults c.args.policy.now (λ (f : FinishedFile). f.info) (λ (f : FinishedFile). f.metrics) (λ (f : FinishedFile). f.choices) (λ (f : FinishedFile). f.rest) (s ∷ []) (s ∷ []) 0 start start w.cleaned.infos.items w.cleaned.choices.items w.cleaned.metrics w.aggregate first (omega arith) (omega arith) range s t mid last file c.keep.result c.in-Ok.field-0 after.cleaned.infos.items after.cleaned.choices.items after.cleaned.metrics after.aggregate (record { finished = known.finished; few = known.few; own = known.own; follows = known.follows; frame = known.frame; refused = known.refused }) (record { few = c.keep.ensures.few; refused = c.keep.ensures.refused; kept = c.keep.ensures.kept }) c.in-Ok.is c.keep.ensures.working in
    let end = g.S.Stepping.holder c.end-cleaned.new.steps in
    end_ends tells left faults c.args.policy.now (s ∷ []) (t ∷ []) (0 + 1) start last after.cleaned.infos.items after.cleaned.choices.items after.cleaned.metrics after.aggregate loop end (λ (x : Cleaned). x.infos.items) (λ (x : Cleaned). x.choices.items) (λ (x : Cleaned). x.metrics) c.end-cleaned.result after.cleaned (omega arith) refl refl refl c.end-cleaned.ensures.closed

pub returns-in-Ok-clause-read : goal.returns-in-Ok-clause-read
returns-in-Ok-clause-read g c =
    let tells = g.R.Source.tells in let left = g.R.Source.left in let faults = g.R.Source.faults in
    let start = g.S.Stepping.holder c.args.asking.steps in
    let w = c.args.working in
    let s = c.args.source.now in
    let t = c.clean_source-asking.new.source in
    let mid = g.S.Stepping.holder c.clean_source-asking.result.0.steps in
    let file = c.clean_source-asking.result.1 in
    let known = c.clean_source-asking.ensures in
    let range = subst AreInRange c.limits.ensures c.recall_invariant.ensures in
    let first = loop_begins_with tells left faults c.args.policy.now (s ∷ []) start w.cleaned.infos.items w.cleaned.choices.items w.cleaned.metrics w.aggregate c.requires.going c.requires.nothing in
    let last = g.S.Stepping.holder c.keep.new.steps in
    let after = c.keep.new.working in
    let loop = turn_goes_on tells left faults c.args.policy.now (λ (f : FinishedFile). f.info) (λ (f : FinishedFile). f.metrics) (λ (f : FinishedFile). f.choices) (λ (f : FinishedFile). f.rest) (s ∷ []) (s ∷ []) 0 start start w.cleaned.infos.items w.cleaned.choices.items w.cleaned.metrics w.aggregate first (omega arith) (omega arith) range s t mid last file c.keep.result c.in-Ok.field-0 after.cleaned.infos.items after.cleaned.choices.items after.cleaned.metrics after.aggregate (record { finished = known.finished; few = known.few; own = known.own; follows = known.follows; frame = known.frame; refused = known.refused }) (record { few = c.keep.ensures.few; refused = c.keep.ensures.refused; kept = c.keep.ensures.kept }) c.in-Ok.is c.keep.ensures.working in
    let end = g.S.Stepping.holder c.end-cleaned.new.steps in
    end_reads tells left faults c.args.policy.now (s ∷ []) (t ∷ []) (0 + 1) start last after.cleaned.infos.items after.cleaned.choices.items after.cleaned.metrics after.aggregate loop end c.end-cleaned.result (omega arith)

pub returns-in-Ok-clause-follows : goal.returns-in-Ok-clause-follows
returns-in-Ok-clause-follows g c =
    let tells = g.R.Source.tells in let left = g.R.Source.left in let faults = g.R.Source.faults in
    let start = g.S.Stepping.holder c.args.asking.steps in
    let w = c.args.working in
    let s = c.args.source.now in
    let t = c.clean_source-asking.new.source in
    let mid = g.S.Stepping.holder c.clean_source-asking.result.0.steps in
    let file = c.clean_source-asking.result.1 in
    let known = c.clean_source-asking.ensures in
    let range = subst AreInRange c.limits.ensures c.recall_invariant.ensures in
    let first = loop_begins_with tells left faults c.args.policy.now (s ∷ []) start w.cleaned.infos.items w.cleaned.choices.items w.cleaned.metrics w.aggregate c.requires.going c.requires.nothing in
    let last = g.S.Stepping.holder c.keep.new.steps in
    let after = c.keep.new.working in
    let loop = turn_goes_on tells left faults c.args.policy.now (λ (f : FinishedFile). f.info) (λ (f : FinishedFile). f.metrics) (λ (f : FinishedFile). f.choices) (λ (f : FinishedFile). f.rest) (s ∷ []) (s ∷ []) 0 start start w.cleaned.infos.items w.cleaned.choices.items w.cleaned.metrics w.aggregate first (omega arith) (omega arith) range s t mid last file c.keep.result c.in-Ok.field-0 after.cleaned.infos.items after.cleaned.choices.items after.cleaned.metrics after.aggregate (record { finished = known.finished; few = known.few; own = known.own; follows = known.follows; frame = known.frame; refused = known.refused }) (record { few = c.keep.ensures.few; refused = c.keep.ensures.refused; kept = c.keep.ensures.kept }) c.in-Ok.is c.keep.ensures.working in
    follows_then _ _ _ loop.working.follows c.end-cleaned.ensures.follows

pub returns-in-Ok-clause-bound : goal.returns-in-Ok-clause-bound
returns-in-Ok-clause-bound g c =
    let tells = g.R.Source.tells in let left = g.R.Source.left in let faults = g.R.Source.faults in
    let start = g.S.Stepping.holder c.args.asking.steps in
    let w = c.args.working in
    let s = c.args.source.now in
    let t = c.clean_source-asking.new.source in
    let mid = g.S.Stepping.holder c.clean_source-asking.result.0.steps in
    let file = c.clean_source-asking.result.1 in
    let known = c.clean_source-asking.ensures in
    let range = subst AreInRange c.limits.ensures c.recall_invariant.ensures in
    let first = loop_begins_with tells left faults c.args.policy.now (s ∷ []) start w.cleaned.infos.items w.cleaned.choices.items w.cleaned.metrics w.aggregate c.requires.going c.requires.nothing in
    let last = g.S.Stepping.holder c.keep.new.steps in
    let after = c.keep.new.working in
    let loop = turn_goes_on tells left faults c.args.policy.now (λ (f : FinishedFile). f.info) (λ (f : FinishedFile). f.metrics) (λ (f : FinishedFile). f.choices) (λ (f : FinishedFile). f.rest) (s ∷ []) (s ∷ []) 0 start start w.cleaned.infos.items w.cleaned.choices.items w.cleaned.metrics w.aggregate first (omega arith) (omega arith) range s t mid last file c.keep.result c.in-Ok.field-0 after.cleaned.infos.items after.cleaned.choices.items after.cleaned.metrics after.aggregate (record { finished = known.finished; few = known.few; own = known.own; follows = known.follows; frame = known.frame; refused = known.refused }) (record { few = c.keep.ensures.few; refused = c.keep.ensures.refused; kept = c.keep.ensures.kept }) c.in-Ok.is c.keep.ensures.working in
    let end = g.S.Stepping.holder c.end-cleaned.new.steps in
    end_short tells left faults c.args.policy.now (s ∷ []) (t ∷ []) (0 + 1) start last after.cleaned.infos.items after.cleaned.choices.items after.cleaned.metrics after.aggregate loop end c.end-cleaned.result c.end-cleaned.ensures.few c.end-cleaned.ensures.refused

pub returns-in-Ok-clause-taken : goal.returns-in-Ok-clause-taken
returns-in-Ok-clause-taken g c =
    let tells = g.R.Source.tells in let left = g.R.Source.left in let faults = g.R.Source.faults in
    let start = g.S.Stepping.holder c.args.asking.steps in
    let w = c.args.working in
    let s = c.args.source.now in
    let t = c.clean_source-asking.new.source in
    let mid = g.S.Stepping.holder c.clean_source-asking.result.0.steps in
    let file = c.clean_source-asking.result.1 in
    let known = c.clean_source-asking.ensures in
    let range = subst AreInRange c.limits.ensures c.recall_invariant.ensures in
    let first = loop_begins_with tells left faults c.args.policy.now (s ∷ []) start w.cleaned.infos.items w.cleaned.choices.items w.cleaned.metrics w.aggregate c.requires.going c.requires.nothing in
    let last = g.S.Stepping.holder c.keep.new.steps in
    let after = c.keep.new.working in
    let loop = turn_goes_on tells left faults c.args.policy.now (λ (f : FinishedFile). f.info) (λ (f : FinishedFile). f.metrics) (λ (f : FinishedFile). f.choices) (λ (f : FinishedFile). f.rest) (s ∷ []) (s ∷ []) 0 start start w.cleaned.infos.items w.cleaned.choices.items w.cleaned.metrics w.aggregate first (omega arith) (omega arith) range s t mid last file c.keep.result c.in-Ok.field-0 after.cleaned.infos.items after.cleaned.choices.items after.cleaned.metrics after.aggregate (record { finished = known.finished; few = known.few; own = known.own; follows = known.follows; frame = known.frame; refused = known.refused }) (record { few = c.keep.ensures.few; refused = c.keep.ensures.refused; kept = c.keep.ensures.kept }) c.in-Ok.is c.keep.ensures.working in
    taken_end tells left faults c.args.policy.now (s ∷ []) (t ∷ []) (0 + 1) start last after.cleaned.infos.items after.cleaned.choices.items after.cleaned.metrics after.aggregate loop

pub returns-in-Ok-clause-refused : goal.returns-in-Ok-clause-refused
returns-in-Ok-clause-refused g c =
    let tells = g.R.Source.tells in let left = g.R.Source.left in let faults = g.R.Source.faults in
    let start = g.S.Stepping.holder c.args.asking.steps in
    let w = c.args.working in
    let s = c.args.source.now in
    let t = c.clean_source-asking.new.source in
    let mid = g.S.Stepping.holder c.clean_source-asking.result.0.steps in
    let file = c.clean_source-asking.result.1 in
    let known = c.clean_source-asking.ensures in
    let range = subst AreInRange c.limits.ensures c.recall_invariant.ensures in
    let first = loop_begins_with tells left faults c.args.policy.now (s ∷ []) start w.cleaned.infos.items w.cleaned.choices.items w.cleaned.metrics w.aggregate c.requires.going c.requires.nothing in
    let last = g.S.Stepping.holder c.keep.new.steps in
    let after = c.keep.new.working in
    let loop = turn_goes_on tells left faults c.args.policy.now (λ (f : FinishedFile). f.info) (λ (f : FinishedFile). f.metrics) (λ (f : FinishedFile). f.choices) (λ (f : FinishedFile). f.rest) (s ∷ []) (s ∷ []) 0 start start w.cleaned.infos.items w.cleaned.choices.items w.cleaned.metrics w.aggregate first (omega arith) (omega arith) range s t mid last file c.keep.result c.in-Ok.field-0 after.cleaned.infos.items after.cleaned.choices.items after.cleaned.metrics after.aggregate (record { finished = known.finished; few = known.few; own = known.own; follows = known.follows; frame = known.frame; refused = known.refused }) (record { few = c.keep.ensures.few; refused = c.keep.ensures.refused; kept = c.keep.ensures.kept }) c.in-Ok.is c.keep.ensures.working in
    let end = g.S.Stepping.holder c.end-cleaned.new.steps in
    end_reason tells left faults c.args.policy.now (s ∷ []) (t ∷ []) (0 + 1) start last after.cleaned.infos.items after.cleaned.choices.items after.cleaned.metrics after.aggregate loop end c.end-cleaned.result c.end-cleaned.ensures.few c.end-cleaned.ensures.refused

pub returns-in-Err-clause-follows : goal.returns-in-Err-clause-follows
returns-in-Err-clause-follows g c =
    let tells = g.R.Source.tells in let left = g.R.Source.left in let faults = g.R.Source.faults in
    let start = g.S.Stepping.holder c.args.asking.steps in
    let w = c.args.working in
    let s = c.args.source.now in
    let t = c.clean_source-asking.new.source in
    let mid = g.S.Stepping.holder c.clean_source-asking.result.0.steps in
    let file = c.clean_source-asking.result.1 in
    let known = c.clean_source-asking.ensures in
    let first = loop_begins_with tells left faults c.args.policy.now (s ∷ []) start w.cleaned.infos.items w.cleaned.choices.items w.cleaned.metrics w.aggregate c.requires.going c.requires.nothing in
    let last = g.S.Stepping.holder c.keep.new.steps in
    (turn_stops tells left faults c.args.policy.now (λ (f : FinishedFile). f.info) (λ (f : FinishedFile). f.metrics) (λ (f : FinishedFile). f.choices) (λ (f : FinishedFile). f.rest) (s ∷ []) (s ∷ []) 0 start start w.cleaned.infos.items w.cleaned.choices.items w.cleaned.metrics w.aggregate first (omega arith) s t mid last file c.keep.result c.in-Err.error (record { finished = known.finished; few = known.few; own = known.own; follows = known.follows; frame = known.frame; refused = known.refused }) (record { few = c.keep.ensures.few; refused = c.keep.ensures.refused; kept = c.keep.ensures.kept }) c.in-Err.is).follows

pub returns-in-Err-clause-bound : goal.returns-in-Err-clause-bound
returns-in-Err-clause-bound g c =
    let tells = g.R.Source.tells in let left = g.R.Source.left in let faults = g.R.Source.faults in
    let start = g.S.Stepping.holder c.args.asking.steps in
    let w = c.args.working in
    let s = c.args.source.now in
    let t = c.clean_source-asking.new.source in
    let mid = g.S.Stepping.holder c.clean_source-asking.result.0.steps in
    let file = c.clean_source-asking.result.1 in
    let known = c.clean_source-asking.ensures in
    let first = loop_begins_with tells left faults c.args.policy.now (s ∷ []) start w.cleaned.infos.items w.cleaned.choices.items w.cleaned.metrics w.aggregate c.requires.going c.requires.nothing in
    let last = g.S.Stepping.holder c.keep.new.steps in
    ([], (turn_stops tells left faults c.args.policy.now (λ (f : FinishedFile). f.info) (λ (f : FinishedFile). f.metrics) (λ (f : FinishedFile). f.choices) (λ (f : FinishedFile). f.rest) (s ∷ []) (s ∷ []) 0 start start w.cleaned.infos.items w.cleaned.choices.items w.cleaned.metrics w.aggregate first (omega arith) s t mid last file c.keep.result c.in-Err.error (record { finished = known.finished; few = known.few; own = known.own; follows = known.follows; frame = known.frame; refused = known.refused }) (record { few = c.keep.ensures.few; refused = c.keep.ensures.refused; kept = c.keep.ensures.kept }) c.in-Err.is).short)

pub returns-in-Err-clause-taken : goal.returns-in-Err-clause-taken
returns-in-Err-clause-taken g c =
    let tells = g.R.Source.tells in let left = g.R.Source.left in let faults = g.R.Source.faults in
    let start = g.S.Stepping.holder c.args.asking.steps in
    let w = c.args.working in
    let s = c.args.source.now in
    let t = c.clean_source-asking.new.source in
    let mid = g.S.Stepping.holder c.clean_source-asking.result.0.steps in
    let file = c.clean_source-asking.result.1 in
    let known = c.clean_source-asking.ensures in
    let first = loop_begins_with tells left faults c.args.policy.now (s ∷ []) start w.cleaned.infos.items w.cleaned.choices.items w.cleaned.metrics w.aggregate c.requires.going c.requires.nothing in
    let last = g.S.Stepping.holder c.keep.new.steps in
    (turn_stops tells left faults c.args.policy.now (λ (f : FinishedFile). f.info) (λ (f : FinishedFile). f.metrics) (λ (f : FinishedFile). f.choices) (λ (f : FinishedFile). f.rest) (s ∷ []) (s ∷ []) 0 start start w.cleaned.infos.items w.cleaned.choices.items w.cleaned.metrics w.aggregate first (omega arith) s t mid last file c.keep.result c.in-Err.error (record { finished = known.finished; few = known.few; own = known.own; follows = known.follows; frame = known.frame; refused = known.refused }) (record { few = c.keep.ensures.few; refused = c.keep.ensures.refused; kept = c.keep.ensures.kept }) c.in-Err.is).taken

pub returns-in-Err-clause-refused : goal.returns-in-Err-clause-refused
returns-in-Err-clause-refused g c =
    let tells = g.R.Source.tells in let left = g.R.Source.left in let faults = g.R.Source.faults in
    let start = g.S.Stepping.holder c.args.asking.steps in
    let w = c.args.working in
    let s = c.args.source.now in
    let t = c.clean_source-asking.new.source in
    let mid = g.S.Stepping.holder c.clean_source-asking.result.0.steps in
    let file = c.clean_source-asking.result.1 in
    let known = c.clean_source-asking.ensures in
    let first = loop_begins_with tells left faults c.args.policy.now (s ∷ []) start w.cleaned.infos.items w.cleaned.choices.items w.cleaned.metrics w.aggregate c.requires.going c.requires.nothing in
    let last = g.S.Stepping.holder c.keep.new.steps in
    (turn_stops tells left faults c.args.policy.now (λ (f : FinishedFile). f.info) (λ (f : FinishedFile). f.metrics) (λ (f : FinishedFile). f.choices) (λ (f : FinishedFile). f.rest) (s ∷ []) (s ∷ []) 0 start start w.cleaned.infos.items w.cleaned.choices.items w.cleaned.metrics w.aggregate first (omega arith) s t mid last file c.keep.result c.in-Err.error (record { finished = known.finished; few = known.few; own = known.own; follows = known.follows; frame = known.frame; refused = known.refused }) (record { few = c.keep.ensures.few; refused = c.keep.ensures.refused; kept = c.keep.ensures.kept }) c.in-Err.is).reason
