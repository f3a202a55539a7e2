use Rattle.xet_workers.proofs.Closing.{may_first, merged_alone, unmerged_alone}
use Rattle.xet_workers.proofs.ending.merge_alone.Goals as goal

pub returns-clause-merged : goal.returns-clause-merged
returns-clause-merged g c = λ ps may.
    let first = c.new-alone.result in
    let began = c.new-alone.ensures in
    let made = c.merge_all-cleaned in
    merged_alone c.args.store c.into_store.result first made.new.steps began.0 began.1 began.2 c.into_store.ensures c.recall_steps.ensures made.ensures.follows ps made.result
    (made.ensures.merged ps (may_first c.args.store first began.0 began.1 began.2 ps c.args.workings.items may))

pub returns-clause-unmerged : goal.returns-clause-unmerged
returns-clause-unmerged g c = λ ps may.
    let first = c.new-alone.result in
    let began = c.new-alone.ensures in
    let made = c.merge_all-cleaned in
    unmerged_alone c.args.store c.into_store.result first made.new.steps began.0 began.1 began.2 c.into_store.ensures c.recall_steps.ensures made.ensures.follows ps c.args.workings.items made.result
    (made.ensures.refused ps (may_first c.args.store first began.0 began.1 began.2 ps c.args.workings.items may)) made.ensures.few
