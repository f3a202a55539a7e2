use Rattle.std.proofs.Common.{◌∙◌, ap, arith, rules, take}
use Rattle.xet_xorb_chunk.proofs.Blocks.{block_taken}
use Rattle.xet_xorb_chunk.proofs.Prefixes.{failed_prefix, fills_prefix, taken_prefix, prefix_then}
use Rattle.xet_xorb_chunk.proofs.chunk_stream.take_bytes.Goals as goal

pub reads-preserved : goal.reads-preserved
reads-preserved g c =
    let i = c.reads.invariant in record {
      within = search rules;
      read = λ told.
          block_taken _ _ _ c.reads.bytes.items _ c.resize.new.self.items c.fill_behind.new.bytes _ c.len-filled.result c.min.result c.in_ok-count.count _ (i.read told)
          (c.in_ok-count.ensures.before ∙ ap (take c.len-filled.result) c.deref_mut.ensures.value) c.in_ok-resize.ensures.items (search rules) (search rules)
          (c.in_ok-count.ensures.told (i.tells ∙ told)).taken (search rules) (search rules);
      tells = c.in_ok-count.ensures.frame.tells ∙ i.tells;
      later = omega (arith, c.in_ok-count.ensures.frame.later, i.later);
    }

pub returns-in_err-resize-clause-consumed : goal.returns-in_err-resize-clause-consumed
returns-in_err-resize-clause-consumed g c = λ told. taken_prefix (g.R.Source.left c.args.r.now) c.reads.bytes.items (g.R.Source.left c.reads.r) (c.reads.invariant.read told)

pub returns-in_err-count-clause-consumed : goal.returns-in_err-count-clause-consumed
returns-in_err-count-clause-consumed g c = λ told.
    let i = c.reads.invariant in
    let left = g.R.Source.left c.args.r.now in
    let middle = g.R.Source.left c.reads.r in
    prefix_then left middle (g.R.Source.left c.fill_behind.new.source) (taken_prefix left c.reads.bytes.items middle (i.read told)) (failed_prefix middle _ _ (c.in_err-count.ensures.told (i.tells ∙ told)))

pub returns-then-count-len-clause-consumed : goal.returns-then-count-len-clause-consumed
returns-then-count-len-clause-consumed g c = λ told.
    let i = c.reads.invariant in
    let left = g.R.Source.left c.args.r.now in
    let middle = g.R.Source.left c.reads.r in
    prefix_then left middle (g.R.Source.left c.fill_behind.new.source) (taken_prefix left c.reads.bytes.items middle (i.read told))
    (fills_prefix middle _ _ c.fill_behind.result (c.fill_behind.ensures.told (i.tells ∙ told)))

pub returns-clause-consumed : goal.returns-clause-consumed
returns-clause-consumed g c = λ told. taken_prefix (g.R.Source.left c.args.r.now) c.reads.bytes.items (g.R.Source.left c.reads.r) (c.reads.invariant.read told)
