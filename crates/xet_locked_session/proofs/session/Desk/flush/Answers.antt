use Rattle.std.proofs.Common.{◌≡◌, ◌∙◌, ℕ, List, ◌++◌, drop, length, ap, arith}
use Rattle.xet_history.specs.declared.entry.Entry.{Entry}
use Rattle.xet_history.specs.declared.entry.StepKind.TheVariants as kind
use Rattle.xet_history.specs.History.{flush_entries}
use Rattle.xet_locked_session.specs.Passes.{SawFlush}
use Rattle.xet_shared_history.specs.Owned.{numbers_from}
use Rattle.xet_store.specs.Recorded.{core_of}
use Rattle.xet_store.specs.Steps.{fault_entries}
use Rattle.xet_locked_session.specs.Passes.{FlushFailed, holder_of}
use Rattle.xet_locked_session.proofs.Cases.{if_err, if_ok}
use Rattle.xet_locked_session.proofs.Failing.{flush_failed, flush_steps}
use Rattle.xet_locked_session.proofs.Seeing.{saw_flush}
use Rattle.xet_locked_session.proofs.Telling.{IsTold, gained, told_by, told_count, told_history, told_legal, told_own}
use Rattle.xet_locked_session.proofs.session.Desk.flush.Goals as goal

pub invariant_of-pass : goal.invariant_of-pass
invariant_of-pass g c =
    let start = g.J.Naming.store in
    let pass = c.pass.inside.number in
    let own = c.pass.inside.known.own.items in
    let seen = c.pass.inside.known.reader.seen in
    let known = c.self.inside.log.writer.seen in
    let now = c.self.inside.store in
    let new = c.flush_by-result.new.self in
    let from = length c.history-from.result.now in
    let rest = drop from c.history.result.now in
    let own_now = c.tell.new.known.own.items in
    let seen_now = c.tell.new.known.reader.seen in
    let is = c.recall_invariant.ensures.since in
    let at : now.history ≡ start.history ++ known = c.self.invariant.1 in
    let prefix = c.compare.ensures.prefix in
    let are = c.pass.invariant.2 in
    let told : IsTold start own own_now known seen_now rest from = record {
      place = ap length c.history-from.ensures ∙ ap length at;
      numbers = c.tell.ensures.own ∙ ap (λ (o : List ℕ). o ++ numbers_from from (length rest)) c.flush_by-result.ensures.own;
      all = ap (λ s. s.seen) (c.tell.ensures.reader ∙ c.tell.ensures.writer) ∙ ap (λ s. s.seen ++ rest) c.compare.ensures.writer;
    } in
    let gains : (added : List Entry) → new.history ≡ now.history ++ added → rest ≡ added = λ added more. gained now.history added c.history.result.now from (c.history.ensures ∙ more) (ap length c.history-from.ensures) in
    let grew = c.flush_by-result.ensures.grew in
    let same : rest ≡ grew.added = gains grew.added grew.steps.moves.history in (
      ap (λ s. s.table) (c.tell.ensures.reader ∙ c.tell.ensures.writer) ∙ ap (λ s. s.table) c.compare.ensures.writer ∙ c.self.invariant.0,
      c.tell.ensures.seen ∙ ap length (c.history.ensures ∙ told_history start pass own own_now known seen_now rest from told grew.added same now new is seen grew.steps at prefix are),
      told_own start pass own own_now known seen_now rest from told grew.added same now new is seen grew.steps at prefix are grew.mine,
      told_legal start pass own own_now known seen_now rest from told grew.added same now new is seen grew.steps at prefix are,
      c.tell.ensures.share.0 ∙ c.pass.invariant.4,
      omega (arith, c.tell.ensures.share.1, c.pass.invariant.5, told_count start pass own own_now known seen_now rest from told grew.added same),
    )

pub returns-clause-saw : goal.returns-clause-saw
returns-clause-saw g c =
    let start = g.J.Naming.store in
    let pass = c.pass.inside.number in
    let own = c.pass.inside.known.own.items in
    let seen = c.pass.inside.known.reader.seen in
    let known = c.self.inside.log.writer.seen in
    let now = c.self.inside.store in
    let new = c.flush_by-result.new.self in
    let from = length c.history-from.result.now in
    let rest = drop from c.history.result.now in
    let own_now = c.tell.new.known.own.items in
    let seen_now = c.tell.new.known.reader.seen in
    let is = c.recall_invariant.ensures.since in
    let at : now.history ≡ start.history ++ known = c.self.invariant.1 in
    let prefix = c.compare.ensures.prefix in
    let are = c.pass.invariant.2 in
    let told : IsTold start own own_now known seen_now rest from = record {
      place = ap length c.history-from.ensures ∙ ap length at;
      numbers = c.tell.ensures.own ∙ ap (λ (o : List ℕ). o ++ numbers_from from (length rest)) c.flush_by-result.ensures.own;
      all = ap (λ s. s.seen) (c.tell.ensures.reader ∙ c.tell.ensures.writer) ∙ ap (λ s. s.seen ++ rest) c.compare.ensures.writer;
    } in
    let gains : (added : List Entry) → new.history ≡ now.history ++ added → rest ≡ added = λ added more. gained now.history added c.history.result.now from (c.history.ensures ∙ more) (ap length c.history-from.ensures) in
    if_ok _ _ (λ shard. SawFlush c.args.pass.now (holder_of start pass own_now seen_now) shard) c.flush_by-result.ensures.flushed
    (λ shard did. told_by start pass own own_now known seen_now rest from told (flush_entries pass (core_of now)) (gains (flush_entries pass (core_of now)) did.steps.moves.history) (λ h k. SawFlush h k shard) c.args.pass.now seen c.pass.view_is
    (saw_flush start now new is pass own seen known at prefix are shard did))

pub returns-clause-refused : goal.returns-clause-refused
returns-clause-refused g c =
    let start = g.J.Naming.store in
    let pass = c.pass.inside.number in
    let own = c.pass.inside.known.own.items in
    let seen = c.pass.inside.known.reader.seen in
    let known = c.self.inside.log.writer.seen in
    let now = c.self.inside.store in
    let new = c.flush_by-result.new.self in
    let from = length c.history-from.result.now in
    let rest = drop from c.history.result.now in
    let own_now = c.tell.new.known.own.items in
    let seen_now = c.tell.new.known.reader.seen in
    let is = c.recall_invariant.ensures.since in
    let at : now.history ≡ start.history ++ known = c.self.invariant.1 in
    let prefix = c.compare.ensures.prefix in
    let are = c.pass.invariant.2 in
    let told : IsTold start own own_now known seen_now rest from = record {
      place = ap length c.history-from.ensures ∙ ap length at;
      numbers = c.tell.ensures.own ∙ ap (λ (o : List ℕ). o ++ numbers_from from (length rest)) c.flush_by-result.ensures.own;
      all = ap (λ s. s.seen) (c.tell.ensures.reader ∙ c.tell.ensures.writer) ∙ ap (λ s. s.seen ++ rest) c.compare.ensures.writer;
    } in
    let gains : (added : List Entry) → new.history ≡ now.history ++ added → rest ≡ added = λ added more. gained now.history added c.history.result.now from (c.history.ensures ∙ more) (ap length c.history-from.ensures) in
    if_err _ _ (λ e. FlushFailed c.args.pass.now (holder_of start pass own_now seen_now) e) c.flush_by-result.ensures.refused
    (λ e fails. let steps = flush_steps start now new is pass own seen known at prefix are e fails in
    told_by start pass own own_now known seen_now rest from told (fault_entries pass kind.Flush e) (gains (fault_entries pass kind.Flush e) steps.moves.history) (λ h k. FlushFailed h k e) c.args.pass.now seen c.pass.view_is
    (flush_failed start now new is pass own seen known at prefix are e c.recall_invariant.ensures.recorded.shards fails steps))
