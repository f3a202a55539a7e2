use Rattle.std.proofs.Common.{◌∙◌, ap, subst, sym}
use Rattle.xet_clean.specs.declared.info.Cleaned.{Cleaned}
use Rattle.xet_store.specs.Alone.{AloneState, alone_of}
use Rattle.xet_store.specs.Holders.{Follows}
use Rattle.xet_clean.proofs.Promising.{IsResult, alone_promises}
use Rattle.xet_clean.proofs.clean.clean_with.Goals as goal

pub returns : goal.returns
returns g c =
    let tells = g.R.Source.tells in let left = g.R.Source.left in let faults = g.R.Source.faults in
    let sources = c.args.sources.now in
    let now = c.clean_all-asking.new.sources in
    let first = c.new-asking.result.steps in
    let began = c.new-asking.ensures.0 in
    let given = c.into_steps-alone.ensures in
    let known = c.clean_all-asking.ensures in
    let p = alone_promises tells left faults c.args.policy.now sources now (λ (t : Cleaned). t.infos.items) (λ (t : Cleaned). t.choices.items) (λ (t : Cleaned). t.metrics)
    c.args.session c.into_store-session.result first c.into_steps-alone.result c.clean_all-asking.result.1
    (ap (λ (a : AloneState). a.start) began ∙ c.new.ensures.0) (ap (λ (a : AloneState). a.store) began ∙ c.new.ensures.1) (ap (λ (a : AloneState). a.stopped) began ∙ c.new.ensures.2)
    c.into_store-session.ensures c.recall_steps.ensures c.recall_sound.ensures c.recall_invariant.ensures
    (subst (λ (a : AloneState). Follows (alone_of first.start first.store first.stopped) (alone_of a.start a.store a.stopped)) (sym given) known.follows)
    (subst (λ (a : AloneState). IsResult tells left faults c.args.policy.now sources now (λ (t : Cleaned). t.infos.items) (λ (t : Cleaned). t.choices.items) (λ (t : Cleaned). t.metrics) (alone_of first.start first.store first.stopped) (alone_of a.start a.store a.stopped) c.clean_all-asking.result.1) (sym given)
    (record { ends = known.cleaned; read = known.read; short = known.bound; why = known.refused })) known.sources_tell in
    record {
      infos = p.infos_are;
      read = p.read;
      short = p.short;
      files = p.files;
      recorded = p.plans;
      cleaned = p.cleaned;
      keeps = p.keeps;
      steps = p.steps;
      adds = p.adds;
      bound = p.bound;
      sources_tell = known.sources_tell;
      sources_taken = known.sources_taken;
      sources_later = known.sources_later;
      reason = p.reason;
    }
