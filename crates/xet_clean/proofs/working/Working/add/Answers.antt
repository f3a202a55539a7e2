use Rattle.std.proofs.Common.{◌≡◌, ◌∙◌, ◌+◌, ◌*◌, ◌<◌, ◌++◌, ◌∷◌, [], List, length, subst, sym, arith}
use Rattle.xet_aggregate.specs.Aggregate.{Aggregate}
use Rattle.xet_aggregate.specs.declared.metrics.DeduplicationMetrics.{DeduplicationMetrics}
use Rattle.xet_choices.specs.declared.choice.Choice.{Choice}
use Rattle.xet_dedup.specs.Deduping.{metrics_of_both}
use Rattle.xet_store_disk.specs.declared.info.XetFileInfo.{XetFileInfo}
use Rattle.xet_store.specs.Holders.{Follows, Holder}
use Rattle.xet_store.specs.theorems.Following.{follows_nothing}
use Rattle.xet_clean.specs.Closing.{IsAtMost}
use Rattle.xet_clean.specs.internal.Sums.{HasRoom}
use Rattle.xet_clean.specs.Working.{IsWorking, Planned}
use Rattle.xet_clean.proofs.Added.{added_joined, added_nothing, added_rest, added_room, size_is}
use Rattle.xet_clean.specs.theorems.Counting.{at_most_more, at_most_nothing}
use Rattle.xet_clean.proofs.working.Working.add.Goals as goal
use Rattle.xet_clean.proofs.working.Working.add.Goals.{then-info-gt0+in_ok-join, else-info-gt0}

pub join-requires-clause-rest : goal.join-requires-clause-rest
join-requires-clause-rest g c = added_rest _ _ _ _ _ _ _ _ _ _ _ _ _ _ _ c.requires.working.6

pub add_metrics-requires : goal.add_metrics-requires
add_metrics-requires g c =
    let room : HasRoom c.args.self.now.cleaned.metrics c.args.file.metrics = added_room _ _ _ _ _ _ _ _ _ _ _ _ _ _ _ c.requires.working.6 in
    let same : c.args.self.now.cleaned.metrics ≡ c.if-info-gt0.self.cleaned.metrics =
    elim c.if-info-gt0.branch [
      | then-info-gt0+in_ok-join w ↦ sym ((λ i. (w.self-is i).cleaned.metrics) ∙ (λ i. (w.join.ensures.same i).metrics))
      | else-info-gt0 w ↦ sym (λ i. (w.self-is i).cleaned.metrics)
    ] in
    subst (λ (m : DeduplicationMetrics). HasRoom m c.args.file.metrics) same room

pub returns-clause-working : goal.returns-clause-working
returns-clause-working g c = λ start first files policy bytes id added.
    let all : List Planned = files ++ (record { bytes = bytes; policy = policy; plan = added.finished.plan }) ∷ [] in
    let infos : List XetFileInfo = c.args.self.now.cleaned.infos.items ++ c.args.file.info ∷ [] in
    let choices : List (List Choice) = c.args.self.now.cleaned.choices.items ++ c.args.file.choices ∷ [] in
    let metrics : DeduplicationMetrics = metrics_of_both c.args.self.now.cleaned.metrics c.args.file.metrics in
    let size : c.args.file.info.file_size ≡ length bytes = size_is _ _ _ _ _ _ _ _ _ _ _ _ _ _ _ added in
    let core : IsWorking start (g.S.Stepping.holder c.if-info-gt0.steps) all infos choices metrics c.if-info-gt0.self.aggregate =
    elim c.if-info-gt0.branch [
      | then-info-gt0+in_ok-join w ↦
          let some : 0 < length bytes = omega (arith, w.if-info-gt0.true, size) in
          let here : IsWorking start (g.S.Stepping.holder w.join.new.steps) all infos choices metrics w.join.new.self.aggregate =
          added_joined _ _ _ _ _ _ _ _ _ _ _ _ _ _ _ added some (g.S.Stepping.holder w.join.new.steps) w.join.new.self.aggregate w.in_ok-join.ensures.joined in
          subst (λ (h : Holder). IsWorking start h all infos choices metrics c.if-info-gt0.self.aggregate) (sym (λ i. g.S.Stepping.holder (w.steps-is i)))
          (subst (λ (a : Aggregate). IsWorking start (g.S.Stepping.holder w.join.new.steps) all infos choices metrics a) (sym (λ i. (w.self-is i).aggregate)) here)
      | else-info-gt0 w ↦
          let none : length bytes ≡ 0 = omega (arith, w.if-info-gt0.false, size) in
          let here : IsWorking start (g.S.Stepping.holder c.args.steps.now) all infos choices metrics c.args.self.now.aggregate = added_nothing _ _ _ _ _ _ _ _ _ _ _ _ _ _ _ added none in
          subst (λ (h : Holder). IsWorking start h all infos choices metrics c.if-info-gt0.self.aggregate) (sym (λ i. g.S.Stepping.holder (w.steps-is i)))
          (subst (λ (a : Aggregate). IsWorking start (g.S.Stepping.holder c.args.steps.now) all infos choices metrics a) (sym (λ i. (w.self-is i).aggregate)) here)
    ] in
    let same : c.if-info-gt0.self.cleaned ≡ c.args.self.now.cleaned =
    elim c.if-info-gt0.branch [
      | then-info-gt0+in_ok-join w ↦ (λ i. (w.self-is i).cleaned) ∙ w.join.ensures.same
      | else-info-gt0 w ↦ λ i. (w.self-is i).cleaned
    ] in
    let infos_are : c.push_reserved.new.self.items ≡ infos = c.push_reserved.ensures.items ∙ (λ i. (same i).infos.items ++ c.args.file.info ∷ []) in
    let choices_are : c.push_reserved-2.new.self.items ≡ choices = c.push_reserved-2.ensures.items ∙ (λ i. (same i).choices.items ++ c.args.file.choices ∷ []) in
    let metrics_are : c.add_metrics.new.metrics ≡ metrics = c.add_metrics.ensures ∙ (λ i. metrics_of_both (same i).metrics c.args.file.metrics) in (
      added.finished.plan,
      subst (λ (l : List XetFileInfo). IsWorking start (g.S.Stepping.holder c.if-info-gt0.steps) all l c.push_reserved-2.new.self.items c.add_metrics.new.metrics c.if-info-gt0.self.aggregate) (sym infos_are)
          (subst (λ (l : List (List Choice)). IsWorking start (g.S.Stepping.holder c.if-info-gt0.steps) all infos l c.add_metrics.new.metrics c.if-info-gt0.self.aggregate) (sym choices_are)
          (subst (λ (m : DeduplicationMetrics). IsWorking start (g.S.Stepping.holder c.if-info-gt0.steps) all infos choices m c.if-info-gt0.self.aggregate) (sym metrics_are) core)),
    )

pub returns-clause-follows : goal.returns-clause-follows
returns-clause-follows g c =
    elim c.if-info-gt0.branch [
      | then-info-gt0+in_ok-join w ↦ subst (λ s. Follows (g.S.Stepping.holder c.args.steps.now) (g.S.Stepping.holder s)) (sym w.steps-is) w.join.ensures.follows
      | else-info-gt0 w ↦ subst (λ s. Follows (g.S.Stepping.holder c.args.steps.now) (g.S.Stepping.holder s)) (sym w.steps-is) (follows_nothing (g.S.Stepping.holder c.args.steps.now))
    ]

pub returns-clause-few : goal.returns-clause-few
returns-clause-few g c =
    let a : Aggregate = c.args.self.now.aggregate in
    let h = g.S.Stepping.holder c.args.steps.now in
    elim c.if-info-gt0.branch [
      | then-info-gt0+in_ok-join w ↦ subst (λ s. IsAtMost (2 * length a.chunks + 2 * length a.files) h (g.S.Stepping.holder s)) (sym w.steps-is) w.join.ensures.few
      | else-info-gt0 w ↦ subst (λ s. IsAtMost (2 * length a.chunks + 2 * length a.files) h (g.S.Stepping.holder s)) (sym w.steps-is)
          (at_most_more 0 (2 * length a.chunks + 2 * length a.files) h h (omega arith) (at_most_nothing h))
    ]
