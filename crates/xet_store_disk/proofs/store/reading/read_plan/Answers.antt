use Rattle.std.proofs.Common.{◌≡◌, ◌∙◌, ◌+◌, ◌-◌, ◌∷◌, ◌++◌, List, ℕ, drop, ap, subst, sym, arith}
use Rattle.std.proofs.lemmas.List.Sums.{sum_by-cons}
use Rattle.std.specs.List.{concat}
use Rattle.xet_io.specs.Disk.{Files}
use Rattle.xet_shard_format.specs.declared.record.FileDataSequenceEntry.{FileDataSequenceEntry as Segment}
use Rattle.xet_folder.specs.Plan.{plan_bytes, range}
use Rattle.xet_folder.specs.theorems.Rest.{left}
use Rattle.xet_store_disk.specs.internal.Reading.{IsStoredListed, ResolvesListed, LiesListed}
use Rattle.xet_store_disk.proofs.Reading.{Goes, goes_more, part_size}
use Rattle.xet_store_disk.proofs.store.reading.read_plan.Goals as goal

pub loop-segment-preserved : goal.loop-segment-preserved
loop-segment-preserved g c =
    let i = c.loop-segment.invariant in
    let s = c.segment-item.result in
    let xorbs = c.args.xorbs.now.entries in
    let Has = IsStoredListed (g.D.Disk.files c.args.disk.now) c.args.folder.now xorbs in
    let rest : List Segment = drop (c.loop-segment.segment-index + 1) c.args.plan.now in
    let here : drop c.loop-segment.segment-index c.args.plan.now ≡ s ∷ rest = left c.args.plan.now c.loop-segment.segment-index s c.loop-segment-test.true c.segment-item.is in
    let bytes : plan_bytes (drop c.loop-segment.segment-index c.args.plan.now) ≡ s.unpacked_segment_bytes + plan_bytes rest =
    ap (λ (l : List Segment). plan_bytes l) here ∙ sum_by-cons (λ (t : Segment). t.unpacked_segment_bytes) s rest in
    let resolves : ResolvesListed xorbs (s ∷ rest) = subst (λ (l : List Segment). ResolvesListed xorbs l) here i.resolves in
    let lies : LiesListed xorbs s = (resolves.1.0, resolves.1.2, resolves.1.3) in
    let from = c.saturating_sub-from.ensures ∙ ap (λ (n : ℕ). c.loop-segment.from - n) c.from-size.ensures in
    let to = c.saturating_sub-to.ensures ∙ ap (λ (n : ℕ). c.loop-segment.to - n) c.from-size.ensures in
    record {
      resolves = (resolves.1.1, resolves.1.5);
      order = omega (arith, from, to);
      within = omega (arith, to, bytes);
      len = omega (arith, from, to, c.in_ok-read_segment.ensures.len);
      told = λ told chunks whole_joins.
          let whole : List ℕ = c.args.reader.now ++ range (concat chunks) c.args.from c.args.to in
          let so_far = subst (λ (l : List Segment). Goes Has l c.loop-segment.reader c.loop-segment.from c.loop-segment.to whole) here (i.told told chunks whole_joins) in
          let more = goes_more Has s rest c.loop-segment.reader c.read_segment.new.reader c.loop-segment.from c.loop-segment.to whole
          (λ xs has. (c.in_ok-read_segment.ensures.range (i.tells ∙ told) xs (subst (λ (f : Files). IsStoredListed f c.args.folder.now xorbs s.xorb_hash xs) (sym i.same) has), part_size xorbs s xs lies has.1)) so_far in
          subst (λ (n : ℕ). Goes Has rest c.read_segment.new.reader n c.saturating_sub-to.result whole) (sym from)
          (subst (λ (n : ℕ). Goes Has rest c.read_segment.new.reader (c.loop-segment.from - s.unpacked_segment_bytes) n whole) (sym to) more);
      same = c.in_ok-read_segment.ensures.frame.same ∙ i.same;
      tells = c.in_ok-read_segment.ensures.frame.tells ∙ i.tells;
      later = omega (arith, c.in_ok-read_segment.ensures.frame.later);
    }
