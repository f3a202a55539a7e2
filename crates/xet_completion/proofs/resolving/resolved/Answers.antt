use Rattle.std.proofs.Common.{◌≡◌, ◌∙◌, ◌+◌, ◌++◌, ◌∷◌, [], ◌<◌, ◌^◌, List, ℕ, take, sym, ap, refl, subst, arith}
use Rattle.std.proofs.lemmas.List.{take_more}
use Rattle.std.proofs.lemmas.List.Sums.{sum_by-append}
use Rattle.xet_hash.specs.Merkle.{total_len}
use Rattle.xet_shard_format.specs.declared.record.FileDataSequenceEntry.{FileDataSequenceEntry as Segment}
use Rattle.xet_folder.specs.Plan.{Resolves, part}
use Rattle.xet_folder.specs.Xorbs.{IsListed}
use Rattle.xet_completion.proofs.Plans.{each_lies, resolves_more}
use Rattle.xet_completion.proofs.resolving.resolved.Goals as goal

pub returns-in-None-clause-resolves : goal.returns-in-None-clause-resolves
returns-in-None-clause-resolves c = λ out resolves.
    let s = c.segment-item.result in
    let segments = c.as_slice-segments.result.now in
    let own = subst (λ (l : List Segment). Resolves (IsListed c.args.xorbs.now.entries) (λ m. m.1) l out) (sym c.as_slice-segments.ensures) resolves in
    let lies = each_lies (IsListed c.args.xorbs.now.entries) (λ m. m.1) segments out c.loop-segment.segment-index s own c.loop-segment-test.true c.segment-item.is in
    c.in-None.ensures (part s lies.0) (record { leaves = lies.0; listed = lies.1; lies = lies.2; is = refl })

pub loop-segment-preserved : goal.loop-segment-preserved
loop-segment-preserved c =
    let i = c.loop-segment.segment-index in
    let s = c.segment-item.result in
    let segments = c.as_slice-segments.result.now in
    let names = c.in-Some.ensures in
    let Has = IsListed c.args.xorbs.now.entries in
    let longer : take (i + 1) segments ≡ take i segments ++ s ∷ [] = take_more segments i s c.loop-segment-test.true ∙ ap (λ (t : Segment). take i segments ++ t ∷ []) (sym c.segment-item.is) in
    let added : c.extend_from_slice.new.self.items ≡ c.loop-segment.leaves.items ++ part s names.leaves = c.in_ok-extend_from_slice-in-Some.ensures.items ∙ ap (λ (l : List (List ℕ × ℕ)). c.loop-segment.leaves.items ++ l) names.is in
    let small : s.unpacked_segment_bytes < 2 ^ 32 = omega arith in
    record {
      resolves = subst (λ (l : List Segment). Resolves Has (λ m. m.1) l c.extend_from_slice.new.self.items) (sym longer)
          (subst (λ (out : List (List ℕ × ℕ)). Resolves Has (λ m. m.1) (take i segments ++ s ∷ []) out) (sym added)
          (resolves_more Has (λ m. m.1) (take i segments) s c.loop-segment.leaves.items names.leaves c.loop-segment.invariant.resolves names.listed names.lies));
      total = omega (arith, ap total_len added, sum_by-append (λ (m : List ℕ × ℕ). m.1) c.loop-segment.leaves.items (part s names.leaves), names.lies.bytes, c.loop-segment.invariant.total, small);
    }
