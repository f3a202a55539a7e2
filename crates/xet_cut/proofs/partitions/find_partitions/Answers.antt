use Rattle.std.proofs.Common.{◌≡◌, ◌∙◌, ◌⊎◌, [], ℕ, List, length, filter_map, ap, arith}
use Rattle.xet_base.specs.theorems.Exits.{exit_with}
use Rattle.xet_hash.specs.declared.error.Place.TheVariants.{Input}
use Rattle.xet_hash.specs.declared.error.StoreError.TheVariants.{Io, OutOfMemory}
use Rattle.xet_cut.specs.Partitions.{part_at, places}
use Rattle.xet_cut.proofs.Parts.{no_scan, no_scan_within, places_none, places_some}
use Rattle.xet_cut.proofs.partitions.find_partitions.Goals as goal
use Rattle.xet_cut.proofs.partitions.find_partitions.Goals.{then-scan-gt0+then-from-min_partition+in_ok-bytes+in_ok-push_parts, else-scan-gt0, else-scan-gt0-via-then-scan-gt0+else-from-min_partition, else-scan-gt0-via-else-scan-gt0}

pub returns-in_err-push_parts-clause-refused : goal.returns-in_err-push_parts-clause-refused
returns-in_err-push_parts-clause-refused g c = λ tells all.
    let len : length c.deref_mut.result.now ≡ c.args.scan = c.deref_mut.ensures.len ∙ c.in_ok-bytes.ensures.len in
    let are = places_some c.args.limits.now c.args.size c.args.min_partition c.args.scan (omega (arith, c.maximum_chunk.ensures.value)) in
    exit_with (λ e. (e ≡ Io Input) ⊎ (e ≡ OutOfMemory)) _ _ c.from_residual-in_err-push_parts.ensures.1 (c.in_err-push_parts.ensures.refused tells (rw len (rw are at all)))

pub returns-clause-exact : goal.returns-clause-exact
returns-clause-exact g c = λ tells.
    let found : List ℕ → List ℕ = filter_map (part_at c.args.limits.now (g.R.ReadAt.bytes c.args.reader.now) c.args.scan) in
    elim c.if-scan-gt0.branch [
      | then-scan-gt0+then-from-min_partition+in_ok-bytes+in_ok-push_parts w ↦
          let len : length w.deref_mut.result.now ≡ c.args.scan = w.deref_mut.ensures.len ∙ w.in_ok-bytes.ensures.len in
          let are = places_some c.args.limits.now c.args.size c.args.min_partition c.args.scan (omega (arith, w.maximum_chunk.ensures.value)) in
          rw (w.starts-is, are) (rw (len, c.in_ok-starts.ensures.items) at (w.in_ok-push_parts.ensures.exact tells))
      | else-scan-gt0 w ↦
          let none : found (places c.args.limits.now c.args.size c.args.min_partition c.args.scan) ≡ [] = elim w.else-scan-gt0.branch [
            | else-scan-gt0-via-then-scan-gt0+else-from-min_partition x ↦
                ap found (places_none c.args.limits.now c.args.size c.args.min_partition c.args.scan (omega (arith, x.maximum_chunk.ensures.value)))
            | else-scan-gt0-via-else-scan-gt0 x ↦
                let zero : c.args.scan ≡ 0 = omega arith in
                rw zero (no_scan c.args.limits.now (g.R.ReadAt.bytes c.args.reader.now) (places c.args.limits.now c.args.size c.args.min_partition 0))
          ] in
          rw (w.starts-is, none) c.in_ok-starts.ensures.items
    ]

pub returns-clause-reached : goal.returns-clause-reached
returns-clause-reached g c = λ tells. elim c.if-scan-gt0.branch [
  | then-scan-gt0+then-from-min_partition+in_ok-bytes+in_ok-push_parts w ↦
      let len : length w.deref_mut.result.now ≡ c.args.scan = w.deref_mut.ensures.len ∙ w.in_ok-bytes.ensures.len in
      let are = places_some c.args.limits.now c.args.size c.args.min_partition c.args.scan (omega (arith, w.maximum_chunk.ensures.value)) in
      rw are (rw len at (w.in_ok-push_parts.ensures.reached tells))
  | else-scan-gt0 w ↦ elim w.else-scan-gt0.branch [
    | else-scan-gt0-via-then-scan-gt0+else-from-min_partition x ↦
        rw (places_none c.args.limits.now c.args.size c.args.min_partition c.args.scan (omega (arith, x.maximum_chunk.ensures.value))) tt
    | else-scan-gt0-via-else-scan-gt0 x ↦
        let zero : c.args.scan ≡ 0 = omega arith in
        rw zero (no_scan_within (g.R.ReadAt.bytes c.args.reader.now) (places c.args.limits.now c.args.size c.args.min_partition 0))
  ]
]
