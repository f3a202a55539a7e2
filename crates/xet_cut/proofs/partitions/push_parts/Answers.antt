use Rattle.std.proofs.Common.{◌≡◌, ◌∙◌, ℕ, ◌+◌, ◌-◌, ◌<◌, ◌≤◌, ◌++◌, ◌⊎◌, true, length, IfSome, Option, None, Some, sym, inl, refl, arith, rules}
use Rattle.std.proofs.lemmas.List.{append-nil}
use Rattle.std.proofs.lemmas.Bool.{and_parts, ltb-true}
use Rattle.std.specs.Option.{option_to_list}
use Rattle.xet_base.specs.theorems.Exits.{exit_with}
use Rattle.xet_hash.specs.declared.error.Place.TheVariants.{Input}
use Rattle.xet_hash.specs.declared.error.StoreError.TheVariants.{Io, OutOfMemory}
use Rattle.xet_cut.specs.Partitions.{is_scanned, part_at}
use Rattle.xet_cut.proofs.Parts.{starts_more, starts_rise, walked_all, walked_due, walked_more}
use Rattle.xet_cut.proofs.partitions.push_parts.Goals as goal
use Rattle.xet_cut.proofs.partitions.push_parts.Goals.{in-Some+in_ok-push, in_default}

if_more : (P Q : ℕ → Type 0) → ((n : ℕ) → P n → Q n) → (o : Option ℕ) → IfSome o P → IfSome o Q
if_more P Q f None h = tt
if_more P Q f (Some n) h = f n h

pub returns-in_err-start-clause-refused : goal.returns-in_err-start-clause-refused
returns-in_err-start-clause-refused g c = λ tells all.
    let inv = c.places.invariant in
    let passes : is_scanned c.args.size c.args.min_partition (length c.args.bytes.now) c.places.place ≡ true = rw c.is_scanned.ensures at c.places-test.true in
    let within : length c.places.bytes ≤ length (g.R.ReadAt.bytes c.places.reader) - c.places.place =
    rw (c.places.auto.bytes, inv.frame.same) (walked_due (inv.walked tells) c.requires.some passes all) in
    exit_with (λ e. (e ≡ Io Input) ⊎ (e ≡ OutOfMemory)) _ _ c.from_residual.ensures.1 (inl (c.in_err-start.ensures.refused (inv.frame.tells ∙ tells) within))

pub places-preserved : goal.places-preserved
places-preserved g c =
    let inv = c.places.invariant in
    let kept = c.in_ok-start.ensures.frame in
    let bytes = g.R.ReadAt.bytes c.args.reader.now in
    let scan = length c.args.bytes.now in
    let passes : is_scanned c.args.size c.args.min_partition scan c.places.place ≡ true = rw c.is_scanned.ensures at c.places-test.true in
    let ends : c.places.place + scan < c.args.size = ltb-true (c.places.place + scan) c.args.size (and_parts _ _ passes).1 in
    let found : Option ℕ = c.in_ok-start.field-0 in
    let new_is : c.match-branch-2.starts.items ≡ c.places.starts.items ++ option_to_list found = elim c.match-branch-2.branch [
      | in-Some+in_ok-push w ↦ rw (w.starts-is, w.in-Some.is) w.in_ok-push.ensures.items
      | in_default w ↦ rw (w.starts-is, w.in_default.is) (sym (append-nil c.places.starts.items))
    ] in
    let past : IfSome found (λ start. (c.places.place < start) × (start ≤ c.places.place + scan)) = rw c.places.auto.bytes at c.in_ok-start.ensures.within in
    record {
      small = omega (arith, ltb-true (c.places.place + c.args.min_partition) c.args.size (and_parts _ _ passes).0);
      walked = λ tells.
          let told = inv.frame.tells ∙ tells in
          let found : c.in_ok-start.field-0 ≡ part_at c.args.limits.now bytes scan c.places.place = rw (c.places.auto.bytes, inv.frame.same) at (c.in_ok-start.ensures.exact told) in
          let within : scan ≤ length bytes - c.places.place = rw (c.places.auto.bytes, inv.frame.same) at (c.in_ok-start.ensures.reached told) in
          let new : c.match-branch-2.starts.items ≡ c.places.starts.items ++ option_to_list (part_at c.args.limits.now bytes scan c.places.place) = elim c.match-branch-2.branch [
            | in-Some+in_ok-push w ↦ rw (w.starts-is, ← found, w.in-Some.is) w.in_ok-push.ensures.items
            | in_default w ↦ rw (w.starts-is, ← found, w.in_default.is) (sym (append-nil c.places.starts.items))
          ] in
          walked_more c.match-branch-2.starts.items (c.places.place + c.args.min_partition) (inv.walked tells) c.requires.some passes new within refl;
      added = starts_more c.args.size c.args.starts.now.items c.places.starts.items c.match-branch-2.starts.items found new_is
          (if_more (λ start. (c.places.place < start) × (start ≤ c.places.place + scan)) (λ start. start < c.args.size) (λ start is. omega (arith, is.1, ends)) found past) inv.added;
      rises = λ narrow pairs all. let now = inv.rises narrow pairs all in
          starts_rise c.places.place (c.places.place + c.args.min_partition) c.places.starts.items c.match-branch-2.starts.items found new_is
          (if_more (λ start. (c.places.place < start) × (start ≤ c.places.place + scan)) (λ start. (c.places.place < start) × (start ≤ c.places.place + c.args.min_partition)) (λ start is. (is.0, omega (arith, is.1, narrow))) found past)
          (omega arith) now.0 now.1;
      frame = record { same = kept.same ∙ inv.frame.same; tells = kept.tells ∙ inv.frame.tells; later = omega (arith, kept.later, inv.frame.later); rose = λ x. absurd x; lent = search rules };
    }

pub returns-clause-exact : goal.returns-clause-exact
returns-clause-exact g c = λ tells. (walked_all (c.places.invariant.walked tells) (rw c.is_scanned.ensures at c.places-test.false)).0

pub returns-clause-reached : goal.returns-clause-reached
returns-clause-reached g c = λ tells. (walked_all (c.places.invariant.walked tells) (rw c.is_scanned.ensures at c.places-test.false)).1
