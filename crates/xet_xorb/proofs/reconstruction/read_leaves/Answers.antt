use Rattle.std.proofs.Common.{◌+◌, ◌≤◌, ◌++◌, ◌∷◌, [], List, ap, arith, drop, length, rules, subst, sym, take, ℕ}
use Rattle.std.proofs.lemmas.List.{length-map, take_rest}
use Rattle.xet_hash.specs.Merkle.{leaf_of}
use Rattle.xet_xorb_footer.specs.FooterEncoding.{max_chunks}
use Rattle.xet_base.specs.theorems.Exits.{exit_with}
use Rattle.xet_xorb.specs.internal.Copying.{IsNoCopy}
use Rattle.xet_xorb.proofs.Rebuilt.{AreBytes, all_copied, copied_small, each_more, next_is, next_leaf, no_copy, too_many}
use Rattle.xet_xorb.proofs.reconstruction.read_leaves.Goals as goal

pub returns-in_err-length-clause-refused : goal.returns-in_err-length-clause-refused
returns-in_err-length-clause-refused c =
    let f = c.chunks.invariant.prefix in
    let raw = c.args.raw.now in
    let few : length f.0 ≤ max_chunks = omega (arith, ap (λ (ms : List (List ℕ × ℕ)). length ms) f.2, length-map f.0 leaf_of, c.chunks.leaves.ok.0, c.chunks.invariant.few) in
    exit_with (IsNoCopy c.args.max_chunk raw) _ _ c.from_residual.ensures.1 (no_copy c.args.max_chunk raw f.0 c.chunks.at _ _ f.1 (take_rest raw c.chunks.at) c.in_err-length.ensures.next few)

pub returns-in_err-check_count-clause-refused : goal.returns-in_err-check_count-clause-refused
returns-in_err-check_count-clause-refused c =
    let f = c.chunks.invariant.prefix in
    let raw = c.args.raw.now in
    let small : AreBytes raw = search rules in
    let next = rw c.in-Some.is at c.in_ok-length.ensures.next in
    let count = ap (λ (ms : List (List ℕ × ℕ)). length ms) f.2 in
    exit_with (IsNoCopy c.args.max_chunk raw) _ _ c.from_residual-in_err-check_count.ensures.1
    (subst (IsNoCopy c.args.max_chunk raw) (sym c.in_err-check_count.ensures.kind)
    (too_many c.args.max_chunk raw f.0 c.chunks.at _ _ (next_is c.args.max_chunk raw f.0 c.chunks.at c.in-Some.length _ small c.requires.bound f.1 (take_rest raw c.chunks.at) next)
    (omega (arith, count, length-map f.0 leaf_of, c.chunks.leaves.ok.0, c.chunks.invariant.few, c.in_err-check_count.ensures.full))))

pub chunks-preserved : goal.chunks-preserved
chunks-preserved c =
    let f = c.chunks.invariant.prefix in
    let raw = c.args.raw.now in
    let n : ℕ = c.in-Some.length in
    let small : AreBytes raw = search rules in
    let next = rw c.in-Some.is at c.in_ok-length.ensures.next in
    let prefix = next_is c.args.max_chunk raw f.0 c.chunks.at n _ small c.requires.bound f.1 (take_rest raw c.chunks.at) next in
    record {
      within = prefix.within;
      few = search rules;
      each = each_more c.chunks.leaves.items _ (c.compute_data_hash.result, n) c.chunks.invariant.each (rw c.in-Some.is at c.in_ok-length.ensures.small) c.in_ok-push.ensures.items;
      prefix = (
        f.0 ++ take n (drop (c.chunks.at + 8) raw) ∷ [],
        prefix,
        next_leaf c.args.max_chunk raw f.0 c.chunks.at n _ c.compute_data_hash.result _ _ (take_rest raw c.chunks.at) next c.compute_data_hash.ensures c.in_ok-push.ensures.items f.2,
      );
    }

pub returns-clause-copied : goal.returns-clause-copied
returns-clause-copied c =
    let f = c.chunks.invariant.prefix in
    let raw = c.args.raw.now in
    let next = rw c.in_default.is at c.in_ok-length.ensures.next in
    all_copied c.args.max_chunk raw f.0 c.chunks.at _ _ f.1 (take_rest raw c.chunks.at) next f.2 (omega (arith, c.chunks.leaves.ok.0, c.chunks.invariant.few))

pub returns-clause-small : goal.returns-clause-small
returns-clause-small c =
    let f = c.chunks.invariant.prefix in
    copied_small c.args.max_chunk c.args.raw.now f.0 c.chunks.at _ f.1 c.requires.bound f.2
