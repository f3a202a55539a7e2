use Rattle.std.proofs.Common.{◌∙◌, ◌++◌, [], append-nil, ap, subst, sym}
use Rattle.std.proofs.lemmas.List.{take_rest}
use Rattle.xet_cut.specs.Streams.{IsSplit, Splitting}
use Rattle.xet_hash_files.proofs.Cutting.{block_split, step_with, step_without}
use Rattle.xet_hash_files.proofs.splitting.split_off.Goals as goal

pub returns-in_default-clause-split : goal.returns-in_default-clause-split
returns-in_default-clause-split c =
    let s = c.args.chunker.now.settings in
    let buffered = c.args.chunker.now.buffered in
    let bytes = c.args.bytes.now in
    let split = step_without s buffered bytes c.in_ok-first.first c.in_ok-first.ensures.chunk c.in_default.not-Some in
    ([], subst (IsSplit s (buffered ++ bytes) []) (sym (ap (λ (v : Splitting). v.buffered) c.in_ok-first.ensures.buffered)) split, sym (append-nil c.args.leaves.now.items))

pub push_leaves-requires-clause-empty : goal.push_leaves-requires-clause-empty
push_leaves-requires-clause-empty c =
    ap (λ (v : Splitting). v.buffered) c.in_ok-first.ensures.buffered
    ∙ step_with c.args.chunker.now.settings c.args.chunker.now.buffered c.args.bytes.now c.in-Some.chunk (cc (c.in-Some.is, c.in_ok-first.ensures.chunk))

pub returns-clause-split : goal.returns-clause-split
returns-clause-split c =
    let s = c.args.chunker.now.settings in
    let buffered = c.args.chunker.now.buffered in
    let bytes = c.args.bytes.now in
    block_split s _ _ _ buffered bytes _ _ c.in-Some.chunk _ c.in_ok-first.from c.in_ok-taken.taken _ _ (c.steps_split.ensures.more s buffered bytes c.requires.range.minimum_from c.requires.range.minimum_to c.recall_invariant.ensures.none)
    (cc (c.in-Some.is, c.in_ok-first.ensures.chunk))
    c.in_ok-first.ensures.taken c.in_ok-first.ensures.buffered c.len.ensures.value c.in_ok-push.ensures.items
    (take_rest bytes c.in_ok-first.from) c.in_ok-taken.ensures.cut c.in_ok-taken.ensures.unended (take_rest _ c.in_ok-taken.taken) c.in_ok-next.ensures.buffered
