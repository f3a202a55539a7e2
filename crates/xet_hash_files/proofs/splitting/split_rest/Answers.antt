use Rattle.xet_hash_files.proofs.Cutting.{rest_leaves, rest_none}
use Rattle.xet_hash_files.proofs.splitting.split_rest.Goals as goal

pub returns-in_default-clause-leaves : goal.returns-in_default-clause-leaves
returns-in_default-clause-leaves c =
    rest_none c.args.chunker.now.settings c.args.chunker.now.buffered _ c.args.leaves.now.items c.recall_invariant.ensures.none c.in_ok-chunk.ensures.chunk c.in_default.not-Some

pub returns-clause-leaves : goal.returns-clause-leaves
returns-clause-leaves c =
    rest_leaves c.args.chunker.now.settings c.args.chunker.now.buffered c.in-Some.chunk _ c.args.leaves.now.items _ c.recall_invariant.ensures.none
    (cc (c.in-Some.is, c.in_ok-chunk.ensures.chunk))
    c.len.ensures.value c.in_ok-push.ensures.items
