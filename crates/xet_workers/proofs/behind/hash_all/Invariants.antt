use Rattle.std.proofs.Common.{◌++◌, ℕ, List, take}
use Rattle.std.specs.List.{concat}
use Rattle.xet_clean.specs.Policies.{HasBytes}
use Rattle.xet_workers.proofs.behind.hash_all.Given as goal

-- it was given the blocks so far
abbrev pub invariant-loop-block : goal.invariant-loop-block
invariant-loop-block l = (before : List ℕ) → HasBytes l.fn.generator before → HasBytes l.generator (before ++ concat (take l.block-index l.blocks))
