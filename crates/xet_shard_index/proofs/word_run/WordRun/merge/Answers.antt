use Rattle.xet_shard_index.proofs.Merging.{rising_over}
use Rattle.xet_shard_index.proofs.word_run.WordRun.merge.Goals as goal

pub with_starts-requires : goal.with_starts-requires
with_starts-requires c = rw (c.shrink_to_fit.ensures.items, c.in_ok-merge_items.ensures, c.deref.ensures.value, c.deref-2.ensures.value) (rising_over _ _ c.older.invariant.0)
