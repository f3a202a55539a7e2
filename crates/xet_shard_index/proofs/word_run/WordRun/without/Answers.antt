use Rattle.xet_shard_index.proofs.Without.{rising_part}
use Rattle.xet_shard_index.proofs.word_run.WordRun.without.Goals as goal

pub with_starts-requires : goal.with_starts-requires
with_starts-requires c = rw (c.shrink_to_fit.ensures.items, c.in_ok-add_without.ensures, c.deref.ensures.value, c.deref-2.ensures.value) (rising_part _ _ c.self.invariant.0)
