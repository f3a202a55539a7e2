-- Steps that follow one another, and calls without a step.
use Rattle.std.proofs.Common.{◌≡◌, ◌∙◌, Bool, List, [], ◌++◌, sym, subst}
use Rattle.std.proofs.lemmas.List.{append-nil}
use Rattle.xet_history.specs.History.{Moves}
use Rattle.xet_history.specs.declared.entry.Entry.{Entry}
use Rattle.xet_history.specs.theorems.Joining.{moves_both, moves_nothing}
use Rattle.xet_store_disk.specs.Cleaning.{Keeps}
use Rattle.xet_store_disk.specs.Ranges.{IsUnchanged}
use Rattle.xet_store_disk.specs.Store.{State}
use Rattle.xet_store_disk.specs.theorems.Keeping.{keeps_counted, keeps_nothing, keeps_then}
use Rattle.xet_store.specs.Recorded.{AreShards, RecordedState, core_of}
use Rattle.xet_store.specs.Steps.{Steps}

-- no step at all
pub steps_nothing : (s : RecordedState) → Steps s s []
steps_nothing s = record { moves = moves_nothing s.store.tells (core_of s) s.history; keeps = keeps_nothing s.store; shards = λ are. are }

-- two steps, one after the other
pub steps_both : (a b c : RecordedState) (xs ys : List Entry) → Steps a b xs → Steps b c ys → Steps a c (xs ++ ys)
steps_both a b c xs ys first second = record {
  moves = moves_both a.store.tells (core_of a) (core_of b) (core_of c) a.history b.history c.history xs ys first.moves
      (subst (λ (t : Bool). Moves t (core_of b) (core_of c) b.history c.history ys) first.keeps.tells second.moves);
  keeps = keeps_then a.store b.store c.store first.keeps second.keeps;
  shards = λ are. second.shards (first.shards are);
}

-- a call that only reads
pub steps_unread : (old new : RecordedState) → IsUnchanged old.store new.store → new.shards ≡ old.shards → new.history ≡ old.history → Steps old new []
steps_unread old new unchanged shards history = record {
  moves = record {
    history = history ∙ sym (append-nil old.history);
    legal = tt;
    leads = λ i. record {
      xorbs = (unchanged.is i).xorbs;
      records = (unchanged.is i).records;
      pending = (unchanged.is i).pending;
      shards = shards i;
      opened = (unchanged.is i).opened;
      index_cap = (unchanged.is i).limits.index_cap;
    };
  };
  keeps = subst (λ (s : State). Keeps old.store s) (sym unchanged.is) (keeps_counted old.store new.store.faults unchanged.later);
  shards = still;
}
  where
    still : AreShards old.store old.shards → AreShards new.store new.shards
    still are =
        let kept : AreShards (record old.store { faults = new.store.faults }) old.shards = record { registered = are.registered; stand = are.stand; differ = are.differ; few = are.few } in
        subst (AreShards new.store) (sym shards) (subst (λ (s : State). AreShards s old.shards) (sym unchanged.is) kept)
