-- A batch of which nothing was asked.
use Rattle.std.proofs.Common.{◌≡◌, ℕ, Bool, List, [], sym, ◌∙◌}
use Rattle.std.proofs.lemmas.List.{append-nil}
use Rattle.xet_choices.specs.Calls.{Call}
use Rattle.xet_dedup_queries.specs.Acts.{Act}
use Rattle.xet_dedup_queries.specs.Asking.PassesTo.{begins}
use Rattle.xet_dedup_queries.specs.Asking.PassesUpTo.{to_place}
use Rattle.xet_dedup_queries.specs.Batch.{StopsAsking, none_asked, none_kept}
use Rattle.xet_dedup_queries.specs.Batch.AsksUpTo.{in_first}

-- Where no call was made, the calls and the acts are those of a batch up to its first query.
pub stops_at_once : (is_global is_first : Bool) (hashes : List (List ℕ)) (calls later : List Call) (acts after : List Act) → later ≡ calls → after ≡ acts → StopsAsking is_global is_first hashes calls later acts after
stops_at_once is_global is_first hashes calls later acts after uncalled same = record {
  added = [];
  done = [];
  calls = uncalled ∙ sym (append-nil calls);
  acts = same ∙ sym (append-nil acts);
  asks = in_first [] [] (to_place 0 (none_kept hashes) (none_asked hashes) [] [] begins);
}
