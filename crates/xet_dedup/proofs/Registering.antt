-- Calls that register alone.
use Rattle.std.proofs.Common.{◌≡◌, ◌∙◌, ℕ, List, [], ◌∷◌, ◌++◌, append_assoc, refl, sym, ap, arith}
use Rattle.std.proofs.lemmas.List.{append-nil}
use Rattle.xet_choices.specs.Calls.{Call}
use Rattle.xet_choices.specs.Calls.Call.{Registered}
use Rattle.xet_choices.specs.theorems.Calls.{queries_of-append}
use Rattle.xet_dedup.specs.Deduping.{RegistersAlone}
use Rattle.xet_dedup_queries.specs.Asking.{AddsQueries}

pub registers_none : (old new : List Call) → new ≡ old → RegistersAlone old new
registers_none old new same = record { added = []; grown = same ∙ sym (append-nil old); none = refl }

pub registers_one : (old new : List Call) (leaves next : List (List ℕ × ℕ)) → new ≡ old ++ Registered leaves next ∷ [] → RegistersAlone old new
registers_one old new leaves next grown = record { added = Registered leaves next ∷ []; grown = grown; none = refl }

pub registers_more : (old mid new : List Call) → RegistersAlone old mid → RegistersAlone mid new → RegistersAlone old new
registers_more old mid new r s = record {
  added = r.added ++ s.added;
  grown = s.grown ∙ ap (λ (cs : List Call). cs ++ s.added) r.grown ∙ append_assoc old r.added s.added;
  none = omega (arith, queries_of-append r.added s.added, r.none, s.none);
}

-- calls are only added, by queries and then by registrations
pub grows_by_both : (old mid new : List Call) → AddsQueries old mid → RegistersAlone mid new → (added : List Call) × (new ≡ old ++ added)
grows_by_both old mid new q r = (q.added ++ r.added, r.grown ∙ ap (λ (cs : List Call). cs ++ r.added) q.calls ∙ append_assoc old q.added r.added)
