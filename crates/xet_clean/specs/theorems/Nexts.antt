-- Registrations with further chunks, and one without, the last.
use Rattle.std.proofs.Common.{◌≡◌, ◌≢◌, ◌∙◌, inl, inr, ℕ, List, [], ◌∷◌, ◌++◌, map, refl, sym, ap, subst, append-nil, append_assoc}
use Rattle.std.specs.List.{AllByRecursion}
use Rattle.xet_aggregate.specs.Aggregate.{Aggregate}
use Rattle.xet_base.specs.theorems.Elements.{all_both}
use Rattle.xet_choices.specs.Calls.{Call}
use Rattle.xet_choices.specs.Calls.Call.{Asked, Registered}
use Rattle.xet_dedup_queries.specs.Counting.{HasNext}
use Rattle.xet_xorb_chunk.specs.Chunks.{chunk_leaf}
use Rattle.xet_xorb_chunk.specs.declared.chunk.Chunk.{Chunk}
use Rattle.xet_clean.specs.Cleaning.{ClosesLast, Lands, close_of}
use Rattle.xet_clean.specs.Closing.{RegistersAtMost}

-- chunks that are a part of a later xorb are some
pub lands_nexts : (last : List (List ℕ × ℕ)) (calls : List Call) → Lands last calls → AllByRecursion HasNext calls
lands_nexts last [] lands = tt
lands_nexts last (Asked entry hashes reply ∷ calls) lands = (tt, lands_nexts last calls lands)
lands_nexts last (Registered chunks next ∷ calls) lands = (lands.0.0, lands_nexts last calls lands.1)

-- no xorb was registered without further chunks
pub closes_none : (calls : List Call) → AllByRecursion HasNext calls → ClosesLast [] calls
closes_none calls all = record { before = calls; is = sym (append-nil calls); nexts = all }

pub closes_nexts : (calls : List Call) → ClosesLast [] calls → AllByRecursion HasNext calls
closes_nexts calls c = subst (AllByRecursion HasNext) (sym (c.is ∙ append-nil c.before)) c.nexts

pub closes_then : (last : List (List ℕ × ℕ)) (xs ys : List Call) → AllByRecursion HasNext xs → ClosesLast last ys → ClosesLast last (xs ++ ys)
closes_then last xs ys first c = record {
  before = xs ++ c.before;
  is = ap (λ (l : List Call). xs ++ l) c.is ∙ sym (append_assoc xs c.before (close_of last));
  nexts = all_both HasNext xs c.before first c.nexts;
}

-- ---- an aggregate is closed

-- with further chunks
pub further_nexts : (a : Aggregate) (next : List (List ℕ × ℕ)) → next ≢ [] → (calls : List Call) → RegistersAtMost a next calls → AllByRecursion HasNext calls
further_nexts a next some calls (inl none) = subst (AllByRecursion HasNext) (sym none) tt
further_nexts a next some calls (inr one) = subst (AllByRecursion HasNext) (sym one.1) (some, tt)

-- it is the last one, or nothing is registered
pub last_closes : (a : Aggregate) (calls : List Call) → RegistersAtMost a [] calls → (last : List (List ℕ × ℕ)) × ClosesLast last calls
last_closes a calls (inl none) = ([], subst (ClosesLast []) (sym none) (closes_none [] tt))
last_closes a calls (inr one) = (map chunk_leaf a.chunks, record { before = []; is = one.1 ∙ go a.chunks one.0; nexts = tt })
  where
    go : (chunks : List Chunk) → chunks ≢ [] → Registered (map chunk_leaf chunks) [] ∷ [] ≡ [] ++ close_of (map chunk_leaf chunks)
    go [] some = absurd (some refl)
    go (c ∷ cs) some = refl
