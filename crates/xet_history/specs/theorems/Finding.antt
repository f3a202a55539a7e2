-- The hashes that an entry of a query states have the reply of the whole query.
use Rattle.std.proofs.Common.{◌≡◌, ◌∙◌, ℕ, zero, suc, ◌≤◌, Bool, true, false, nat_eq, List, [], ◌∷◌, map, take, drop, Option, Some, None, refl, sym, ap, add-one, arith}
use Rattle.std.specs.Prelude.{◌==◌, if◌then◌else◌, option_and_then}
use Rattle.std.specs.Cmp.Lexicographic.{pointwise}
use Rattle.std.proofs.lemmas.Bool.{eqb-true}
use Rattle.std.proofs.lemmas.List.{take-map}
use Rattle.xet_shard.specs.Queries.{block_at, kept_hash, shard_run_at}
use Rattle.xet_shard.specs.Runs.{agreeing, digests, held_run, last_chunk, run_at, run_segment}
use Rattle.xet_shard_format.specs.Encoding.{Shard}
use Rattle.xet_shard_format.specs.Records.{first_word}
use Rattle.xet_shard_format.specs.declared.record.FileDataSequenceEntry.{FileDataSequenceEntry as Segment}
use Rattle.xet_shard_format.specs.declared.record.MDBXorbInfo.{MDBXorbInfo}
use Rattle.xet_history.specs.Core.{Core, RegisteredShard}
use Rattle.xet_history.specs.Found.{first_some, found_run, indexed, keyed_run, keys_of, of_key, place_of}
use Rattle.xet_history.specs.History.{stated}

abbrev pub Hashes : Type 0
Hashes = List (List ℕ)

abbrev pub FoundRun : Type 0
FoundRun = ℕ × Segment

-- A query for a hash and those after it. Whether it finds a run does not depend on the hashes after the first one; the run
-- that it finds, it finds also by as many of them as the run has chunks.
pub record IsStable (query : Hashes → Option FoundRun) : Type 0 where
  pub none : (hs others : Hashes) → query hs ≡ None → query others ≡ None
  pub same : (hs : Hashes) (run : FoundRun) → query hs ≡ Some run → query (take run.0 hs) ≡ Some run

stable_none : IsStable (λ hs. None)
stable_none = record { none = λ hs others e. refl; same = λ hs run e. e }

-- ---- the run at an index of a xorb

agreeing_take : (n : ℕ) (hs ds : Hashes) → agreeing hs ds ≤ n → agreeing (take n hs) ds ≡ agreeing hs ds
unfolding agreeing
agreeing_take zero [] ds le = refl
agreeing_take zero (h ∷ hs) [] le = refl
agreeing_take zero (h ∷ hs) (d ∷ ds) le = omega (arith, le)
agreeing_take (suc n) [] ds le = refl
agreeing_take (suc n) (h ∷ hs) [] le = refl
agreeing_take (suc n) (h ∷ hs) (d ∷ ds) le = go (pointwise nat_eq h d) le (agreeing_take n hs ds)
  where
    go : (b : Bool) → (if b then suc (agreeing hs ds) else 0) ≤ suc n → (agreeing hs ds ≤ n → agreeing (take n hs) ds ≡ agreeing hs ds)
        → (if b then suc (agreeing (take n hs) ds) else 0) ≡ (if b then suc (agreeing hs ds) else 0)
    go true le same = ap suc (same (omega (arith, le)))
    go false le same = refl

-- the run of this many chunks of a xorb from an index on, if there are any
abbrev run_by : MDBXorbInfo → ℕ → ℕ → Option FoundRun
run_by block place count = if count == 0 then None else Some (count, run_segment block place count)

count_is : (block : MDBXorbInfo) (place count : ℕ) (run : FoundRun) → run_by block place count ≡ Some run → count ≡ run.0
count_is block place count run e = go (count == 0) e
  where
    go : (b : Bool) → (let o : Option FoundRun = if b then None else Some (count, run_segment block place count) in o) ≡ Some run → count ≡ run.0
    go true e = absurd (cc e)
    go false e = let same : Some (count, run_segment block place count) ≡ Some run = e in let r : (count, run_segment block place count) ≡ run = cc same in ap (λ (x : FoundRun). x.0) r

no_chunks : (block : MDBXorbInfo) (place count : ℕ) → run_by block place count ≡ None → count ≡ 0
no_chunks block place count e = go (count == 0) refl e
  where
    go : (b : Bool) → (count == 0) ≡ b → (let o : Option FoundRun = if b then None else Some (count, run_segment block place count) in o) ≡ None → count ≡ 0
    go true is e = eqb-true count 0 is
    go false is e = absurd (cc e)

agreeing_none : (h : List ℕ) (hs others ds : Hashes) → agreeing (h ∷ hs) ds ≡ 0 → agreeing (h ∷ others) ds ≡ 0
unfolding agreeing
agreeing_none h hs others [] e = refl
agreeing_none h hs others (d ∷ ds) e = go (pointwise nat_eq h d) e
  where
    go : (b : Bool) → (if b then suc (agreeing hs ds) else 0) ≡ 0 → (if b then suc (agreeing others ds) else 0) ≡ 0
    go true e = absurd (omega (arith, e))
    go false e = refl

module _ (block : MDBXorbInfo) (place : ℕ) where
  abbrev there : Hashes
  there = digests (drop place block.chunks)

  run_stable : (h : List ℕ) → IsStable (λ hs. run_at (h ∷ hs) block place)
  unfolding run_at
  run_stable h = record {
    none = λ hs others e. ap (run_by block place) (agreeing_none h hs others there (no_chunks block place (agreeing (h ∷ hs) there) e));
    same = λ hs run e.
        let count : agreeing (h ∷ hs) there ≡ run.0 = count_is block place (agreeing (h ∷ hs) there) run e in
        ap (run_by block place) (agreeing_take (suc run.0) (h ∷ hs) there (omega (arith, count))) ∙ e;
  }

  -- by the hashes as a shard stores them
  kept_stable : (key h : List ℕ) → IsStable (λ hs. run_at (map (kept_hash key) (h ∷ hs)) block place)
  kept_stable key h =
      let stable = run_stable (kept_hash key h) in record {
        none = λ hs others e. stable.none (map (kept_hash key) hs) (map (kept_hash key) others) e;
        same = λ hs run e.
            ap (λ (l : Hashes). run_at (kept_hash key h ∷ l) block place) (sym (take-map (kept_hash key) run.0 hs)) ∙ stable.same (map (kept_hash key) hs) run e;
      }

-- ---- queries that are made of others

stable_then : {X : Type 0} (f : X → Hashes → Option FoundRun) → ((x : X) → IsStable (f x)) → (o : Option X) → IsStable (λ hs. option_and_then (λ x. f x hs) o)
stable_then f stable None = stable_none
stable_then f stable (Some x) = stable x

stable_in : {X : Type 0} (f : X → Hashes → Option FoundRun) → ((x : X) → IsStable (f x)) → (o : Option X) → IsStable (λ hs. elim o [ None ↦ None | Some x ↦ f x hs ])
stable_in f stable None = stable_none
stable_in f stable (Some x) = stable x

stable_first : (f : Hashes → Option FoundRun) (g : Hashes → List (Option FoundRun)) → IsStable f → IsStable (λ hs. first_some (g hs)) → IsStable (λ hs. first_some (f hs ∷ g hs))
unfolding first_some
stable_first f g first others = record {
  none = λ hs more e. none hs more (f hs) refl e;
  same = λ hs run e. same hs run (f hs) refl e;
}
  where
    none : (hs more : Hashes) (o : Option FoundRun) → f hs ≡ o → first_some (o ∷ g hs) ≡ None → first_some (f more ∷ g more) ≡ None
    none hs more None is e = ap (λ (o : Option FoundRun). first_some (o ∷ g more)) (first.none hs more is) ∙ others.none hs more e
    none hs more (Some x) is e = absurd (cc e)

    same : (hs : Hashes) (run : FoundRun) (o : Option FoundRun) → f hs ≡ o → first_some (o ∷ g hs) ≡ Some run → first_some (f (take run.0 hs) ∷ g (take run.0 hs)) ≡ Some run
    same hs run None is e = ap (λ (o : Option FoundRun). first_some (o ∷ g (take run.0 hs))) (first.none hs (take run.0 hs) is) ∙ others.same hs run e
    same hs run (Some x) is e = ap (λ (o : Option FoundRun). first_some (o ∷ g (take run.0 hs))) (first.same hs run (is ∙ e))

stable_all : {X : Type 0} (f : X → Hashes → Option FoundRun) → ((x : X) → IsStable (f x)) → (xs : List X) → IsStable (λ hs. first_some (map (λ x. f x hs) xs))
unfolding first_some
stable_all f stable [] = stable_none
stable_all f stable (x ∷ xs) = stable_first (f x) (λ hs. map (λ y. f y hs) xs) (stable x) (stable_all f stable xs)

-- ---- queries of a core

held_stable : (blocks : List MDBXorbInfo) (h : List ℕ) → IsStable (λ hs. held_run blocks (h ∷ hs))
unfolding held_run
held_stable blocks h = stable_then (λ (at : MDBXorbInfo × ℕ) hs. run_at (h ∷ hs) at.0 at.1) (λ at. run_stable at.0 at.1 h) (last_chunk h blocks)

shard_stable : (s : Shard) (h : List ℕ) (row place : ℕ) → IsStable (λ hs. shard_run_at s (h ∷ hs) row place)
shard_stable s h row place = stable_in (λ (block : MDBXorbInfo) hs. run_at (map (kept_hash s.key) (h ∷ hs)) block place) (λ block. kept_stable block place s.key h) (block_at row 0 s.blocks)

keyed_stable : (c : Core) (h key : List ℕ) → IsStable (λ hs. keyed_run c h (h ∷ hs) key)
keyed_stable c h key =
    stable_then (λ (at : RegisteredShard × ℕ × ℕ) hs. shard_run_at at.0.contents (h ∷ hs) at.1 at.2) (λ at. shard_stable at.0.contents h at.1 at.2)
    (place_of (first_word (kept_hash key h)) (of_key key (indexed c)))

pub found_stable : (c : Core) (h : List ℕ) → IsStable (λ hs. found_run c (h ∷ hs))
unfolding found_run
found_stable c h =
    stable_first (λ hs. held_run c.pending.blocks (h ∷ hs)) (λ hs. map (keyed_run c h (h ∷ hs)) (keys_of c.shards)) (held_stable c.pending.blocks h)
    (stable_all (λ key hs. keyed_run c h (h ∷ hs) key) (keyed_stable c h) (keys_of c.shards))

-- the hashes that an entry states suffice
pub stated_suffice : (c : Core) (hashes : Hashes) → found_run c (stated hashes (found_run c hashes)) ≡ found_run c hashes
unfolding found_run
stated_suffice c [] = refl
stated_suffice c (h ∷ hs) = go (found_run c (h ∷ hs)) refl
  where
    go : (o : Option FoundRun) → found_run c (h ∷ hs) ≡ o → found_run c (stated (h ∷ hs) o) ≡ o
    go None e = (found_stable c h).none hs [] e
    go (Some run) e = ap (λ (n : ℕ). found_run c (take n (h ∷ hs))) (add-one run.0) ∙ (found_stable c h).same hs run e

-- whether a query finds a run depends on its first hash
pub found_none : (c : Core) (h : List ℕ) (hs others : Hashes) → found_run c (h ∷ hs) ≡ None → found_run c (h ∷ others) ≡ None
found_none c h hs others none = (found_stable c h).none hs others none
