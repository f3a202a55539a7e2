-- Steps of several callers, in any order: their entries are legal, and the core stays sound.
use Rattle.std.proofs.Common.{◌≡◌, ◌≢◌, ◌∙◌, ◌⊎◌, inl, inr, ℕ, zero, suc, Bool, true, List, [], ◌∷◌, ◌++◌, Some, refl, sym, ap, subst, arith}
use Rattle.std.specs.List.{AllByRecursion, Any}
use Rattle.xet_base.specs.theorems.Elements.{all_more, all_push}
use Rattle.xet_io.specs.Disk.{Files, bytes_at}
use Rattle.xet_hash.specs.Merkle.{chunk_hash}
use Rattle.xet_shard_format.specs.Encoding.{full_shard_bytes}
use Rattle.xet_shard_format.specs.declared.record.MDBFileInfo.{MDBFileInfo}
use Rattle.xet_shard_file.specs.Names.{shard_path}
use Rattle.xet_history.specs.Core.{Core, RegisteredShard, completed, pending_hash, pending_shard}
use Rattle.xet_history.specs.History.{IsRight, Legal, after}
use Rattle.xet_history.specs.Interleaving.{AreApart, Brings, BringsIfNew, IsAllowed, IsMet, KeepsShards, Move, Run, SameBytes, StaysSound, Step, entries_of, entry_of, is_flush}
use Rattle.xet_history.specs.Interleaving.Step.{query, register, complete, flush}
use Rattle.xet_history.specs.declared.entry.Entry.{Entry}
use Rattle.xet_history.specs.Sound.{IsShardFile, IsSound, Rebuilds}
use Rattle.xet_history.specs.theorems.Soundness.{IsApart, ListsAll, hash_cases, pending_registered, rebuilds_more, sound_completed, sound_flushed, sound_registered}
use Rattle.xet_history.specs.theorems.Staying.{completed_cases, listed_after, registered_cases}

-- ---- elements of which something holds

module _ {X : Type 0} where
  pub any_first : (P : X → Type 0) (x : X) (xs : List X) → P x → Any P (x ∷ xs)
  any_first P x xs here = (0, x, omega arith, refl, here)

  pub any_later : (P : X → Type 0) (x : X) (xs : List X) → Any P xs → Any P (x ∷ xs)
  any_later P x xs (k, y, within, at, holds) = (suc k, y, omega (arith, within), at, holds)

  -- what follows from it and from what holds of each element
  pub any_gives : {G : Type 0} (P R : X → Type 0) (xs : List X) → AllByRecursion R xs → ((x : X) → R x → P x → G) → Any P xs → G
  any_gives P R [] all gives (k, x, within, at, holds) = absurd (omega (arith, within))
  any_gives P R (y ∷ ys) all gives (zero, x, within, at, holds) = gives y all.0 (subst P (sym at) holds)
  any_gives P R (y ∷ ys) all gives (suc k, x, within, at, holds) = any_gives P R ys all.1 gives (k, x, omega (arith, within), at, holds)

  -- the same of an element of which something else holds
  pub any_or : {G : Type 0} (P Q R : X → Type 0) (xs : List X) → AllByRecursion R xs → ((x : X) → R x → P x → Q x ⊎ G) → Any P xs → Any Q xs ⊎ G
  any_or P Q R [] all gives (k, x, within, at, holds) = absurd (omega (arith, within))
  any_or {G} P Q R (y ∷ ys) all gives (zero, x, within, at, holds) = go (gives y all.0 (subst P (sym at) holds))
    where
      go : Q y ⊎ G → Any Q (y ∷ ys) ⊎ G
      go (inl q) = inl (any_first Q y ys q)
      go (inr g) = inr g
  any_or {G} P Q R (y ∷ ys) all gives (suc k, x, within, at, holds) = go (any_or P Q R ys all.1 gives (k, x, omega (arith, within), at, holds))
    where
      go : Any Q ys ⊎ G → Any Q (y ∷ ys) ⊎ G
      go (inl q) = inl (any_later Q y ys q)
      go (inr g) = inr g

  -- of the elements or of the last one
  pub any_push : (P : X → Type 0) (xs : List X) (y : X) → Any P (xs ++ y ∷ []) → Any P xs ⊎ P y
  any_push P [] y (zero, x, within, at, holds) = inr (subst P (sym at) holds)
  any_push P [] y (suc k, x, within, at, holds) = absurd (omega (arith, within))
  any_push P (z ∷ zs) y (zero, x, within, at, holds) = inl (0, x, omega arith, at, holds)
  any_push P (z ∷ zs) y (suc k, x, within, at, holds) = go (any_push P zs y (k, x, omega (arith, within), at, holds))
    where
      go : Any P zs ⊎ P y → Any P (z ∷ zs) ⊎ P y
      go (inl a) = inl (any_later P z zs a)
      go (inr p) = inr p

-- ---- legal entries

right : (tells : Bool) (folder : List ℕ) (pass : ℕ) (c : Core) (step : Step) (old new : Files) → Brings folder c step old new → IsRight tells c (entry_of pass c step)
right tells folder pass c (query hashes) old new brings = λ told. refl
right tells folder pass c (register leaves next) old new brings = refl
right tells folder pass c (complete file) old new brings = refl
right tells folder pass c flush old new brings = (brings.some, refl)

pub legal_entries : (tells : Bool) (folder : List ℕ) (before : List Core) (c : Core) (files : Files) (moves : List Move) → Run folder before c files moves → Legal tells c (entries_of c moves)
legal_entries tells folder before c files [] run = tt
legal_entries tells folder before c files (m ∷ ms) run =
    (right tells folder m.pass c m.step files m.files run.1, legal_entries tells folder (before ++ c ∷ []) (after c (entry_of m.pass c m.step)) m.files ms run.2)

-- ---- one step

-- a file that was allowed rebuilds over the xorbs that are listed now
pub allowed_rebuilds : (seen : List Core) (c : Core) (file : MDBFileInfo) → AllByRecursion (λ d. ListsAll d.xorbs c.xorbs) seen → IsAllowed seen (complete file) → Rebuilds c.xorbs file
allowed_rebuilds seen c file all allowed = any_gives (λ d. Rebuilds d.xorbs file) (λ d. ListsAll d.xorbs c.xorbs) seen all (λ d more is. rebuilds_more d.xorbs c.xorbs more file is) allowed

module _ (folder : List ℕ) (seen : List Core) (c : Core) (old : Files) (pass : ℕ) where
  pub sound_step : (step : Step) (new : Files) → AllByRecursion (λ d. ListsAll d.xorbs c.xorbs) seen → (step ≡ flush → IsApart old folder c) → IsAllowed seen step → Brings folder c step old new
      → IsSound old folder c → IsSound new folder (after c (entry_of pass c step))
  sound_step (query hashes) new all apart allowed brings sound = subst (λ (f : Files). IsSound f folder c) (sym brings) sound
  sound_step (register leaves next) new all apart allowed brings sound = sound_registered old new folder c sound leaves brings
  sound_step (complete file) new all apart allowed brings sound =
      subst (λ (f : Files). IsSound f folder (completed c file)) (sym brings) (sound_completed old folder c sound file (allowed_rebuilds seen c file all allowed))
  sound_step flush new all apart allowed brings sound = sound_flushed old new folder c sound brings (apart refl)

-- ---- what is believed of digests

abbrev HasBytes : Files → List ℕ → List ℕ → RegisteredShard → Type 0
HasBytes files folder bytes s = bytes_at files (shard_path folder s.hash) ≡ Some bytes

module _ (files : Files) (folder : List ℕ) (c : Core) where
  apart_shards : (shards : List RegisteredShard)
      → ((bytes : List ℕ) → Any (HasBytes files folder bytes) shards → chunk_hash bytes ≡ pending_hash c → bytes ≡ full_shard_bytes (pending_shard c))
      → AllByRecursion (IsShardFile files folder) shards
      → AllByRecursion (λ s. s.hash ≡ pending_hash c → (bytes : List ℕ) → HasBytes files folder bytes s → bytes ≡ full_shard_bytes (pending_shard c)) shards
  apart_shards [] apart stored = tt
  apart_shards (s ∷ ss) apart stored = (
    λ is bytes there.
        let same : bytes ≡ stored.0.bytes = cc (there, stored.0.there) in
        apart bytes (any_first (HasBytes files folder bytes) s ss there) (ap chunk_hash same ∙ stored.0.named ∙ is),
    apart_shards ss (λ bytes any. apart bytes (any_later (HasBytes files folder bytes) s ss any)) stored.1,
  )

  -- where a flush follows, a registered shard with the hash of the pending one has its bytes
  pub apart_flush : (m : Move) (ms : List Move) → m.step ≡ flush → AreApart files folder c (m ∷ ms) → AllByRecursion (IsShardFile files folder) c.shards → IsApart files folder c
  apart_flush m ms is apart stored =
      apart_shards c.shards (λ bytes any digest. apart bytes (full_shard_bytes (pending_shard c)) (inl any) (inr (inl (ap is_flush is, refl))) digest) stored

-- What a registered shard's file has after a step, it had before, or the step is the flush that has written it.
module _ (folder : List ℕ) (c : Core) (old new : Files) (bytes : List ℕ) where
  abbrev WasThere : Step → Type 0
  WasThere step = Any (HasBytes old folder bytes) c.shards ⊎ ((is_flush step ≡ true) × (bytes ≡ full_shard_bytes (pending_shard c)))

  kept : (step : Step) → KeepsShards old new folder c → Any (HasBytes new folder bytes) c.shards → WasThere step
  kept step same any =
      any_or (HasBytes new folder bytes) (HasBytes old folder bytes) (λ s. SameBytes old new (shard_path folder s.hash)) c.shards same (λ s same there. inl (sym same ∙ there)) any

  unchanged : (step : Step) → new ≡ old → Any (HasBytes new folder bytes) c.shards → WasThere step
  unchanged step same any = inl (subst (λ (f : Files). Any (HasBytes f folder bytes) c.shards) same any)

  written : bytes_at new (shard_path folder (pending_hash c)) ≡ Some (full_shard_bytes (pending_shard c)) → (h : List ℕ) → h ≡ pending_hash c → bytes_at new (shard_path folder h) ≡ Some bytes
      → bytes ≡ full_shard_bytes (pending_shard c)
  written stored h is there = let same : Some bytes ≡ Some (full_shard_bytes (pending_shard c)) = sym there ∙ ap (λ (k : List ℕ). bytes_at new (shard_path folder k)) is ∙ stored in cc same

  was_there : (pass : ℕ) (step : Step) → Brings folder c step old new → Any (HasBytes new folder bytes) (after c (entry_of pass c step)).shards → WasThere step
  was_there pass (query hashes) brings any = unchanged (query hashes) brings any
  was_there pass (register leaves next) brings any =
      registered_cases c leaves (λ (d : Core). Any (HasBytes new folder bytes) d.shards → WasThere (register leaves next))
      (λ is any. kept (register leaves next) (subst (λ (b : Bool). BringsIfNew b folder c leaves old new) is brings).shards any)
      (λ not any. unchanged (register leaves next) (subst (λ (b : Bool). BringsIfNew b folder c leaves old new) not brings) any) any
  was_there pass (complete file) brings any =
      completed_cases c file (λ (d : Core). Any (HasBytes new folder bytes) d.shards → WasThere (complete file)) (λ is any. unchanged (complete file) brings any)
      (λ not any. unchanged (complete file) brings any) any
  was_there pass flush brings any = go (any_push (HasBytes new folder bytes) c.shards (pending_registered c) any)
    where
      go : Any (HasBytes new folder bytes) c.shards ⊎ HasBytes new folder bytes (pending_registered c) → WasThere flush
      go (inl any) =
          any_or (HasBytes new folder bytes) (HasBytes old folder bytes) (λ s. s.hash ≢ pending_hash c → SameBytes old new (shard_path folder s.hash)) c.shards brings.shards
          (λ s same there. hash_cases s.hash (pending_hash c) (λ is. inr (refl, written brings.stored s.hash is there)) (λ other. inl (sym (same other) ∙ there))) any
      go (inr there) = inr (refl, written brings.stored (pending_hash c) refl there)

-- what is met after a step was met before
met_before : (files : Files) (folder : List ℕ) (c : Core) (m : Move) (ms : List Move) → Brings folder c m.step files m.files → (bytes : List ℕ)
    → IsMet m.files folder (after c (entry_of m.pass c m.step)) ms bytes → IsMet files folder c (m ∷ ms) bytes
met_before files folder c m ms brings bytes (inr written) = inr (inr written)
met_before files folder c m ms brings bytes (inl any) = go (was_there folder c files m.files bytes m.pass m.step brings any)
  where
    go : WasThere folder c files m.files bytes m.step → IsMet files folder c (m ∷ ms) bytes
    go (inl any) = inl any
    go (inr written) = inr (inl written)

pub apart_after : (files : Files) (folder : List ℕ) (c : Core) (m : Move) (ms : List Move) → Brings folder c m.step files m.files → AreApart files folder c (m ∷ ms)
    → AreApart m.files folder (after c (entry_of m.pass c m.step)) ms
apart_after files folder c m ms brings apart x y here there digest = apart x y (met_before files folder c m ms brings x here) (met_before files folder c m ms brings y there) digest

-- ---- all steps

pub stays_sound : (folder : List ℕ) (before : List Core) (c : Core) (files : Files) (moves : List Move) → AllByRecursion (λ d. ListsAll d.xorbs c.xorbs) before
    → IsSound files folder c → AreApart files folder c moves → Run folder before c files moves → StaysSound folder c files moves
stays_sound folder before c files [] all sound apart run = sound
stays_sound folder before c files (m ∷ ms) all sound apart run =
    let e : Entry = entry_of m.pass c m.step in
    let seen : AllByRecursion (λ d. ListsAll d.xorbs c.xorbs) (before ++ c ∷ []) = all_push (λ d. ListsAll d.xorbs c.xorbs) before c all (λ h leaves listed. listed) in
    let later : AllByRecursion (λ d. ListsAll d.xorbs (after c e).xorbs) (before ++ c ∷ []) =
    all_more (λ d. ListsAll d.xorbs c.xorbs) (λ d. ListsAll d.xorbs (after c e).xorbs) (before ++ c ∷ []) (λ d more h leaves listed. listed_after c e h leaves (more h leaves listed)) seen in
    let next : IsSound m.files folder (after c e) =
    sound_step folder (before ++ c ∷ []) c files m.pass m.step m.files seen (λ is. apart_flush files folder c m ms is apart sound.stored) run.0 run.1 sound in
    (sound, stays_sound folder (before ++ c ∷ []) (after c e) m.files ms later next (apart_after files folder c m ms run.1 apart) run.2)
