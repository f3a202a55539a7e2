-- Queries to registered shards.
use Rattle.std.proofs.Common.{◌≡◌, IfOk, inr, subst, is_some, true, ℕ, zero, suc, ◌+◌, ◌<◌, ◌≤◌, List, [], ◌∷◌, get_or, length, map, take, Option, None, Some, option_map, Result, Ok, Err, slice_get, refl, sym, ap, ◌∙◌, add-one, arith}
use Rattle.std.proofs.lemmas.List.{length-map, take_all}
use Rattle.std.proofs.lemmas.Option.{same_Some, get_or_from_slice_get, slice_get-get_or, slice_get_within}
use Rattle.std.specs.List.{AllByRecursion}
use Rattle.xet_hash.specs.declared.error.Place.TheVariants.{Disk}
use Rattle.xet_hash.specs.declared.error.StoreError.{StoreError}
use Rattle.xet_hash.specs.declared.error.StoreError.TheVariants.{Io, OutOfMemory}
use Rattle.xet_io.specs.Disk.{File, Files, file_at}
use Rattle.xet_shard_lookup.specs.Found.{HoldsFile, HoldsFiles, IsEncodingOf, IsThere, Run, first_some, found, keyed_run, run_in_file, shard_of}
use Rattle.xet_shard.specs.Held.{Held}
use Rattle.xet_shard.specs.Runs.{held_run, run_at}
use Rattle.xet_shard.specs.declared.info.MDBShardInfo.{MDBShardInfo}
use Rattle.xet_shard.specs.Queries.{block_at, kept_hash, run_in, shard_run_at}
use Rattle.xet_shard_directory.specs.Answers.{GivesUnlessDisk}
use Rattle.xet_shard_directory.specs.declared.shard_file.MDBShardFile.{MDBShardFile}
use Rattle.xet_shard_format.specs.Encoding.{Fits, IsShard, Shard, footer_of, header, shard_bytes}
use Rattle.xet_shard_format.specs.Lookups.{Lookups, chunk_items}
use Rattle.xet_shard_format.specs.declared.record.MDBXorbInfo.{MDBXorbInfo}
use Rattle.xet_shard_index.specs.declared.word_place.WordPlace.{WordPlace}
use Rattle.xet_shard_registry.specs.Registered.{Registered, keys_of}

-- ---- one file

-- the law on queries in the row of a header
abbrev pub RowLaw : Type 0
RowLaw = (w : Lookups) (s : Shard) → IsShard s → Fits s → (query : List (List ℕ)) (row place : ℕ) (block : MDBXorbInfo) → block_at row 0 s.blocks ≡ Some block
    → run_in (footer_of w s) query row place (shard_bytes w s) ≡ Ok (run_at (map (kept_hash s.key) query) block place)

-- the law on the rows of a chunk lookup table
abbrev pub HeadLaw : Type 0
HeadLaw = (blocks : List MDBXorbInfo) → AllByRecursion (λ i. is_some (block_at (i.1) 0 blocks) ≡ true) (chunk_items blocks)

all_at : {X : Type 0} (P : X → Type 0) (xs : List X) (i : ℕ) (x : X) → AllByRecursion P xs → slice_get xs i ≡ Some x → P x
all_at P [] i x all e = absurd cc
all_at P (y ∷ xs) zero x all e = let same : y ≡ x = same_Some y x e in rw same at all.0
all_at P (y ∷ xs) (suc i) x all e = all_at P xs i x all.1 e

is_there : {X : Type 0} (o : Option X) → is_some o ≡ true → (x : X) × (o ≡ Some x)
is_there None e = absurd (cc e)
is_there (Some x) e = (x, refl)

-- the row of an item is that of a xorb's header
head_of_item : HeadLaw → (blocks : List MDBXorbInfo) (items : List (ℕ × ℕ × ℕ)) (word item row place : ℕ) → items ≡ chunk_items blocks → slice_get items item ≡ Some (word, row, place)
    → (block : MDBXorbInfo) × (block_at row 0 blocks ≡ Some block)
head_of_item law blocks items word item row place are there =
    is_there (block_at row 0 blocks)
    (all_at (λ (i : ℕ × ℕ × ℕ). is_some (block_at (i.1) 0 blocks) ≡ true) (chunk_items blocks) item (word, row, place) (law blocks) (rw are at there))

encoded_run : RowLaw → (w : Lookups) (s : Shard) → IsShard s → Fits s → (info : MDBShardInfo) (bytes : List ℕ) (query : List (List ℕ)) (row place : ℕ) (block : MDBXorbInfo) (result : Result (Option Run) StoreError)
    → block_at row 0 s.blocks ≡ Some block → info ≡ record { header = header; metadata = footer_of w s } → bytes ≡ shard_bytes w s
    → GivesUnlessDisk (λ (r : Option Run). r) result (run_in info.metadata query row place bytes) → GivesUnlessDisk (λ (r : Option Run). r) result (Ok (shard_run_at s query row place))
encoded_run law w s form fits info bytes query row place block result is ei eb told =
    let foot : info.metadata ≡ footer_of w s = ap (λ (i : MDBShardInfo). i.metadata) ei in
    let read : run_in info.metadata query row place bytes ≡ Ok (run_at (map (kept_hash s.key) query) block place) = rw (foot, eb) (law w s form fits query row place block is) in
    rw (is, shard_run_at) (subst (λ (r : Result (Option Run) StoreError). GivesUnlessDisk (λ (o : Option Run). o) result r) read told)

pub run_of_file : RowLaw → HeadLaw → (files : Files) (query : List (List ℕ)) (p : WordPlace) (s : Registered) (file : MDBShardFile) (result : Result (Option Run) StoreError) (word item : ℕ)
    → s.file ≡ file → HoldsFile files s → slice_get s.items item ≡ Some (word, p.row, p.chunk)
    → ((f : File) → file_at files file.path ≡ Some f → GivesUnlessDisk (λ (r : Option Run). r) result (run_in file.shard.metadata query p.row p.chunk f.bytes))
    → (file_at files file.path ≡ None → GivesUnlessDisk (λ (r : Option Run). r) result (Ok None))
    → GivesUnlessDisk (λ (r : Option Run). r) result (Ok (run_in_file files query p s))
run_of_file law heads files query p s file result word item same holds listed present absent = by (file_at files s.file.path) refl
  where
    by : (found : Option File) → file_at files s.file.path ≡ found → GivesUnlessDisk (λ (r : Option Run). r) result (Ok (run_in_file files query p s))
    by None e = rw e (absent (rw same at e))
    by (Some f) e =
        let enc : IsEncodingOf s f.bytes = holds f.bytes (ap (option_map (λ (g : File). g.bytes)) e) in
        let (block, is) = head_of_item heads s.records.0 s.items word item p.row p.chunk enc.items listed in
        rw e (encoded_run law enc.encoding.lookups (shard_of s) enc.encoding.shard enc.encoding.fits file.shard f.bytes query p.row p.chunk block result is (ap (λ (m : MDBShardFile). m.shard) (sym same) ∙ enc.info) enc.encoding.encoding (present f (rw same at e)))

-- a run that is read of a shard file is there
pub run_is_there : (files : Files) (pending : Held) (ss : List MDBShardFile) (number : ℕ) (file : MDBShardFile) (query : List (List ℕ)) (row place : ℕ) (result : Result (Option Run) StoreError) → slice_get ss number ≡ Some file
    → ((f : File) → file_at files file.path ≡ Some f → GivesUnlessDisk (λ (r : Option Run). r) result (run_in file.shard.metadata query row place f.bytes))
    → (file_at files file.path ≡ None → GivesUnlessDisk (λ (r : Option Run). r) result (Ok None))
    → IfOk result (IsThere files pending ss query)
run_is_there files pending ss number file query row place (Err e) listed present absent = tt
run_is_there files pending ss number file query row place (Ok None) listed present absent = tt
run_is_there files pending ss number file query row place (Ok (Some run)) listed present absent = by (file_at files file.path) refl
  where
    by : (found : Option File) → file_at files file.path ≡ found → IsThere files pending ss query (Some run)
    by None e = absurd (cc (absent e))
    by (Some f) e = inr (record {
      number = number;
      file = file;
      is_file = listed;
      bytes = f.bytes;
      there = ap (option_map (λ (g : File). g.bytes)) e;
      row = row;
      place = place;
      read = present f e;
    })

-- ---- the file of a place

pub map_at : {X Y : Type 0} (f : X → Y) (xs : List X) (i : ℕ) (y : Y) → slice_get (map f xs) i ≡ Some y → (x : X) × (slice_get xs i ≡ Some x) × (f x ≡ y)
map_at f [] i y e = absurd cc
map_at f (x ∷ xs) zero y e = (x, refl, cc e)
map_at f (x ∷ xs) (suc i) y e = map_at f xs i y e

pub map_past : {X Y : Type 0} (f : X → Y) (xs : List X) (i : ℕ) → slice_get (map f xs) i ≡ None → slice_get xs i ≡ None
map_past f [] i e = refl
map_past f (x ∷ xs) zero e = absurd cc
map_past f (x ∷ xs) (suc i) e = map_past f xs i e

pub map_there : {X Y : Type 0} (f : X → Y) (xs : List X) (i : ℕ) (x : X) → slice_get xs i ≡ Some x → slice_get (map f xs) i ≡ Some (f x)
map_there f [] i x e = absurd cc
map_there f (y ∷ xs) zero x e = ap (λ (o : Option _). option_map f o) e
map_there f (y ∷ xs) (suc i) x e = map_there f xs i x e

pub holds_at : (files : Files) (shards : List Registered) (i : ℕ) (s : Registered) → slice_get shards i ≡ Some s → HoldsFiles files shards → HoldsFile files s
holds_at files shards i s e holds = rw (get_or_from_slice_get shards i s s e) at (holds i s (slice_get_within shards i s e))

-- ---- the first that is there

pub none_yet : {X : Type 0} (os : List (Option X)) (i : ℕ) → first_some (take i os) ≡ None → slice_get os i ≡ Some None → first_some (take (i + 1) os) ≡ None
unfolding first_some
none_yet {X} os i none e = rw add-one (go os i none e)
  where
    go : (os : List (Option X)) (i : ℕ) → first_some (take i os) ≡ None → slice_get os i ≡ Some None → first_some (take (suc i) os) ≡ None
    go [] i none e = absurd cc
    go (None ∷ os) zero none e = refl
    go (Some x ∷ os) zero none e = absurd (cc e)
    go (None ∷ os) (suc i) none e = go os i none e
    go (Some x ∷ os) (suc i) none e = absurd (cc none)

pub first_here : {X : Type 0} (os : List (Option X)) (i : ℕ) (x : X) → first_some (take i os) ≡ None → slice_get os i ≡ Some (Some x) → first_some os ≡ Some x
unfolding first_some
first_here [] i x none e = absurd cc
first_here (None ∷ os) zero x none e = absurd (cc e)
first_here (Some y ∷ os) zero x none e = cc e
first_here (None ∷ os) (suc i) x none e = first_here os i x none e
first_here (Some y ∷ os) (suc i) x none e = absurd (cc none)

-- an answer that is not none answers for all
pub answers_first : (os : List (Option Run)) (i : ℕ) (o : Option Run) (result : Result (Option Run) StoreError) → first_some (take i os) ≡ None → slice_get os i ≡ Some o
    → (result ≡ Ok None → ⊥) → GivesUnlessDisk (λ (r : Option Run). r) result (Ok o) → GivesUnlessDisk (λ (r : Option Run). r) result (Ok (first_some os))
answers_first os i o (Err (Io Disk)) none e some given = tt
answers_first os i o (Err OutOfMemory) none e some given = tt
answers_first os i o (Ok None) none e some given = absurd (some refl)
answers_first os i o (Ok (Some run)) none e some given =
    let is : o ≡ Some run = cc given in
    ap (λ (r : Option Run). Ok r) (first_here os i run none (e ∙ ap (λ (r : Option Run). Some r) is))
answers_first os i o (Err other) none e some given = absurd (cc given)

-- ---- all keys

-- none of the first keys answers, and neither does the next
pub none_of_next : (f : List ℕ → Option Run) (keys : List (List ℕ)) (i : ℕ) (result : Result (Option Run) StoreError) → i < length keys
    → first_some (take i (map f keys)) ≡ None → result ≡ Ok None
    → ((key : List ℕ) → slice_get keys i ≡ Some key → GivesUnlessDisk (λ (r : Option Run). r) result (Ok (f key))) → first_some (take (i + 1) (map f keys)) ≡ None
none_of_next f keys i result low none er given =
    let key : List ℕ = get_or keys i [] in
    let there : slice_get keys i ≡ Some key = slice_get-get_or keys i [] low in
    let told : GivesUnlessDisk (λ (r : Option Run). r) (Ok None) (Ok (f key)) = rw er at (given key there) in
    let is : f key ≡ None = cc told in
    none_yet (map f keys) i none (map_there f keys i key there ∙ ap (λ (o : Option Run). Some o) is)

pub answer_of_next : (f : List ℕ → Option Run) (keys : List (List ℕ)) (i : ℕ) (result : Result (Option Run) StoreError) → i < length keys
    → first_some (take i (map f keys)) ≡ None → (result ≡ Ok None → ⊥)
    → ((key : List ℕ) → slice_get keys i ≡ Some key → GivesUnlessDisk (λ (r : Option Run). r) result (Ok (f key))) → GivesUnlessDisk (λ (r : Option Run). r) result (Ok (first_some (map f keys)))
answer_of_next f keys i result low none some given =
    let key : List ℕ = get_or keys i [] in
    let there : slice_get keys i ≡ Some key = slice_get-get_or keys i [] low in
    answers_first (map f keys) i (f key) result none (map_there f keys i key there) some (given key there)

pub none_of_all : (f : List ℕ → Option Run) (keys : List (List ℕ)) (i : ℕ) → length keys ≤ i → first_some (take i (map f keys)) ≡ None → first_some (map f keys) ≡ None
none_of_all f keys i past none = rw (take_all i (map f keys) (omega (arith, past, length-map keys f))) at none

-- ---- what is found

pub found_pending : (files : Files) (pending : Held) (shards : List Registered) (q : List (List ℕ)) (r : Run) → held_run pending.blocks q ≡ Some r → found files pending shards q ≡ Some r
unfolding found first_some held_run
found_pending files pending shards [] r e = absurd cc
found_pending files pending shards (h ∷ hs) r e = rw e refl

pub found_registered : (files : Files) (pending : Held) (shards : List Registered) (q : List (List ℕ)) (h : List ℕ) (hs : List (List ℕ)) → held_run pending.blocks q ≡ None → q ≡ h ∷ hs
    → found files pending shards q ≡ first_some (map (keyed_run files shards h q) (keys_of shards))
unfolding found first_some
found_registered files pending shards q h hs none eq = rw eq (go (rw eq at none))
  where
    go : held_run pending.blocks (h ∷ hs) ≡ None → found files pending shards (h ∷ hs) ≡ first_some (map (keyed_run files shards h (h ∷ hs)) (keys_of shards))
    go e = rw e refl

pub found_empty : (files : Files) (pending : Held) (shards : List Registered) (q : List (List ℕ)) → slice_get q 0 ≡ None → found files pending shards q ≡ None
unfolding found
found_empty files pending shards [] e = refl
found_empty files pending shards (h ∷ hs) e = absurd cc

pub begins_with : (q : List (List ℕ)) (h : List ℕ) → slice_get q 0 ≡ Some h → (hs : List (List ℕ)) × (q ≡ h ∷ hs)
begins_with [] h e = absurd cc
begins_with (x ∷ q) h e = let same : x ≡ h = cc e in (q, rw same refl)

-- an empty query has no run
pub no_run_of_none : (blocks : List MDBXorbInfo) (query : List (List ℕ)) (run : Run) → query ≡ [] → Some run ≡ held_run blocks query → ⊥
unfolding held_run
no_run_of_none blocks [] run e h = absurd (cc h)
no_run_of_none blocks (x ∷ xs) run e h = absurd (cc e)
