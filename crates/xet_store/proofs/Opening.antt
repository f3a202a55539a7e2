-- A store that was just opened.
use Rattle.std.proofs.Common.{◌≡◌, ◌≢◌, ◌∙◌, inl, inr, ℕ, ◌<◌, ◌≤◌, Bool, true, false, List, [], ◌∷◌, length, get_or, map, Option, Some, None, option_map, Result, Ok, Err, IfErr, IsTrue, refl, sym, ap, subst, arith}
use Rattle.std.proofs.Math.ListN.{get_or-map}
use Rattle.std.proofs.lemmas.List.{get_or_default, length-map}
use Rattle.std.proofs.lemmas.List.Elements.{recursion_from_All}
use Rattle.xet_io.specs.Disk.{entry_at as get}
use Rattle.std.specs.Cmp.Lexicographic.{nat_list_cmp_total, slice_cmp}
use Rattle.std.specs.List.{All, AllByRecursion, AllPairs}
use Rattle.std.specs.Ordering.{is_lt, nat_cmp, ordering_reverse}
use Rattle.std.specs.declared.cmp.Ordering.{Ordering}
use Rattle.std.specs.declared.cmp.Ordering.TheVariants.{Less, Equal, Greater}
use Rattle.xet_folder.specs.Admission.{ShardHolds}
use Rattle.xet_cut.specs.declared.limits.LimitSettings.{LimitSettings}
use Rattle.xet_folder.specs.Contents.{HasContents, max_shards}
use Rattle.xet_folder.specs.Pruning.{OnlyPrunes}
use Rattle.xet_hash.specs.declared.error.StoreError.{StoreError}
use Rattle.xet_history.specs.Core.{RegisteredShard}
use Rattle.xet_history.specs.History.{Replays}
use Rattle.xet_history.specs.Sound.{IsShardFile}
use Rattle.xet_history.specs.declared.entry.Entry.{Entry}
use Rattle.xet_io.specs.Disk.{File, Files, bytes_at, file_at}
use Rattle.xet_shard.specs.Held.{Held}
use Rattle.xet_shard_file.specs.Names.{shard_path}
use Rattle.xet_shard_file.specs.Shards.{ComesBefore, IsThere, ShardFile}
use Rattle.xet_shard_format.specs.Encoding.{IsShardEncoding, Shard, shard}
use Rattle.xet_shard_format.specs.Names.{shard_name}
use Rattle.xet_shard_format.specs.Reading.{ShardParts, all_of, shard_of}
use Rattle.xet_shard_format.specs.theorems.Bytes.{all_are_bytes}
use Rattle.xet_shard_format.specs.theorems.WholeTaken.{all_takes}
use Rattle.xet_core_runs.specs.Shards.{AreRegistered}
use Rattle.xet_shard_registry.specs.Collections.{IsRegistryOf, Tables}
use Rattle.xet_store_disk.specs.Opening.{IsOpened, contents_of}
use Rattle.xet_store_disk.specs.Store.{State}
use Rattle.xet_store.specs.Asking.{HasRegistry}
use Rattle.xet_store.specs.Recorded.{IsRecorded, RecordedState, core_of, no_contents, recorded_state, shard_in, shard_of_bytes, with_contents}
use Rattle.xet_store.proofs.Contents.{contents_hashes}

-- ---- the contents of the registered shards are those of their files

module _ {G : Type 0} (v : G → Held) (files : Files) (folder : List ℕ) (opened : ℕ) where
  abbrev there : List ℕ → RegisteredShard
  there h = record { hash = h; contents = shard_in files folder h }

  contents_there : (hs : List (List ℕ)) (xs : List (Option G)) → length xs ≡ length hs → AllByRecursion (λ x. x ≡ None) xs → with_contents files folder opened hs (map (option_map v) xs) ≡ map there hs
  contents_there [] xs same none = refl
  contents_there (h ∷ hs) [] same none = absurd (omega (arith, same))
  contents_there (h ∷ hs) (None ∷ xs) same none = ap (λ (l : List RegisteredShard). there h ∷ l) (contents_there hs xs (omega (arith, same)) none.1)
  contents_there (h ∷ hs) (Some g ∷ xs) same none = absurd (cc none.0)

  contents_read : (h bytes : List ℕ) (p : ShardParts) → bytes_at files (shard_path folder h) ≡ Some bytes → all_of bytes ≡ Ok p → shard_in files folder h ≡ shard_of p
  contents_read h bytes p is read =
      ap (λ (o : Option (List ℕ)). elim o as (λ _. Shard) [ Some b ↦ shard_of_bytes b | None ↦ no_contents ]) is
      ∙ ap (λ (r : Result ShardParts StoreError). elim r as (λ _. Shard) [ Ok q ↦ shard q.0 q.1 q.2.chunk_hash_hmac_key q.2.shard_creation_timestamp q.2.shard_key_expiry | Err e ↦ no_contents ]) read

  stands : (f : ShardFile) → IsThere files folder f → ShardHolds files folder f → IsShardFile files folder (there f.hash)
  stands f is holds =
      let bytes_are : bytes_at files (shard_path folder f.hash) ≡ Some f.file.bytes = ap (option_map (λ (x : File). x.bytes)) is.there in
      let read = all_takes f.file.bytes holds.parts (all_are_bytes f.file.bytes holds.bytes) holds.read in
      record {
        bytes = f.file.bytes;
        there = bytes_are;
        named = holds.named;
        encoding = subst (IsShardEncoding f.file.bytes) (sym (contents_read f.hash f.file.bytes holds.parts bytes_are holds.read))
            (record { shard = read.shard; fits = read.fits; lookups = read.lookups; encoding = read.encoding });
      }

  all_stand : (fs : List ShardFile) → AllByRecursion (IsThere files folder) fs → AllByRecursion (ShardHolds files folder) fs → AllByRecursion (IsShardFile files folder) (map there (map (λ f. f.hash) fs))
  all_stand [] is holds = tt
  all_stand (f ∷ fs) is holds = (stands f is.0 holds.0, all_stand fs is.1 holds.1)

-- ---- no two of them have the same hash

not_less : (o : Ordering) → o ≡ ordering_reverse o → IsTrue (is_lt o) → ⊥
not_less Less e is = absurd (cc e)
not_less Equal e is = absurd (cc is)
not_less Greater e is = absurd (cc is)

before_other : (files : Files) (folder : List ℕ) (a b : ShardFile) → IsThere files folder a → IsThere files folder b → ComesBefore a b → a.hash ≢ b.hash
before_other files folder a b there_a there_b before same = go before
  where
    file_same : a.file ≡ b.file
    file_same =
        let both : ◌≡◌ {A = Option File} (Some a.file) (Some b.file) = sym there_a.there ∙ ap (λ (h : List ℕ). file_at files (shard_path folder h)) same ∙ there_b.there in
        cc both

    go : ComesBefore a b → ⊥
    go (inl less) = let modified : a.file.modified ≡ b.file.modified = ap (λ (f : File). f.modified) file_same in omega arith
    go (inr p) =
        let name = shard_name a.hash in
        not_less (slice_cmp nat_cmp name name) (nat_list_cmp_total.antisymm name name) (subst (λ (h : List ℕ). IsTrue (is_lt (slice_cmp nat_cmp name (shard_name h)))) (sym same) p.1)

hash_at : (fs : List ShardFile) (f : ShardFile) (d : List ℕ) (k : ℕ) → k < length (map (λ (x : ShardFile). x.hash) fs) → get_or (map (λ (x : ShardFile). x.hash) fs) k d ≡ (get_or fs k f).hash
hash_at fs f d k below = get_or_default (map (λ (x : ShardFile). x.hash) fs) k d f.hash below ∙ get_or-map (λ (x : ShardFile). x.hash) fs k f

hashes_differ : (files : Files) (folder : List ℕ) (fs : List ShardFile) → All (IsThere files folder) fs → AllPairs ComesBefore fs → AllPairs (λ a b. a ≢ b) (map (λ f. f.hash) fs)
hashes_differ files folder [] there order i j d lt below same = absurd (omega (arith, below))
hashes_differ files folder (f ∷ fs) there order i j d lt below same =
    let long : length (map (λ (x : ShardFile). x.hash) (f ∷ fs)) ≡ length (f ∷ fs) = length-map (f ∷ fs) (λ (x : ShardFile). x.hash) in
    let below_j : j < length (f ∷ fs) = omega (arith, below, long) in
    let below_i : i < length (f ∷ fs) = omega (arith, lt, below_j) in
    before_other files folder (get_or (f ∷ fs) i f) (get_or (f ∷ fs) j f) (there i f below_i) (there j f below_j) (order i j f lt below_j)
    (sym (hash_at (f ∷ fs) f d i (omega (arith, below_i, long))) ∙ same ∙ hash_at (f ∷ fs) f d j below)

-- ---- it was pruned, or not

pub opened_only : {tells : Bool} (prune : Bool) (files : Files) (folder : List ℕ) (limits : LimitSettings) (now : ℕ) (s : State) → IsOpened tells prune files folder limits now s → tells ≡ true
    → OnlyPrunes files folder limits.expiry_buffer now s.files
opened_only true files folder limits now s opened told = (opened.pruned told refl).only
opened_only false files folder limits now s opened told = λ name. inl (ap (λ (f : Files). get f name) (opened.same_files refl))

pub if_err : {A E : Type 0} {P Q : E → Type 0} (r : Result A E) → ((e : E) → P e → Q e) → IfErr r P → IfErr r Q
if_err (Ok a) more is = tt
if_err (Err e) more is = more e is

-- ---- its history, which is empty, leads to its core

pub recorded_opened : {G : Type 0} (v : G → Held) (files : Files) (s : State) (xs : List (Option G)) (h : List Entry) {tables : Tables} → length xs ≡ length s.shards → AllByRecursion (λ x. x ≡ None) xs → h ≡ []
    → (s.tells ≡ true → HasContents files s.folder s.opened (contents_of s)) → s.files ≡ files → length s.shards ≤ max_shards → IsRegistryOf [] tables → (length xs ≡ length s.shards) × IsRecorded (recorded_state s files (map (option_map v) xs) h) × HasRegistry s tables
recorded_opened v files s xs h {tables} count flushed none contents same few empty =
    let opened : RecordedState = recorded_state s files (map (option_map v) xs) h in (
      count,
      record {
        shards = record {
          registered = contents_hashes files s.folder s.opened s.shards (map (option_map v) xs) (length-map xs (option_map v) ∙ count);
          stand = λ told.
              let c = contents told in
              subst (AllByRecursion (IsShardFile s.files s.folder)) (sym (contents_there v files s.folder s.opened s.shards xs count flushed))
              (subst (λ (f : Files). AllByRecursion (IsShardFile f s.folder) (map (there v files s.folder s.opened) s.shards)) (sym same)
              (subst (λ (hs : List (List ℕ)). AllByRecursion (IsShardFile files s.folder) (map (there v files s.folder s.opened) hs)) (sym c.contents.registered)
              (all_stand v files s.folder s.opened c.shards (recursion_from_All (IsThere files s.folder) c.shards c.admits.registers.there) c.admits.hold)));
          differ = λ told.
              let c = contents told in
              subst (AllPairs (λ (a b : List ℕ). a ≢ b)) (sym c.contents.registered) (hashes_differ files s.folder c.shards c.admits.registers.there c.admits.registers.order);
          few = few;
        };
        replays = subst (λ (es : List Entry). Replays s.tells (core_of opened) es) (sym none) (record { start = core_of opened; legal = tt; leads = refl });
      },
      record { registered = []; is = empty; built = AreRegistered.none; rest = s.shards; first = refl; own = λ told. tt },
    )
