-- The file record of a hash in registered shards.
use Rattle.std.proofs.Common.{◌≡◌, ℕ, zero, suc, ◌+◌, ◌≤◌, Bool, false, List, [], ◌∷◌, ◌++◌, length, map, take, Option, None, Some, option_map, Result, Ok, Err, slice_get, refl, sym, ap, ◌∙◌, add-one, arith}
use Rattle.std.proofs.lemmas.List.{length-map, take_all}
use Rattle.std.proofs.lemmas.Option.{same_Some}
use Rattle.std.specs.List.{flat_map}
use Rattle.std.specs.Prelude.{nat_eq, nat_lt}
use Rattle.std.specs.Cmp.Lexicographic.{pointwise}
use Rattle.xet_hash.specs.Hash.{zero_hash}
use Rattle.xet_hash.specs.declared.error.Place.TheVariants.{Disk}
use Rattle.xet_hash.specs.declared.error.StoreError.{StoreError}
use Rattle.xet_hash.specs.declared.error.StoreError.TheVariants.{Io, OutOfMemory}
use Rattle.xet_io.specs.Disk.{File, Files, file_at}
use Rattle.xet_shard.specs.Bisection.{Bisects}
use Rattle.xet_shard.specs.Held.{Held, record_of}
use Rattle.xet_shard.specs.Queries.{file_in_shard, file_table, found_file}
use Rattle.xet_shard.specs.declared.info.MDBShardInfo.{MDBShardInfo}
use Rattle.xet_shard_directory.specs.Answers.{AnswersUnlessDisk, GivesUnlessDisk}
use Rattle.xet_shard_directory.specs.Asked.{AnswersFile}
use Rattle.xet_shard_directory.specs.declared.shard_file.MDBShardFile.{MDBShardFile}
use Rattle.xet_shard_format.specs.Encoding.{Fits, IsShard, Shard, footer_of, header, shard_bytes}
use Rattle.xet_shard_format.specs.Lookups.{Lookups}
use Rattle.xet_shard_format.specs.Records.{file_record_hash, first_word}
use Rattle.xet_shard_format.specs.declared.record.MDBFileInfo.{MDBFileInfo}
use Rattle.xet_shard_lookup.proofs.Asking.{map_there}
use Rattle.xet_shard_lookup.specs.Found.{HoldsFile, IsEncodingOf, shard_of}
use Rattle.xet_shard_lookup.specs.Records.{Answer, IsRecorded, answer_of, first_answer, found_record, record_in}
use Rattle.xet_shard_registry.specs.Registered.{Registered, collection, keys_of}

abbrev pub Found : Type 0
Found = Result (Option Answer) StoreError

-- a result is this one, unless the disk failed or memory was out
abbrev pub Gives : Found → Found → Type 0
Gives result read = GivesUnlessDisk (λ (a : Option Answer). a) result read

-- ---- one file

-- the law on the file of a hash
abbrev pub FileLaw : Type 0
FileLaw = (w : Lookups) (s : Shard) → IsShard s → Fits s → (h : List ℕ) (index : ℕ) → Bisects (λ i. nat_lt i.0 (first_word h)) (file_table (footer_of w s) (shard_bytes w s)) index
    → found_file (footer_of w s) h index (shard_bytes w s) ≡ file_in_shard s h

-- a query that is answered the same at every index that bisects
given_by_law : {X A : Type 0} (passes : X → Bool) (items : List X) (result : Result A StoreError) (answer : ℕ → Result A StoreError) (read : Result A StoreError)
    → ((index : ℕ) → Bisects passes items index → answer index ≡ read) → AnswersUnlessDisk passes items result answer → GivesUnlessDisk (λ (a : A). a) result read
given_by_law passes items (Err (Io Disk)) answer read law told = tt
given_by_law passes items (Err OutOfMemory) answer read law told = tt
given_by_law passes items (Ok a) answer read law (index, bisects, e) = sym (law index bisects) ∙ e
given_by_law passes items (Err e) answer read law (index, bisects, eq) = sym (law index bisects) ∙ eq

encoded_file : FileLaw → (w : Lookups) (s : Shard) → IsShard s → Fits s → (info : MDBShardInfo) (bytes : List ℕ) (h : List ℕ) (result : Result (Option MDBFileInfo) StoreError)
    → info ≡ record { header = header; metadata = footer_of w s } → bytes ≡ shard_bytes w s → AnswersFile info h bytes result → GivesUnlessDisk (λ (f : Option MDBFileInfo). f) result (file_in_shard s h)
encoded_file law w s form fits info bytes h result ei eb told = given_by_law _ _ result _ (file_in_shard s h) (λ index bisects. law w s form fits h index bisects) (rw (ei, eb) at told)

pub file_of_shard : FileLaw → (files : Files) (h : List ℕ) (s : Registered) (file : MDBShardFile) (result : Result (Option MDBFileInfo) StoreError) → s.file ≡ file → HoldsFile files s
    → ((f : File) → file_at files file.path ≡ Some f → AnswersFile file.shard h f.bytes result)
    → (file_at files file.path ≡ None → GivesUnlessDisk (λ (f : Option MDBFileInfo). f) result (Ok None))
    → GivesUnlessDisk (λ (f : Option MDBFileInfo). f) result (record_in files h s)
file_of_shard law files h s file result same holds present absent = by (file_at files s.file.path) refl
  where
    by : (found : Option File) → file_at files s.file.path ≡ found → GivesUnlessDisk (λ (f : Option MDBFileInfo). f) result (record_in files h s)
    by None e = rw e (absent (rw same at e))
    by (Some f) e =
        let enc : IsEncodingOf s f.bytes = holds f.bytes (ap (option_map (λ (g : File). g.bytes)) e) in
        rw e (encoded_file law enc.encoding.lookups (shard_of s) enc.encoding.shard enc.encoding.fits file.shard f.bytes h result (ap (λ (m : MDBShardFile). m.shard) (sym same) ∙ enc.info) enc.encoding.encoding (present f (rw same at e)))

-- ---- the hash of the shard beside the record

-- an error of the query is one of the answer
pub error_answers : (files : Files) (h : List ℕ) (s : Registered) (e : StoreError) → GivesUnlessDisk (λ (f : Option MDBFileInfo). f) (Err e) (record_in files h s) → Gives (Err e) (answer_of files h s)
error_answers files h s (Io Disk) given = tt
error_answers files h s OutOfMemory given = tt
error_answers files h s e given = rw given refl

pub record_answers : (files : Files) (h : List ℕ) (s : Registered) (file : MDBShardFile) (f : MDBFileInfo) → s.file ≡ file → record_in files h s ≡ Ok (Some f) → answer_of files h s ≡ Ok (Some (f, Some file.shard_hash))
record_answers files h s file f same is = rw (is, same) refl

pub none_answers : (files : Files) (h : List ℕ) (s : Registered) → record_in files h s ≡ Ok None → answer_of files h s ≡ Ok None
none_answers files h s is = rw is refl

-- a record that is read of a shard file is there
pub record_is_there : (files : Files) (pending : Held) (ss : List MDBShardFile) (number : ℕ) (file : MDBShardFile) (h : List ℕ) (found : MDBFileInfo) → slice_get ss number ≡ Some file
    → ((f : File) → file_at files file.path ≡ Some f → AnswersFile file.shard h f.bytes (Ok (Some found)))
    → (file_at files file.path ≡ None → GivesUnlessDisk (λ (f : Option MDBFileInfo). f) (Ok (Some found)) (Ok None))
    → IsRecorded files pending ss h (Some (found, Some file.shard_hash))
record_is_there files pending ss number file h found listed present absent = by (file_at files file.path) refl
  where
    by : (there : Option File) → file_at files file.path ≡ there → IsRecorded files pending ss h (Some (found, Some file.shard_hash))
    by None e = absurd (cc (absent e))
    by (Some f) e =
        let (index, bisects, read) = present f e in
        record {
          number = number;
          file = file;
          is_file = listed;
          hash_is = refl;
          bytes = f.bytes;
          there = ap (option_map (λ (g : File). g.bytes)) e;
          index = index;
          read = read;
        }

-- ---- the first answer

none_yet : (rs : List Found) (i : ℕ) → first_answer (take i rs) ≡ Ok None → slice_get rs i ≡ Some (Ok None) → first_answer (take (i + 1) rs) ≡ Ok None
unfolding first_answer
none_yet rs i none e = rw add-one (go rs i none e)
  where
    go : (rs : List Found) (i : ℕ) → first_answer (take i rs) ≡ Ok None → slice_get rs i ≡ Some (Ok None) → first_answer (take (suc i) rs) ≡ Ok None
    go [] i none e = absurd cc
    go (Ok None ∷ rs) zero none e = refl
    go (Ok (Some x) ∷ rs) zero none e = absurd (cc e)
    go (Err x ∷ rs) zero none e = absurd (cc e)
    go (Ok None ∷ rs) (suc i) none e = go rs i none e
    go (Ok (Some x) ∷ rs) (suc i) none e = absurd (cc none)
    go (Err x ∷ rs) (suc i) none e = absurd (cc none)

answer_here : (rs : List Found) (i : ℕ) (r : Found) → first_answer (take i rs) ≡ Ok None → slice_get rs i ≡ Some r → (r ≡ Ok None → ⊥) → first_answer rs ≡ r
unfolding first_answer
answer_here [] i r none e some = absurd cc
answer_here (Ok None ∷ rs) zero r none e some = absurd (some (sym (same_Some _ _ e)))
answer_here (Ok (Some x) ∷ rs) zero r none e some = same_Some _ _ e
answer_here (Err x ∷ rs) zero r none e some = same_Some _ _ e
answer_here (Ok None ∷ rs) (suc i) r none e some = answer_here rs i r none e some
answer_here (Ok (Some x) ∷ rs) (suc i) r none e some = absurd (cc none)
answer_here (Err x ∷ rs) (suc i) r none e some = absurd (cc none)

-- an answer that is not none answers for all
answers_first : (rs : List Found) (i : ℕ) (r result : Found) → first_answer (take i rs) ≡ Ok None → slice_get rs i ≡ Some r → (result ≡ Ok None → ⊥) → Gives result r → Gives result (first_answer rs)
answers_first rs i r (Err (Io Disk)) none e some given = tt
answers_first rs i r (Err OutOfMemory) none e some given = tt
answers_first rs i r (Ok None) none e some given = absurd (some refl)
answers_first rs i r (Ok (Some x)) none e some given = answer_here rs i r none e (λ is. absurd (cc (given, is))) ∙ given
answers_first rs i r (Err x) none e some given = answer_here rs i r none e (λ is. absurd (cc (given, is))) ∙ given

-- the next of a list gives no answer
pub none_of_next : {X : Type 0} (f : X → Found) (xs : List X) (i : ℕ) (x : X) (result : Found) → slice_get xs i ≡ Some x → first_answer (take i (map f xs)) ≡ Ok None → result ≡ Ok None
    → Gives result (f x) → first_answer (take (i + 1) (map f xs)) ≡ Ok None
none_of_next f xs i x result there none er given =
    let told : Gives (Ok None) (f x) = rw er at given in
    let is : f x ≡ Ok None = told in
    none_yet (map f xs) i none (map_there f xs i x there ∙ ap (λ (r : Found). Some r) is)

-- the next of a list gives the answer
pub answer_of_next : {X : Type 0} (f : X → Found) (xs : List X) (i : ℕ) (x : X) (result : Found) → slice_get xs i ≡ Some x → first_answer (take i (map f xs)) ≡ Ok None → (result ≡ Ok None → ⊥)
    → Gives result (f x) → Gives result (first_answer (map f xs))
answer_of_next f xs i x result there none some given = answers_first (map f xs) i (f x) result none (map_there f xs i x there) some given

pub none_of_all : {X : Type 0} (f : X → Found) (xs : List X) (i : ℕ) → length xs ≤ i → first_answer (take i (map f xs)) ≡ Ok None → first_answer (map f xs) ≡ Ok None
none_of_all f xs i past none = rw (take_all i (map f xs) (omega (arith, past, length-map xs f))) at none

-- ---- all lists

first_of_both : (rs ss : List Found) → first_answer (rs ++ ss) ≡ first_answer (first_answer rs ∷ ss)
unfolding first_answer
first_of_both [] ss = refl
first_of_both (Ok None ∷ rs) ss = first_of_both rs ss
first_of_both (Ok (Some x) ∷ rs) ss = refl
first_of_both (Err x ∷ rs) ss = refl

first_step : (r : Found) (rs ss : List Found) → first_answer rs ≡ first_answer ss → first_answer (r ∷ rs) ≡ first_answer (r ∷ ss)
unfolding first_answer
first_step (Ok None) rs ss e = e
first_step (Ok (Some x)) rs ss e = refl
first_step (Err x) rs ss e = refl

-- the first answer of lists end to end is the first of their first answers
pub first_of_lists : {X : Type 0} (f : X → List Found) (xs : List X) → first_answer (flat_map f xs) ≡ first_answer (map (λ x. first_answer (f x)) xs)
first_of_lists f [] = refl
first_of_lists f (x ∷ xs) = first_of_both (f x) (flat_map f xs) ∙ first_step (first_answer (f x)) (flat_map f xs) (map (λ y. first_answer (f y)) xs) (first_of_lists f xs)

-- ---- what is found

pub found_pending : (files : Files) (pending : Held) (shards : List Registered) (h : List ℕ) (f : MDBFileInfo) → pointwise nat_eq h zero_hash ≡ false → record_of file_record_hash h pending.files ≡ Some f
    → found_record files pending shards h ≡ Ok (Some (f, None))
unfolding first_answer
found_pending files pending shards h f some e = rw (some, e) refl

pub found_registered : (files : Files) (pending : Held) (shards : List Registered) (h : List ℕ) → pointwise nat_eq h zero_hash ≡ false → record_of file_record_hash h pending.files ≡ None
    → found_record files pending shards h ≡ first_answer (flat_map (λ key. map (answer_of files h) (collection key shards)) (keys_of shards))
unfolding first_answer
found_registered files pending shards h some e = rw (some, e) refl
