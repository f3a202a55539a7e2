-- The shards that entered the index are those that the core indexes: the registry and the core count the same words.
use Rattle.std.proofs.Common.{◌≡◌, ◌≢◌, ◌⊎◌, inl, inr, ℕ, ◌+◌, nat_eq, nat_lt, Bool, true, false, if◌then◌else◌, List, [], ◌∷◌, ◌++◌, filter, length, map, refl, sym, ap, subst, ◌∙◌, append-nil}
use Rattle.std.proofs.lemmas.List.{map-append}
use Rattle.std.proofs.lemmas.List.Elements.{filter-append}
use Rattle.std.specs.Cmp.Lexicographic.{other_text, pointwise, same_text}
use Rattle.std.specs.List.{AllByRecursion, list_any}
use Rattle.xet_base.specs.theorems.Elements.{all_filtered, all_prefix}
use Rattle.xet_core_runs.proofs.Sums.{AddUp, first_other, first_same, sum_same}
use Rattle.xet_core_runs.specs.Shards.{AreRegistered, next, none, with_contents}
use Rattle.xet_hash.specs.Hash.{zero_hash}
use Rattle.xet_history.specs.Core.{RegisteredShard}
use Rattle.xet_history.specs.Found.{indexed_after, of_key, words_of, key_of as core_key, word_count as core_count}
use Rattle.xet_shard.specs.Union.{ShardRecords}
use Rattle.xet_shard_directory.specs.declared.shard_file.MDBShardFile.{MDBShardFile}
use Rattle.xet_shard_format.specs.Lookups.{chunk_items}
use Rattle.xet_shard_index.specs.Different.{different}
use Rattle.xet_shard_index.specs.Places.{all_words, within_reach}
use Rattle.xet_shard_registry.specs.Registered.{Registered, collection, entered_from, has_key, indexed, key_of, keys_of, with_shard, word_count}

abbrev Key : Type 0
Key = List ℕ

key_tells : (a b : Key) → ((pointwise nat_eq a b ≡ true) × (a ≡ b)) ⊎ ((pointwise nat_eq a b ≡ false) × (a ≢ b))
key_tells a b = by (pointwise nat_eq a b) refl
  where
    by : (r : Bool) → pointwise nat_eq a b ≡ r → ((pointwise nat_eq a b ≡ true) × (a ≡ b)) ⊎ ((pointwise nat_eq a b ≡ false) × (a ≢ b))
    by true e = inl (e, same_text a b (sym e))
    by false e = inr (e, other_text a b (sym e))

-- a shard was registered with the chunk lookup table of its xorbs
abbrev pub HasItems : Registered → Type 0
HasItems s = s.items ≡ chunk_items s.records.0

abbrev pub entered : List Registered → List Registered
entered shards = filter (λ s. s.entered) shards

-- those of the shards that entered, with their contents
abbrev pub in_core : List Registered → List RegisteredShard
in_core shards = map with_contents (entered shards)

-- ---- one key

-- of the shards of a key, those that entered are the shards of the key of those that entered
pub key_entered : (key : Key) (shards : List Registered) → of_key key (in_core shards) ≡ in_core (collection key shards)
key_entered key [] = refl
key_entered key (s ∷ ss) = by (has_key key s) s.entered refl refl (key_entered key ss)
  where
    by : (b e : Bool) → has_key key s ≡ b → s.entered ≡ e → of_key key (in_core ss) ≡ in_core (collection key ss) → of_key key (in_core (s ∷ ss)) ≡ in_core (collection key (s ∷ ss))
    by true true eb ee later = simp (eb, ee) (ap (λ (ys : List RegisteredShard). with_contents s ∷ ys) later)
    by true false eb ee later = simp (eb, ee) later
    by false true eb ee later = simp (eb, ee) later
    by false false eb ee later = simp (eb, ee) later

words_entered : (n : ℕ) (shards : List Registered) → AllByRecursion HasItems shards → all_words (entered_from n shards) ≡ words_of (in_core shards)
unfolding all_words entered_from
words_entered n [] all = refl
words_entered n (s ∷ ss) all = by s.entered refl (words_entered (n + 1) ss all.1)
  where
    by : (e : Bool) → s.entered ≡ e → all_words (entered_from (n + 1) ss) ≡ words_of (in_core ss) → all_words (entered_from n (s ∷ ss)) ≡ words_of (in_core (s ∷ ss))
    by true ee later =
        rw ee (ap (λ (items : List (ℕ × ℕ × ℕ)). map (λ i. i.0) (within_reach items) ++ all_words (entered_from (n + 1) ss)) all.0
        ∙ ap (λ (ws : List ℕ). map (λ i. i.0) (within_reach (chunk_items s.records.0)) ++ ws) later)
    by false ee later = rw ee later

-- the number of different words of the shards of a key
abbrev count_in : List RegisteredShard → Key → ℕ
count_in shards key = length (different nat_eq (words_of (of_key key shards)))

key_counted : (shards : List Registered) → AllByRecursion HasItems shards → (key : Key) → length (different nat_eq (all_words (indexed key shards))) ≡ count_in (in_core shards) key
key_counted shards all key =
    ap (λ (ws : List ℕ). length (different nat_eq ws))
    (words_entered 0 (collection key shards) (all_filtered HasItems (has_key key) shards all) ∙ ap (λ (ss : List RegisteredShard). words_of ss) (sym (key_entered key shards)))

-- a key that no shard has, has no words
no_shards : (key : Key) (shards : List RegisteredShard) → list_any (pointwise nat_eq key) (map core_key shards) ≡ false → of_key key shards ≡ []
no_shards key [] absent = refl
no_shards key (s ∷ ss) absent = by (pointwise nat_eq key (core_key s)) refl (no_shards key ss)
  where
    by : (b : Bool) → pointwise nat_eq key (core_key s) ≡ b → (list_any (pointwise nat_eq key) (map core_key ss) ≡ false → of_key key ss ≡ []) → of_key key (s ∷ ss) ≡ []
    by true eb later = absurd (cc (eb, absent))
    by false eb later = rw eb (later (rw eb at absent))

no_words : (shards : List RegisteredShard) (key : Key) → list_any (pointwise nat_eq key) (zero_hash ∷ map core_key shards) ≡ false → count_in shards key ≡ 0
unfolding different
no_words shards key absent = by (pointwise nat_eq key zero_hash) refl
  where
    by : (b : Bool) → pointwise nat_eq key zero_hash ≡ b → count_in shards key ≡ 0
    by true eb = absurd (cc (eb, absent))
    by false eb = ap (λ (ss : List RegisteredShard). length (different nat_eq (words_of ss))) (no_shards key shards (rw eb at absent))

-- ---- all keys

keys_add_up : (shards : List Registered) → AddUp (pointwise nat_eq) key_tells (map key_of shards) (map core_key (in_core shards))
keys_add_up [] = λ f absent. refl
keys_add_up (s ∷ ss) = by s.entered refl (keys_add_up ss)
  where
    by : (e : Bool) → s.entered ≡ e → AddUp (pointwise nat_eq) key_tells (map key_of ss) (map core_key (in_core ss))
        → AddUp (pointwise nat_eq) key_tells (map key_of (s ∷ ss)) (map core_key (in_core (s ∷ ss)))
    by true ee later =
        let keys : key_of s ∷ map core_key (in_core ss) ≡ map core_key (in_core (s ∷ ss)) = rw ee refl in
        subst (λ (ls : List Key). AddUp (pointwise nat_eq) key_tells (map key_of (s ∷ ss)) ls) keys (first_same (pointwise nat_eq) key_tells (key_of s) (map key_of ss) (map core_key (in_core ss)) later)
    by false ee later =
        let keys : map core_key (in_core ss) ≡ map core_key (in_core (s ∷ ss)) = rw ee refl in
        subst (λ (ls : List Key). AddUp (pointwise nat_eq) key_tells (map key_of (s ∷ ss)) ls) keys (first_other (pointwise nat_eq) key_tells (key_of s) (map key_of ss) (map core_key (in_core ss)) later)

words_counted : (shards : List Registered) → AllByRecursion HasItems shards → word_count shards ≡ core_count (in_core shards)
words_counted shards all =
    sum_same (λ key. length (different nat_eq (all_words (indexed key shards)))) (count_in (in_core shards)) (keys_of shards) (key_counted shards all)
    ∙ first_same (pointwise nat_eq) key_tells zero_hash (map key_of shards) (map core_key (in_core shards)) (keys_add_up shards) (count_in (in_core shards)) (no_words (in_core shards))

-- ---- the indexed shards

-- one more shard, if fewer words than the cap were counted before it
abbrev one_more : ℕ → List RegisteredShard → RegisteredShard → List RegisteredShard
one_more cap before s = if nat_lt (core_count before) cap then before ++ s ∷ [] else before

indexed_more : (cap : ℕ) (before shards : List RegisteredShard) (s : RegisteredShard) → indexed_after cap before (shards ++ s ∷ []) ≡ one_more cap (indexed_after cap before shards) s
unfolding indexed_after
indexed_more cap before [] s = refl
indexed_more cap before (t ∷ ss) s = indexed_more cap (one_more cap before t) ss s

last_entered : (shards : List Registered) (s : Registered) (e : Bool) → s.entered ≡ e → in_core (shards ++ s ∷ []) ≡ (if e then in_core shards ++ with_contents s ∷ [] else in_core shards)
last_entered shards s true ee =
    ap (λ (ss : List Registered). map with_contents ss) (filter-append (λ (t : Registered). t.entered) shards (s ∷ []) ∙ rw ee refl)
    ∙ map-append with_contents (entered shards) (s ∷ [])
last_entered shards s false ee =
    ap (λ (ss : List Registered). map with_contents ss) (filter-append (λ (t : Registered). t.entered) shards (s ∷ []) ∙ rw ee (append-nil (entered shards)))

indexed_last : (cap : ℕ) (shards : List Registered) (file : MDBShardFile) (items : List (ℕ × ℕ × ℕ)) (records : ShardRecords) → AllByRecursion HasItems shards
    → indexed_after cap [] (map with_contents shards) ≡ in_core shards
    → indexed_after cap [] (map with_contents (with_shard cap shards file items records)) ≡ in_core (with_shard cap shards file items records)
indexed_last cap shards file items records all before =
    ap (λ (ss : List RegisteredShard). indexed_after cap [] ss) (map-append with_contents shards (s ∷ []))
    ∙ indexed_more cap [] (map with_contents shards) (with_contents s)
    ∙ ap (λ (ss : List RegisteredShard). one_more cap ss (with_contents s)) before
    ∙ ap (λ (n : ℕ). if nat_lt n cap then in_core shards ++ with_contents s ∷ [] else in_core shards) (sym (words_counted shards all))
    ∙ sym (last_entered shards s (nat_lt (word_count shards) cap) refl)
  where
    s : Registered
    s = record { file = file; items = items; records = records; entered = nat_lt (word_count shards) cap }

pub indexed_entered : (cap : ℕ) (shards : List Registered) → AreRegistered cap shards → AllByRecursion HasItems shards → indexed_after cap [] (map with_contents shards) ≡ in_core shards
unfolding indexed_after
indexed_entered cap _ none all = refl
indexed_entered cap _ (next shards file items records before) all =
    let earlier : AllByRecursion HasItems shards = all_prefix HasItems shards _ all in
    indexed_last cap shards file items records earlier (indexed_entered cap shards before earlier)
