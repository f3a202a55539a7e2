-- Registration of one shard file, and of several, one after the other.
use borrow.Author.Tests.{le-leb}
use Rattle.std.proofs.Common.{◌≡◌, ◌∙◌, ℕ, ◌+◌, ◌-◌, ◌^◌, ◌<◌, ◌≤◌, Bool, true, false, cond, List, [], ◌∷◌, ◌++◌, drop, get_or, length, map, take, Result, Ok, Err, refl, sym, ap, subst, arith}
use Rattle.std.proofs.lemmas.Bool.Decides.{nat_tests}
use Rattle.std.proofs.lemmas.List.{append-nil, drop_more, length-map, map-append, map_more, take-append-drop, take_all}
use Rattle.std.specs.Cmp.Lexicographic.{pointwise}
use Rattle.std.specs.List.{list_any}
use Rattle.std.specs.Prelude.{IfErr, OnErr, OnOk, nat_eq, nat_le, nat_lt}
use Rattle.xet_codec.specs.Parsing.{◌>>=◌}
use Rattle.xet_hash.specs.declared.error.Place.TheVariants as place
use Rattle.xet_hash.specs.declared.error.StoreError.{StoreError}
use Rattle.xet_hash.specs.declared.error.StoreError.TheVariants as error
use Rattle.xet_hash.specs.declared.error.What.TheVariants.{Shards}
use Rattle.xet_io.specs.Disk.{Files}
use Rattle.xet_shard.specs.Union.{ShardRecords}
use Rattle.xet_shard_directory.specs.Answers.{GivesUnlessDisk}
use Rattle.xet_shard_directory.specs.declared.shard_file.MDBShardFile.{MDBShardFile}
use Rattle.xet_shard_registration.specs.Registering.{RegistersAll, Stops, first_registered, items_in, registered_all, registered_one}
use Rattle.xet_shard_registration.specs.internal.Steps.{RegistersOne}
use Rattle.xet_shard_registry.specs.Collections.{IsRegistryOf, Tables}
use Rattle.xet_shard_registry.specs.Registered.{Registered, is_registered, with_shard, word_count}
use Rattle.xet_shard_format.specs.Lookups.{flat_places}

-- the error of what is read first is that of the whole
pub gives_then : {X Y Z : Type 0} (view : X → Y) (e : StoreError) (read : Result Y StoreError) (f : Y → Result Z StoreError)
    → GivesUnlessDisk view (Err e) read → GivesUnlessDisk (λ (z : Z). z) (Err e) (read >>= f)
gives_then view (error.Io place.Disk) read f h = tt
gives_then view error.OutOfMemory read f h = tt
gives_then {X} {Y} {Z} view e read f h = ap (λ (r : Result Y StoreError). r >>= f) h

pub on_ok : {T E P Q : Type 0} (r : Result T E) → (P → Q) → OnOk r P → OnOk r Q
on_ok (Ok x) f h = f h
on_ok (Err e) f h = tt

-- ---- what the tables say of the registered shards

pub registered_by : (shards : List Registered) (t : Tables) (hash : List ℕ) (test answer : Bool) → IsRegistryOf shards t → test ≡ list_any (pointwise nat_eq hash) t.hashes → test ≡ answer → is_registered hash shards ≡ answer
registered_by shards t hash test answer held is told = ap (list_any (pointwise nat_eq hash)) (sym held.hashes) ∙ sym is ∙ told

count_by : (shards : List Registered) (t : Tables) → IsRegistryOf shards t → length t.files ≡ length shards
count_by shards t held = ap length held.files ∙ length-map shards (λ (s : Registered). s.file)

module _ (shards : List Registered) (t : Tables) (shown : List MDBShardFile) (held : IsRegistryOf shards t) (is : shown ≡ t.files) where
  pub many_by : 4294967295 ≤ length shown → nat_le (2 ^ 32 - 1) (length shards) ≡ true
  many_by many = let n : length shown ≡ length shards = ap length is ∙ count_by shards t held in le-leb 4294967295 (length shards) (omega arith)

  pub few_by : length shown < 4294967295 → nat_le (2 ^ 32 - 1) (length shards) ≡ false
  few_by few = let n : length shown ≡ length shards = ap length is ∙ count_by shards t held in let test : nat_le 4294967295 (length shards) ≡ false = grind (arith, nat_tests) in test

-- a copy of the value of a file was registered
pub entered_with : (cap : ℕ) (before after : Tables) (copy file : MDBShardFile) (shown items : List (ℕ × (ℕ × ℕ))) → copy ≡ file → shown ≡ items
    → ((shards : List Registered) (records : ShardRecords) → IsRegistryOf shards before → IsRegistryOf (with_shard cap shards copy (flat_places shown) records) after)
    → (shards : List Registered) (records : ShardRecords) → IsRegistryOf shards before → IsRegistryOf (with_shard cap shards file (flat_places items) records) after
entered_with cap before after copy file shown items same is entered shards records held =
    subst (λ (f : MDBShardFile). IsRegistryOf (with_shard cap shards f (flat_places items) records) after) same
    (subst (λ (ps : List (ℕ × (ℕ × ℕ))). IsRegistryOf (with_shard cap shards copy (flat_places ps) records) after) is (entered shards records held))

module _ (cap : ℕ) (files : Files) (records : MDBShardFile → ShardRecords) where
  abbrev one : List Registered → MDBShardFile → Result (List Registered) StoreError
  one = registered_one cap files records

  abbrev all : List Registered → List MDBShardFile → Result (List Registered) StoreError
  all = registered_all cap files records

  -- ---- one shard file

  abbrev entered : List Registered → MDBShardFile → Result (List Registered) StoreError
  entered shards s = items_in files s >>= λ items. Ok (with_shard cap shards s items (records s))

  module _ (shards : List Registered) (s : MDBShardFile) where
    pub one_known : is_registered s.shard_hash shards ≡ true → one shards s ≡ Ok shards
    unfolding registered_one
    one_known known = ap (λ (b : Bool). cond b (Ok shards) (cond (nat_le (2 ^ 32 - 1) (length shards)) (Err (error.TooLarge Shards)) (entered shards s))) known

    pub one_many : is_registered s.shard_hash shards ≡ false → nat_le (2 ^ 32 - 1) (length shards) ≡ true → one shards s ≡ Err (error.TooLarge Shards)
    unfolding registered_one
    one_many other many =
        ap (λ (b : Bool). cond b (Ok shards) (cond (nat_le (2 ^ 32 - 1) (length shards)) (Err (error.TooLarge Shards)) (entered shards s))) other
        ∙ ap (λ (b : Bool). cond b (Err (error.TooLarge Shards)) (entered shards s)) many

    pub one_new : is_registered s.shard_hash shards ≡ false → nat_le (2 ^ 32 - 1) (length shards) ≡ false → one shards s ≡ entered shards s
    unfolding registered_one
    one_new other few =
        ap (λ (b : Bool). cond b (Ok shards) (cond (nat_le (2 ^ 32 - 1) (length shards)) (Err (error.TooLarge Shards)) (entered shards s))) other
        ∙ ap (λ (b : Bool). cond b (Err (error.TooLarge Shards)) (entered shards s)) few

    pub one_read : (items : List (ℕ × ℕ × ℕ)) → is_registered s.shard_hash shards ≡ false → nat_le (2 ^ 32 - 1) (length shards) ≡ false → items_in files s ≡ Ok items
        → one shards s ≡ Ok (with_shard cap shards s items (records s))
    one_read items other few read =
        one_new other few ∙ ap (λ (r : Result (List (ℕ × ℕ × ℕ)) StoreError). r >>= λ items. Ok (with_shard cap shards s items (records s))) read

    pub one_unread : (e : StoreError) → is_registered s.shard_hash shards ≡ false → nat_le (2 ^ 32 - 1) (length shards) ≡ false
        → GivesUnlessDisk (λ (x : List (ℕ × ℕ × ℕ)). x) (Err e) (items_in files s) → GivesUnlessDisk (λ (x : List Registered). x) (Err e) (one shards s)
    one_unread e other few read =
        subst (GivesUnlessDisk (λ (x : List Registered). x) (Err e)) (sym (one_new other few))
        (gives_then (λ (x : List (ℕ × ℕ × ℕ)). x) e (items_in files s) (λ items. Ok (with_shard cap shards s items (records s))) read)

  -- ---- several

  pub stops_short : (shards : List Registered) (ss : List MDBShardFile) (t : Tables) → IsRegistryOf shards t → Stops cap files records shards ss t error.OutOfMemory
  unfolding registered_all
  stops_short shards ss t held = record { before = []; after = ss; parts = refl; first = record { registered = shards; all = refl; tables = held }; refused = tt }

  all_append : (shards : List Registered) (xs ys : List MDBShardFile) → all shards (xs ++ ys) ≡ (all shards xs >>= λ more. all more ys)
  unfolding registered_all
  all_append shards [] ys = refl
  all_append shards (x ∷ xs) ys = by (one shards x) (λ more. all_append more xs ys)
    where
      by : (read : Result (List Registered) StoreError) → ((more : List Registered) → all more (xs ++ ys) ≡ (all more xs >>= λ next. all next ys))
          → (read >>= λ more. all more (xs ++ ys)) ≡ ((read >>= λ more. all more xs) >>= λ next. all next ys)
      by (Ok more) rest = rest more
      by (Err e) rest = refl

  all_after : (shards registered : List Registered) (xs ys : List MDBShardFile) → all shards xs ≡ Ok registered → all shards (xs ++ ys) ≡ all registered ys
  all_after shards registered xs ys first = all_append shards xs ys ∙ ap (λ (r : Result (List Registered) StoreError). r >>= λ more. all more ys) first

  all_last : (shards registered more : List Registered) (xs : List MDBShardFile) (s : MDBShardFile) → all shards xs ≡ Ok registered → one registered s ≡ Ok more → all shards (xs ++ s ∷ []) ≡ Ok more
  unfolding registered_all
  all_last shards registered more xs s first last = all_after shards registered xs (s ∷ []) first ∙ ap (λ (r : Result (List Registered) StoreError). r >>= λ next. all next []) last

  all_refused : (e : StoreError) (shards : List Registered) (ss : List MDBShardFile) → GivesUnlessDisk (λ (x : List Registered). x) (Err e) (first_registered cap files records shards ss)
      → GivesUnlessDisk (λ (x : List Registered). x) (Err e) (all shards ss)
  unfolding registered_all first_registered
  all_refused e shards [] h = h
  all_refused e shards (s ∷ ss) h = gives_then (λ (x : List Registered). x) e (one shards s) (λ more. all more ss) h

  -- where registration stops, so does that of all
  pub stops_all : (shards : List Registered) (ss : List MDBShardFile) (tables : Tables) (e : StoreError) → Stops cap files records shards ss tables e → GivesUnlessDisk (λ (x : List Registered). x) (Err e) (all shards ss)
  stops_all shards ss tables e stops =
      let whole : all shards ss ≡ all stops.first.registered stops.after =
      ap (all shards) stops.parts ∙ all_after shards stops.first.registered stops.before stops.after stops.first.all in
      subst (GivesUnlessDisk (λ (x : List Registered). x) (Err e)) (sym whole) (all_refused e stops.first.registered stops.after stops.refused)

  pub registers_none : (shards : List Registered) (tables : Tables) → IsRegistryOf shards tables → RegistersAll cap files records shards [] tables
  unfolding registered_all
  registers_none shards tables held = record { registered = shards; all = refl; tables = held }

  -- the shard files of a list, seen by `view`
  module _ {Y : Type 0} (view : Y → MDBShardFile) (shards : List Registered) (ys : List Y) (i : ℕ) where
    module _ (y : Y) (before after : Tables) (below : i < length ys) (is : y ≡ get_or ys i y) (so_far : RegistersAll cap files records shards (map view (take i ys)) before) where
      pub registers_more : ((registered : List Registered) → IsRegistryOf registered before → RegistersOne cap files records registered (view y) after)
          → RegistersAll cap files records shards (map view (take (i + 1) ys)) after
      registers_more step =
          let next = step so_far.registered so_far.tables in
          let list : map view (take (i + 1) ys) ≡ map view (take i ys) ++ view y ∷ [] =
          map_more view ys i y below ∙ ap (λ (x : Y). map view (take i ys) ++ view x ∷ []) (sym is) in
          record {
            registered = next.registered;
            all = ap (all shards) list ∙ all_last shards so_far.registered next.registered (map view (take i ys)) (view y) so_far.all next.one;
            tables = next.tables;
          }

      first_is : (registered : List Registered) → first_registered cap files records registered (map view (drop i ys)) ≡ one registered (view y)
      unfolding first_registered
      first_is registered =
          ap (λ (l : List Y). first_registered cap files records registered (map view l)) (drop_more ys i y below) ∙ ap (λ (x : Y). one registered (view x)) (sym is)

      pub registers_stop : (e : StoreError) → ((registered : List Registered) → IsRegistryOf registered before → IsRegistryOf registered after)
          → ((registered : List Registered) → IsRegistryOf registered before → GivesUnlessDisk (λ (x : List Registered). x) (Err e) (one registered (view y)))
          → Stops cap files records shards (map view ys) after e
      registers_stop e kept refused = record {
        before = map view (take i ys);
        after = map view (drop i ys);
        parts = ap (map view) (sym (take-append-drop i ys)) ∙ map-append view (take i ys) (drop i ys);
        first = record { registered = so_far.registered; all = so_far.all; tables = kept so_far.registered so_far.tables };
        refused = subst (GivesUnlessDisk (λ (x : List Registered). x) (Err e)) (sym (first_is so_far.registered)) (refused so_far.registered so_far.tables);
      }

    pub registers_end : (tables : Tables) → length ys ≤ i → RegistersAll cap files records shards (map view (take i ys)) tables → RegistersAll cap files records shards (map view ys) tables
    registers_end tables end so_far = subst (λ (l : List Y). RegistersAll cap files records shards (map view l) tables) (take_all i ys end) so_far

-- ---- a shard file whose hash is not registered

module _ (cap : ℕ) (files : Files) (file : MDBShardFile) (before after : Tables) where
  -- the items of its table were read if the disk is observable, and it was registered with them
  abbrev IsEntered : Type 0 → Type 0
  IsEntered observable =
      (items : List (ℕ × ℕ × ℕ)) × (observable → items_in files file ≡ Ok items)
      × ((shards : List Registered) (records : ShardRecords) → IsRegistryOf shards before → IsRegistryOf (with_shard cap shards file items records) after)

  module _ (is_new : (shards : List Registered) → IsRegistryOf shards before → is_registered file.shard_hash shards ≡ false)
      (few : (shards : List Registered) → IsRegistryOf shards before → nat_le (2 ^ 32 - 1) (length shards) ≡ false) where
    pub new_registered : (observable : Type 0) (result : Result (Unit {0}) StoreError) → OnOk result (IsEntered observable) → observable
        → OnOk result ((shards : List Registered) (records : MDBShardFile → ShardRecords) → IsRegistryOf shards before → RegistersOne cap files records shards file after)
    new_registered observable (Ok x) h told = λ shards records held. record {
      registered = with_shard cap shards file h.0 (records file);
      one = one_read cap files records shards file h.0 (is_new shards held) (few shards held) (h.1 told);
      tables = h.2 shards (records file) held;
    }
    new_registered observable (Err e) h told = tt

    pub new_refused : (result : Result (Unit {0}) StoreError) → IfErr result (λ e. GivesUnlessDisk (λ (x : List (ℕ × ℕ × ℕ)). x) (Err e) (items_in files file))
        → IfErr result (λ e. (shards : List Registered) (records : MDBShardFile → ShardRecords) → IsRegistryOf shards before → GivesUnlessDisk (λ (x : List Registered). x) (Err e) (registered_one cap files records shards file))
    new_refused (Ok x) h = tt
    new_refused (Err e) h = λ shards records held. one_unread cap files records shards file e (is_new shards held) (few shards held) h

  pub new_grows : (observable : Type 0) (result : Result (Unit {0}) StoreError) → OnOk result (IsEntered observable) → OnErr result ((shards : List Registered) → IsRegistryOf shards before → IsRegistryOf shards after)
      → (shards : List Registered) → IsRegistryOf shards before → (more : List Registered) × IsRegistryOf (shards ++ more) after
  new_grows observable (Ok x) h kept shards held =
      (record { file = file; items = h.0; records = ([], []); entered = nat_lt (word_count shards) cap } ∷ [], h.2 shards ([], []) held)
  new_grows observable (Err e) h kept shards held = ([], subst (λ (l : List Registered). IsRegistryOf l after) (sym (append-nil shards)) (kept shards held))
