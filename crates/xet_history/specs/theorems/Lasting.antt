-- The record of a file that was added lasts, whatever the entries after it.
use Rattle.std.proofs.Common.{◌≡◌, ◌≢◌, ◌∙◌, ◌⊎◌, inl, inr, ℕ, zero, suc, Bool, true, false, not, cond, nat_eq, filter, List, [], ◌∷◌, ◌++◌, length, Option, Some, None, is_some, refl, sym, ap, subst, arith}
use Rattle.std.specs.Prelude.{Any}
use Rattle.std.specs.Cmp.Lexicographic.{bytes_decides, pointwise}
use Rattle.std.specs.List.{IsAmong}
use Rattle.std.specs.Ordering.{is_lt}
use Rattle.std.specs.declared.cmp.Ordering.{Ordering}
use Rattle.xet_hash.specs.Order.{hash_cmp}
use Rattle.xet_shard.specs.Held.{by_hash, with_last}
use Rattle.xet_shard.specs.theorems.Holding.{is_other}
use Rattle.xet_shard_format.specs.Records.{file_record_hash}
use Rattle.xet_shard_format.specs.Sorted.{put_in, sorted}
use Rattle.xet_shard_format.specs.declared.record.MDBFileInfo.{MDBFileInfo}
use Rattle.xet_folder.specs.Xorbs.{FileRecords, found}
use Rattle.xet_folder.specs.theorems.Tables.{found_either, found_here, found_kept}
use Rattle.xet_history.specs.Core.{Core, RegisteredShard, is_new, pending_hash, pending_shard}
use Rattle.xet_history.specs.History.{IsRight, Legal, after, after_all}
use Rattle.xet_history.specs.Lasting.{HasLasting, LastsIn}
use Rattle.xet_history.specs.declared.entry.Entry.{Entry}
use Rattle.xet_history.specs.declared.entry.Entry.TheVariants.{Query, Register, Complete, Flush, Fault}
use Rattle.xet_history.specs.theorems.Staying.{completed_cases, none_if_new, not_new_if_found, records_after_all, registered_cases, with_record}

-- ---- elements of lists

module _ {X : Type 0} where
  -- by whether it is the first
  pub first_or_later : {G : Type 0} (y : X) (xs : List X) (x : X) → (y ≡ x → G) → (IsAmong xs x → G) → IsAmong (y ∷ xs) x → G
  first_or_later y xs x here later (zero, (below, is)) = here (sym is)
  first_or_later y xs x here later (suc i, (below, is)) = later (i, (omega (arith, below), is))

  pub none_here : {G : Type 0} (x : X) → IsAmong [] x → G
  none_here x (i, (below, is)) = absurd (omega (arith, below))

  pub here_first : (y : X) (xs : List X) (x : X) → y ≡ x → IsAmong (y ∷ xs) x
  here_first y xs x same = (0, (omega arith, sym same))

  pub here_later : (y : X) (xs : List X) (x : X) → IsAmong xs x → IsAmong (y ∷ xs) x
  here_later y xs x (i, (below, is)) = (suc i, (omega (arith, below), is))

  pub here_more : (xs ys : List X) (x : X) → IsAmong xs x → IsAmong (xs ++ ys) x
  here_more [] ys x a = none_here x a
  here_more (y ∷ xs) ys x a = first_or_later y xs x (λ same. here_first y (xs ++ ys) x same) (λ b. here_later y (xs ++ ys) x (here_more xs ys x b)) a

  pub here_last : (xs : List X) (x : X) → IsAmong (xs ++ x ∷ []) x
  here_last [] x = here_first x [] x refl
  here_last (y ∷ xs) x = here_later y (xs ++ x ∷ []) x (here_last xs x)

  -- what passes a test stays
  pub here_filter : (test : X → Bool) (xs : List X) (x : X) → test x ≡ true → IsAmong xs x → IsAmong (filter test xs) x
  here_filter test [] x passes a = a
  here_filter test (y ∷ xs) x passes a = first_or_later y xs x
      (λ same. subst (λ (b : Bool). IsAmong (cond b (y ∷ filter test xs) (filter test xs)) x) (sym (ap test same ∙ passes)) (here_first y (filter test xs) x same))
      (λ b. go (test y) (here_filter test xs x passes b)) a
    where
      go : (b : Bool) → IsAmong (filter test xs) x → IsAmong (cond b (y ∷ filter test xs) (filter test xs)) x
      go true later = here_later y (filter test xs) x later
      go false later = later

  -- in another order
  module _ (cmp : X → X → Ordering) where
    put_here : (y : X) (xs : List X) → IsAmong (put_in cmp y xs) y
    unfolding put_in
    put_here y [] = here_first y [] y refl
    put_here y (z ∷ xs) =
        elim (is_lt (cmp z y)) as (λ (b : Bool). IsAmong (elim b as (λ _. List X) [ true ↦ z ∷ put_in cmp y xs | false ↦ y ∷ z ∷ xs ]) y) [
          | true ↦ here_later z (put_in cmp y xs) y (put_here y xs)
          | false ↦ here_first y (z ∷ xs) y refl
        ]

    put_other : (y : X) (xs : List X) (x : X) → IsAmong xs x → IsAmong (put_in cmp y xs) x
    unfolding put_in
    put_other y [] x a = none_here x a
    put_other y (z ∷ xs) x a =
        elim (is_lt (cmp z y)) as (λ (b : Bool). IsAmong (elim b as (λ _. List X) [ true ↦ z ∷ put_in cmp y xs | false ↦ y ∷ z ∷ xs ]) x) [
          | true ↦ first_or_later z xs x (λ same. here_first z (put_in cmp y xs) x same) (λ b. here_later z (put_in cmp y xs) x (put_other y xs x b)) a
          | false ↦ here_later y (z ∷ xs) x a
        ]

    pub here_sorted : (xs : List X) (x : X) → IsAmong xs x → IsAmong (sorted cmp xs) x
    unfolding sorted
    here_sorted [] x a = a
    here_sorted (y ∷ xs) x a = first_or_later y xs x (λ same. subst (λ (z : X). IsAmong (put_in cmp y (sorted cmp xs)) z) same (put_here y (sorted cmp xs)))
        (λ b. put_other y (sorted cmp xs) x (here_sorted xs x b)) a

  -- one with a property, among more
  pub any_more : (P : X → Type 0) (xs ys : List X) → Any P xs → Any P (xs ++ ys)
  any_more P xs ys (i, x, below, at, holds) = let a = here_more xs ys x (i, (below, sym at)) in (a.0, x, a.1.0, sym a.1.1, holds)

  pub any_last : (P : X → Type 0) (xs : List X) (x : X) → P x → Any P (xs ++ x ∷ [])
  any_last P xs x holds = let a = here_last xs x in (a.0, x, a.1.0, sym a.1.1, holds)

-- ---- each step

-- The record lasts, and its hash is recorded, so that no other record takes its place.
pub record Endures (c : Core) (f : MDBFileInfo) : Type 0 where
  pub lasts : LastsIn c f
  pub known : is_new c.records (file_record_hash f) ≡ false

-- a record of a known hash differs from one of a new hash
other_hash : (records : FileRecords) (f g : MDBFileInfo) → is_new records (file_record_hash f) ≡ false → is_new records (file_record_hash g) ≡ true → is_other file_record_hash (file_record_hash g) f ≡ true
other_hash records f g known new = go (pointwise nat_eq (file_record_hash f) (file_record_hash g)) refl
  where
    go : (b : Bool) → pointwise nat_eq (file_record_hash f) (file_record_hash g) ≡ b → not b ≡ true
    go false e = refl
    go true e =
        let same : file_record_hash f ≡ file_record_hash g = (bytes_decides (file_record_hash f) (file_record_hash g)).0 e in
        let bad : false ≡ true = sym known ∙ ap (is_new records) same ∙ new in absurd (cc bad)

-- a known hash stays known
known_still : (records added : FileRecords) (h : List ℕ) → is_new records h ≡ false → is_new (records ++ added) h ≡ false
known_still records added h known = go (found records h) refl known
  where
    go : (o : Option MDBFileInfo) → found records h ≡ o → not (is_some o) ≡ false → is_new (records ++ added) h ≡ false
    go None e bad = absurd (cc bad)
    go (Some x) e ok = not_new_if_found (records ++ added) h x (found_kept records added h x e)

endures_record : (c : Core) (f g : MDBFileInfo) → is_new c.records (file_record_hash g) ≡ true → Endures c f → Endures (with_record c g) f
endures_record c f g new e = record { lasts = go e.lasts; known = known_still c.records ((file_record_hash g, g) ∷ []) (file_record_hash f) e.known }
  where
    go : IsAmong c.pending.files f ⊎ Any (λ r. HasLasting r.contents f) c.shards → LastsIn (with_record c g) f
    go (inl a) = inl (here_more (filter (is_other file_record_hash (file_record_hash g)) c.pending.files) (g ∷ []) f
        (here_filter (is_other file_record_hash (file_record_hash g)) c.pending.files f (other_hash c.records f g e.known new) a))
    go (inr any) = inr any

endures_flush : (c : Core) (f : MDBFileInfo) (pass : ℕ) (shard : List ℕ) → Endures c f → Endures (after c (Flush pass shard)) f
endures_flush c f pass shard e = record { lasts = go e.lasts; known = e.known }
  where
    last : RegisteredShard
    last = record { hash = pending_hash c; contents = pending_shard c }

    go : IsAmong c.pending.files f ⊎ Any (λ r. HasLasting r.contents f) c.shards → LastsIn (after c (Flush pass shard)) f
    go (inl a) = inr (any_last (λ r. HasLasting r.contents f) c.shards last (record { among = here_sorted (λ x y. hash_cmp (file_record_hash x) (file_record_hash y)) c.pending.files f a; expiry = refl }))
    go (inr any) = inr (any_more (λ r. HasLasting r.contents f) c.shards (last ∷ []) any)

endures_after : (c : Core) (e : Entry) (f : MDBFileInfo) → Endures c f → Endures (after c e) f
endures_after c (Query pass hashes reply) f is = is
endures_after c (Register pass chunks next added) f is = registered_cases c chunks (λ (d : Core). Endures d f) (λ new. record { lasts = is.lasts; known = is.known }) (λ old. is)
endures_after c (Complete pass file added) f is = completed_cases c file (λ (d : Core). Endures d f) (λ new. endures_record c f file new is) (λ old. is)
endures_after c (Flush pass shard) f is = endures_flush c f pass shard is
endures_after c (Fault pass kind) f is = is

-- What endures does so whatever the entries.
pub endures_all : (c : Core) (es : List Entry) (f : MDBFileInfo) → Endures c f → Endures (after_all c es) f
endures_all c [] f is = is
endures_all c (e ∷ es) f is = endures_all (after c e) es f (endures_after c e f is)

-- ---- a file that was added

endures_added : (c : Core) (pass : ℕ) (f : MDBFileInfo) → is_new c.records (file_record_hash f) ≡ true → Endures (after c (Complete pass f true)) f
endures_added c pass f new = completed_cases c f (λ (d : Core). Endures d f)
    (λ _. record {
      lasts = inl (here_last (filter (is_other file_record_hash (file_record_hash f)) c.pending.files) f);
      known = not_new_if_found (c.records ++ (file_record_hash f, f) ∷ []) (file_record_hash f) f (found_here c.records (file_record_hash f) f (none_if_new c.records (file_record_hash f) new));
    })
    (λ old. let bad : true ≡ false = sym new ∙ old in absurd (cc bad))

-- In a legal history, each record of a file that was added endures.
pub added_endures : (tells : Bool) (c : Core) (es : List Entry) → Legal tells c es → (pass : ℕ) (file : MDBFileInfo) → IsAmong es (Complete pass file true) → Endures (after_all c es) file
added_endures tells c [] legal pass file a = none_here (Complete pass file true) a
added_endures tells c (e ∷ es) legal pass file a = first_or_later e es (Complete pass file true)
    (λ same. endures_all (after c e) es file (subst (λ (x : Entry). Endures (after c x) file) (sym same) (endures_added c pass file (sym (subst (λ (x : Entry). IsRight tells c x) same legal.0)))))
    (λ later. added_endures tells (after c e) es legal.1 pass file later) a

-- So it lasts.
pub added_lasts : (tells : Bool) (c : Core) (es : List Entry) → Legal tells c es → (pass : ℕ) (file : MDBFileInfo) → IsAmong es (Complete pass file true) → LastsIn (after_all c es) file
added_lasts tells c es legal pass file a = (added_endures tells c es legal pass file a).lasts

-- ---- a hash that becomes known

-- A file of this hash was added by one of these entries.
pub record IsAdded (es : List Entry) (h : List ℕ) : Type 0 where
  pub pass : ℕ
  pub file : MDBFileInfo
  pub among : IsAmong es (Complete pass file true)
  pub hash : file_record_hash file ≡ h

-- the entry by which a new hash becomes known
pub record AddsHash (e : Entry) (h : List ℕ) : Type 0 where
  pub pass : ℕ
  pub file : MDBFileInfo
  pub is : e ≡ Complete pass file true
  pub hash : file_record_hash file ≡ h

new_and_known : {G : Type 0} (records : FileRecords) (h : List ℕ) → is_new records h ≡ true → is_new records h ≡ false → G
new_and_known records h new known = let bad : true ≡ false = sym new ∙ known in absurd (cc bad)

-- with one record more
known_by_last : (records : FileRecords) (f : MDBFileInfo) (h : List ℕ) → is_new records h ≡ true → is_new (records ++ (file_record_hash f, f) ∷ []) h ≡ false → file_record_hash f ≡ h
known_by_last records f h new known = go (found (records ++ (file_record_hash f, f) ∷ []) h) refl known
  where
    either : (x : MDBFileInfo) → (found records h ≡ Some x) ⊎ ((file_record_hash f ≡ h) × (f ≡ x)) → file_record_hash f ≡ h
    either x (inl there) = new_and_known records h new (not_new_if_found records h x there)
    either x (inr same) = same.0

    go : (o : Option MDBFileInfo) → found (records ++ (file_record_hash f, f) ∷ []) h ≡ o → not (is_some o) ≡ false → file_record_hash f ≡ h
    go None e bad = absurd (cc bad)
    go (Some x) e ok = either x (found_either records (file_record_hash f) h f x e)

adds_hash : (tells : Bool) (c : Core) (e : Entry) (h : List ℕ) → IsRight tells c e → is_new c.records h ≡ true → is_new (after c e).records h ≡ false → AddsHash e h
adds_hash tells c (Query pass hashes reply) h right new known = new_and_known c.records h new known
adds_hash tells c (Register pass chunks next added) h right new known =
    registered_cases c chunks (λ (d : Core). is_new d.records h ≡ false → AddsHash (Register pass chunks next added) h) (λ _ k. new_and_known c.records h new k) (λ _ k. new_and_known c.records h new k) known
adds_hash tells c (Complete pass file added) h right new known =
    completed_cases c file (λ (d : Core). is_new d.records h ≡ false → AddsHash (Complete pass file added) h)
    (λ unknown k. record { pass = pass; file = file; is = ap (λ (b : Bool). Complete pass file b) (right ∙ unknown); hash = known_by_last c.records file h new k })
    (λ _ k. new_and_known c.records h new k) known
adds_hash tells c (Flush pass shard) h right new known = new_and_known c.records h new known
adds_hash tells c (Fault pass kind) h right new known = new_and_known c.records h new known

-- In a legal history, a hash that is new before and known after was added.
pub added_first : (tells : Bool) (c : Core) (es : List Entry) → Legal tells c es → (h : List ℕ) → is_new c.records h ≡ true → is_new (after_all c es).records h ≡ false → IsAdded es h
added_first tells c [] legal h new known = new_and_known c.records h new known
added_first tells c (e ∷ es) legal h new known = go (is_new (after c e).records h) refl (λ still. added_first tells (after c e) es legal.1 h still known)
  where
    later : IsAdded es h → IsAdded (e ∷ es) h
    later a = record { pass = a.pass; file = a.file; among = here_later e es (Complete a.pass a.file true) a.among; hash = a.hash }

    here : AddsHash e h → IsAdded (e ∷ es) h
    here a = record { pass = a.pass; file = a.file; among = here_first e es (Complete a.pass a.file true) a.is; hash = a.hash }

    go : (b : Bool) → is_new (after c e).records h ≡ b → (is_new (after c e).records h ≡ true → IsAdded es h) → IsAdded (e ∷ es) h
    go true still rest = later (rest still)
    go false gone rest = here (adds_hash tells c e h legal.0 new gone)

-- The hash of a file that an entry records is known.
pub known_completed : (c : Core) (es : List Entry) (pass : ℕ) (f : MDBFileInfo) (added : Bool) → IsAmong es (Complete pass f added) → is_new (after_all c es).records (file_record_hash f) ≡ false
known_completed c [] pass f added a = none_here (Complete pass f added) a
known_completed c (e ∷ es) pass f added a = first_or_later e es (Complete pass f added) here (λ later. known_completed (after c e) es pass f added later) a
  where
    at : is_new (after c (Complete pass f added)).records (file_record_hash f) ≡ false
    at = completed_cases c f (λ (d : Core). is_new d.records (file_record_hash f) ≡ false)
        (λ new. not_new_if_found (c.records ++ (file_record_hash f, f) ∷ []) (file_record_hash f) f (found_here c.records (file_record_hash f) f (none_if_new c.records (file_record_hash f) new)))
        (λ old. old)

    here : e ≡ Complete pass f added → is_new (after_all c (e ∷ es)).records (file_record_hash f) ≡ false
    here same =
        let prefix = records_after_all (after c e) es in
        let now : is_new (after c e).records (file_record_hash f) ≡ false = subst (λ (x : Entry). is_new (after c x).records (file_record_hash f) ≡ false) (sym same) at in
        subst (λ (r : FileRecords). is_new r (file_record_hash f) ≡ false) prefix.1 (known_still (after c e).records prefix.0 (file_record_hash f) now)
