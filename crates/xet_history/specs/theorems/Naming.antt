-- A xorb that an entry lists is named by what is pending, or by a registered shard.
use Rattle.std.proofs.Common.{◌≡◌, ◌∙◌, ◌⊎◌, inl, inr, Bool, true, false, not, nat_eq, filter, ℕ, List, [], ◌∷◌, ◌++◌, Option, Some, None, is_some, refl, sym, ap}
use Rattle.std.specs.Prelude.{Any}
use Rattle.std.specs.Cmp.Lexicographic.{bytes_decides, pointwise}
use Rattle.xet_hash.specs.Merkle.{xorb_hash}
use Rattle.xet_hash.specs.Order.{hash_cmp}
use Rattle.xet_shard.specs.Held.{with_last}
use Rattle.xet_shard.specs.theorems.Holding.{is_other}
use Rattle.xet_shard_format.specs.Records.{xorb_record_hash}
use Rattle.xet_shard_format.specs.declared.record.MDBXorbInfo.{MDBXorbInfo}
use Rattle.xet_xorb.specs.Raw.{xorb_record}
use Rattle.xet_folder.specs.Xorbs.{Xorbs, found}
use Rattle.xet_folder.specs.theorems.Tables.{found_either}
use Rattle.xet_history.specs.Core.{Core, RegisteredShard, is_new, pending_hash, pending_shard}
use Rattle.xet_history.specs.History.{after, after_all}
use Rattle.xet_history.specs.declared.entry.Entry.{Entry}
use Rattle.xet_history.specs.declared.entry.Entry.TheVariants.{Query, Register, Complete, Flush, Fault}
use Rattle.xet_history.specs.theorems.Lasting.{any_last, any_more, here_filter, here_last, here_more, here_sorted}
use Rattle.xet_history.specs.theorems.Staying.{Leaves, completed_cases, not_new_if_found, registered_cases, with_xorb}

-- one of these records is that of the xorb
abbrev pub OfXorb : List MDBXorbInfo → List ℕ → Type 0
OfXorb blocks h = Any (λ b. xorb_record_hash b ≡ h) blocks

-- a registered shard has its record
abbrev pub InShard : Core → List ℕ → Type 0
InShard c h = Any (λ r. OfXorb r.contents.blocks h) c.shards

abbrev pub Names : Core → List ℕ → Type 0
Names c h = OfXorb c.pending.blocks h ⊎ InShard c h

-- ---- the records of a list

of_last : (xs : List MDBXorbInfo) (x : MDBXorbInfo) → OfXorb (with_last xorb_record_hash xs x) (xorb_record_hash x)
of_last xs x = let a = here_last (filter (is_other xorb_record_hash (xorb_record_hash x)) xs) x in (a.0, x, a.1.0, sym a.1.1, refl)

of_more : (xs : List MDBXorbInfo) (x : MDBXorbInfo) (h : List ℕ) → OfXorb xs h → OfXorb (with_last xorb_record_hash xs x) h
of_more xs x h (i, b, below, at, is) = go (pointwise nat_eq (xorb_record_hash b) (xorb_record_hash x)) refl
  where
    go : (t : Bool) → pointwise nat_eq (xorb_record_hash b) (xorb_record_hash x) ≡ t → OfXorb (with_last xorb_record_hash xs x) h
    go true same =
        let a = here_last (filter (is_other xorb_record_hash (xorb_record_hash x)) xs) x in
        (a.0, x, a.1.0, sym a.1.1, sym ((bytes_decides (xorb_record_hash b) (xorb_record_hash x)).0 same) ∙ is)
    go false other =
        let kept = here_filter (is_other xorb_record_hash (xorb_record_hash x)) xs b (ap not other) (i, (below, sym at)) in
        let a = here_more (filter (is_other xorb_record_hash (xorb_record_hash x)) xs) (x ∷ []) b kept in
        (a.0, b, a.1.0, sym a.1.1, is)

-- ---- each step

names_flush : (c : Core) (h : List ℕ) (pass : ℕ) (shard : List ℕ) → Names c h → Names (after c (Flush pass shard)) h
names_flush c h pass shard (inl (i, b, below, at, is)) =
    let a = here_sorted (λ x y. hash_cmp (xorb_record_hash x) (xorb_record_hash y)) c.pending.blocks b (i, (below, sym at)) in
    inr (any_last (λ r. OfXorb r.contents.blocks h) c.shards (record { hash = pending_hash c; contents = pending_shard c }) (a.0, b, a.1.0, sym a.1.1, is))
names_flush c h pass shard (inr any) = inr (any_more (λ r. OfXorb r.contents.blocks h) c.shards (record { hash = pending_hash c; contents = pending_shard c } ∷ []) any)

names_xorb : (c : Core) (leaves : Leaves) (h : List ℕ) → Names c h → Names (with_xorb c leaves) h
names_xorb c leaves h (inl any) = inl (of_more c.pending.blocks (xorb_record (xorb_hash leaves) leaves) h any)
names_xorb c leaves h (inr any) = inr any

names_after : (c : Core) (e : Entry) (h : List ℕ) → Names c h → Names (after c e) h
names_after c (Query pass hashes reply) h is = is
names_after c (Register pass chunks next added) h is = registered_cases c chunks (λ (d : Core). Names d h) (λ new. names_xorb c chunks h is) (λ old. is)
names_after c (Complete pass file added) h is = completed_cases c file (λ (d : Core). Names d h) (λ new. is) (λ old. is)
names_after c (Flush pass shard) h is = names_flush c h pass shard is
names_after c (Fault pass kind) h is = is

names_all : (c : Core) (es : List Entry) (h : List ℕ) → Names c h → Names (after_all c es) h
names_all c [] h is = is
names_all c (e ∷ es) h is = names_all (after c e) es h (names_after c e h is)

-- ---- a xorb that becomes listed

new_and_listed : {G : Type 0} (xorbs : Xorbs) (h : List ℕ) → is_new xorbs h ≡ true → is_new xorbs h ≡ false → G
new_and_listed xorbs h new listed = let bad : true ≡ false = sym new ∙ listed in absurd (cc bad)

listed_by_last : (xorbs : Xorbs) (k : List ℕ) (leaves : Leaves) (h : List ℕ) → is_new xorbs h ≡ true → is_new (xorbs ++ (k, leaves) ∷ []) h ≡ false → k ≡ h
listed_by_last xorbs k leaves h new listed = go (found (xorbs ++ (k, leaves) ∷ []) h) refl listed
  where
    either : (x : Leaves) → (found xorbs h ≡ Some x) ⊎ ((k ≡ h) × (leaves ≡ x)) → k ≡ h
    either x (inl there) = new_and_listed xorbs h new (not_new_if_found xorbs h x there)
    either x (inr same) = same.0

    go : (o : Option Leaves) → found (xorbs ++ (k, leaves) ∷ []) h ≡ o → not (is_some o) ≡ false → k ≡ h
    go None e bad = absurd (cc bad)
    go (Some x) e ok = either x (found_either xorbs k h leaves x e)

names_here : (c : Core) (leaves : Leaves) (h : List ℕ) → xorb_hash leaves ≡ h → Names (with_xorb c leaves) h
names_here c leaves h same =
    let (i, b, below, at, is) = of_last c.pending.blocks (xorb_record (xorb_hash leaves) leaves) in inl (i, b, below, at, is ∙ same)

names_step : (c : Core) (e : Entry) (h : List ℕ) → is_new c.xorbs h ≡ true → is_new (after c e).xorbs h ≡ false → Names (after c e) h
names_step c (Query pass hashes reply) h new listed = new_and_listed c.xorbs h new listed
names_step c (Register pass chunks next added) h new listed = registered_cases c chunks (λ (d : Core). is_new d.xorbs h ≡ false → Names d h)
    (λ _ l. names_here c chunks h (listed_by_last c.xorbs (xorb_hash chunks) chunks h new l)) (λ _ l. new_and_listed c.xorbs h new l) listed
names_step c (Complete pass file added) h new listed =
    completed_cases c file (λ (d : Core). is_new d.xorbs h ≡ false → Names d h) (λ _ l. new_and_listed c.xorbs h new l) (λ _ l. new_and_listed c.xorbs h new l) listed
names_step c (Flush pass shard) h new listed = new_and_listed c.xorbs h new listed
names_step c (Fault pass kind) h new listed = new_and_listed c.xorbs h new listed

-- A xorb that was not listed before the entries, and is after them, is named then.
pub listed_named : (c : Core) (es : List Entry) (h : List ℕ) → is_new c.xorbs h ≡ true → is_new (after_all c es).xorbs h ≡ false → Names (after_all c es) h
listed_named c [] h new listed = new_and_listed c.xorbs h new listed
listed_named c (e ∷ es) h new listed = go (is_new (after c e).xorbs h) refl (λ still. listed_named (after c e) es h still listed)
  where
    go : (b : Bool) → is_new (after c e).xorbs h ≡ b → (is_new (after c e).xorbs h ≡ true → Names (after_all (after c e) es) h) → Names (after_all (after c e) es) h
    go true still rest = rest still
    go false gone rest = names_all (after c e) es h (names_step c e h new gone)
