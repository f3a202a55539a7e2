-- The look-up of chunks, as xorbs are put last.
use Rattle.std.proofs.Common.{arith, ◌≡◌, ◌∙◌, ℕ, suc, ◌+◌, ◌<◌, ◌≤◌, Bool, true, false, cond, List, [], ◌∷◌, ◌++◌, filter, length, map, nat_eq, Option, None, Some, option_map, refl, sym, ap, get_or, take}
use Rattle.std.proofs.lemmas.List.Elements.{filter-append}
use Rattle.std.proofs.lemmas.List.{length-map, length-take-le, map-append, take_all, take_more}
use Rattle.std.specs.Cmp.Lexicographic.{pointwise}
use Rattle.std.specs.Map.{lookup}
use Rattle.xet_shard_format.specs.declared.record.MDBXorbInfo.{MDBXorbInfo}
use Rattle.xet_shard_format.specs.declared.record.XorbChunkSequenceEntry.{XorbChunkSequenceEntry}
use Rattle.xet_shard.specs.LastPlaces.{last_at}
use Rattle.xet_shard.specs.internal.LastPlaces.{noted}
use Rattle.xet_shard_format.specs.Records.{xorb_rows, xorb_section}
use Rattle.xet_shard.specs.Runs.{digests, last_place}
use Rattle.xet_shard_format.specs.theorems.Counts.{length-section}

-- one more hash at the end
last_place-more : (h : List ℕ) (xs : List (List ℕ)) (x : List ℕ) → last_place h (xs ++ x ∷ []) ≡ cond (pointwise nat_eq x h) (Some (length xs)) (last_place h xs)
unfolding last_place
last_place-more h [] x = refl
last_place-more h (y ∷ ys) x = by (pointwise nat_eq x h) (last_place h (ys ++ x ∷ [])) (last_place-more h ys x)
  where
    at : Option ℕ → Option ℕ
    at r = elim r [ Some i ↦ Some (suc i) | None ↦ cond (pointwise nat_eq y h) (Some 0) None ]

    by : (b : Bool) (r : Option ℕ) → r ≡ cond b (Some (length ys)) (last_place h ys) → at r ≡ cond b (Some (suc (length ys))) (at (last_place h ys))
    by true r e = ap at e
    by false r e = ap at e

-- one more chunk is noted
pub noted-more : (index : ℕ) (cs : List XorbChunkSequenceEntry) (c : XorbChunkSequenceEntry) (h : List ℕ) (before : Option (ℕ × ℕ))
    → noted index (cs ++ c ∷ []) h before ≡ cond (pointwise nat_eq c.chunk_hash h) (Some (index, length cs)) (noted index cs h before)
unfolding noted
noted-more index cs c h before =
    ap from (ap (last_place h) (map-append (λ (x : XorbChunkSequenceEntry). x.chunk_hash) cs (c ∷ [])) ∙ last_place-more h (digests cs) c.chunk_hash)
    ∙ by (pointwise nat_eq c.chunk_hash h)
  where
    from : Option ℕ → Option (ℕ × ℕ)
    from r = elim r [ Some i ↦ Some (index, i) | None ↦ before ]

    by : (b : Bool) → from (cond b (Some (length (digests cs))) (last_place h (digests cs))) ≡ cond b (Some (index, length cs)) (from (last_place h (digests cs)))
    by true = ap (λ n. Some (index, n)) (length-map cs _)
    by false = refl

-- one more xorb at the end
pub last_at-more : (h : List ℕ) (bs : List MDBXorbInfo) (b : MDBXorbInfo) → last_at h (bs ++ b ∷ []) ≡ noted (length bs) b.chunks h (last_at h bs)
unfolding last_at noted
last_at-more h [] b = by (last_place h (digests b.chunks))
  where
    by : (r : Option ℕ) → option_map {U = ℕ × ℕ} (λ i. (0, i)) r ≡ elim r [ Some i ↦ Some (0, i) | None ↦ None ]
    by None = refl
    by (Some i) = refl
last_at-more h (x ∷ xs) b = by (last_place h (digests b.chunks)) (last_at h (xs ++ b ∷ [])) (last_at-more h xs b)
  where
    at : Option (ℕ × ℕ) → Option (ℕ × ℕ)
    at r = elim r [ Some found ↦ Some (suc found.0, found.1) | None ↦ option_map {U = ℕ × ℕ} (λ i. (0, i)) (last_place h (digests x.chunks)) ]

    by : (p : Option ℕ) (r : Option (ℕ × ℕ)) → r ≡ elim p [ Some i ↦ Some (length xs, i) | None ↦ last_at h xs ]
        → at r ≡ elim p [ Some i ↦ Some (suc (length xs), i) | None ↦ at (last_at h xs) ]
    by None r e = ap at e
    by (Some i) r e = ap at e

pub noted-none : (index : ℕ) (h : List ℕ) (before : Option (ℕ × ℕ)) → noted index [] h before ≡ before
unfolding noted last_place
noted-none index h before = refl

-- the chunk at a place is noted
pub noted-step : (index : ℕ) (cs : List XorbChunkSequenceEntry) (i : ℕ) (c : XorbChunkSequenceEntry) (h : List ℕ) (before now next : Option (ℕ × ℕ)) → i < length cs → c ≡ get_or cs i c
    → next ≡ cond (pointwise nat_eq c.chunk_hash h) (Some (index, i)) now → now ≡ noted index (take i cs) h before → next ≡ noted index (take (i + 1) cs) h before
noted-step index cs i c h before now next below is step so_far =
    let at : length (take i cs) ≡ i = length-take-le i cs (omega arith) in
    let whole : take (i + 1) cs ≡ take i cs ++ c ∷ [] = take_more cs i c below ∙ ap (λ (x : XorbChunkSequenceEntry). take i cs ++ x ∷ []) (sym is) in
    step
    ∙ (λ j. cond (pointwise nat_eq c.chunk_hash h) (Some (index, sym at j)) (so_far j))
    ∙ sym (noted-more index (take i cs) c h before)
    ∙ sym (ap (λ (x : List XorbChunkSequenceEntry). noted index x h before) whole)

pub noted-all : (index : ℕ) (cs : List XorbChunkSequenceEntry) (i : ℕ) (h : List ℕ) (before : Option (ℕ × ℕ)) → length cs ≤ i → noted index (take i cs) h before ≡ noted index cs h before
noted-all index cs i h before le = ap (λ (x : List XorbChunkSequenceEntry). noted index x h before) (take_all i cs le)

-- a xorb that no other stood before
pub placed_last : (h : List ℕ) (old all : List MDBXorbInfo) (b : MDBXorbInfo) (before now : Option (ℕ × ℕ)) → all ≡ old ++ b ∷ [] → before ≡ last_at h old → now ≡ noted (length old) b.chunks h before → now ≡ last_at h all
placed_last h old all b before now whole was is = is ∙ ap (noted (length old) b.chunks h) was ∙ sym (last_at-more h old b) ∙ sym (ap (last_at h) whole)

-- the records that a walk has passed and those that are left, where one that stays comes
pub stays_next : {A X : Type 0} (shows : A → X) (test : X → Bool) (ys : List A) (y : A) → test (shows y) ≡ true → filter test (map shows (ys ++ y ∷ [])) ≡ filter test (map shows ys) ++ shows y ∷ []
stays_next shows test ys y stays =
    ap (filter test) (map-append shows ys (y ∷ [])) ∙ filter-append test (map shows ys) (shows y ∷ []) ∙ ap (λ (b : Bool). filter test (map shows ys) ++ cond b (shows y ∷ []) []) stays

pub rows_left : (test : MDBXorbInfo → Bool) (rest tail : List MDBXorbInfo) (b : MDBXorbInfo) (index n : ℕ) → rest ≡ b ∷ tail → test b ≡ true → index + length (xorb_section (filter test rest)) < n → index + 1 + length (xorb_section (filter test tail)) < n
rows_left test rest tail b index n is stays few =
    let now : filter test rest ≡ b ∷ filter test tail = ap (filter test) is ∙ ap (λ (t : Bool). cond t (b ∷ filter test tail) (filter test tail)) stays in
    omega (arith, few, ap (λ (bs : List MDBXorbInfo). length (xorb_section bs)) now, length-section xorb_rows b (filter test tail))

pub none_placed : (h : List ℕ) (es : List (List ℕ × (ℕ × ℕ))) → es ≡ [] → lookup {X = ℕ × ℕ} (pointwise nat_eq h) es ≡ last_at h []
unfolding last_at
none_placed h es empty = ap (lookup {X = ℕ × ℕ} (pointwise nat_eq h)) empty
