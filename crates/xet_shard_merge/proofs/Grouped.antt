-- The groups of a merge have exactly the records of the shards that they took.
use Rattle.std.proofs.Common.{◌≡◌, ◌∙◌, ◌⊎◌, inl, inr, ℕ, Bool, true, false, cond, nat_eq, List, [], ◌∷◌, filter, is_none, None, Option, Some, refl, sym, ap, subst}
use Rattle.std.proofs.lemmas.List.Elements.{All-from_recursion}
use Rattle.std.specs.Cmp.Lexicographic.{bytes_decides, pointwise}
use Rattle.std.specs.List.{AllByRecursion, IsAmong}
use Rattle.xet_shard.specs.Held.{record_of}
use Rattle.xet_shard.specs.Union.{Agree, ShardRecords}
use Rattle.xet_shard_directory.specs.declared.shard_file.MDBShardFile.{MDBShardFile}
use Rattle.xet_shard_format.specs.Records.{file_record_hash, xorb_record_hash}
use Rattle.xet_shard_format.specs.declared.record.MDBFileInfo.{MDBFileInfo}
use Rattle.xet_shard_format.specs.declared.record.MDBXorbInfo.{MDBXorbInfo}
use Rattle.xet_shard_merge.specs.Groups.{Agrees, Group, Groups, IsOffered, IsPlain, Offered, alone, both, if_open, joined}
use Rattle.xet_shard_merge.specs.Records.{HasRecordsOf, IsTakenIn, IsTakenInto, IsTakenOrSkipped}
use Rattle.xet_shard_merge.proofs.Among.{among_all, among_cons, among_either, among_filter, among_first, among_later, among_left, among_none, among_one, among_right, filter_among}

-- ---- records of which some are there

module _ {X : Type 0} (hash : X → List ℕ) where
  found_among : (h : List ℕ) (xs : List X) (x : X) → record_of hash h xs ≡ Some x → IsAmong xs x × (hash x ≡ h)
  found_among h [] x found = absurd (cc found)
  found_among h (y ∷ ys) x found = by (pointwise nat_eq h (hash y)) refl found (λ rest. found_among h ys x rest)
    where
      by : (t : Bool) → pointwise nat_eq h (hash y) ≡ t → cond t (Some y) (record_of hash h ys) ≡ Some x → (record_of hash h ys ≡ Some x → IsAmong ys x × (hash x ≡ h)) → IsAmong (y ∷ ys) x × (hash x ≡ h)
      by true test is later =
          let same : y ≡ x = cc is in (subst (IsAmong (y ∷ ys)) same (among_first y ys), ap hash (sym same) ∙ sym ((bytes_decides h (hash y)).0 test))
      by false test is later = (among_later y ys x (later is).0, (later is).1)

  -- one of the second list is there, or an equal one of the first
  both_right : (xs ys : List X) → Agree hash xs ys → (y : X) → IsAmong ys y → IsAmong (both hash xs ys) y
  both_right xs ys agree y a = by (record_of hash (hash y) xs) refl
    where
      Same : X → Type 0
      Same x = AllByRecursion (λ z. hash x ≡ hash z → x ≡ z) ys

      is_new : X → Bool
      is_new z = is_none (record_of hash (hash z) xs)

      by : (r : Option X) → record_of hash (hash y) xs ≡ r → IsAmong (both hash xs ys) y
      by None none = among_right xs (filter is_new ys) y (among_filter is_new ys y a (ap is_none none))
      by (Some x) is =
          let found = found_among (hash y) xs x is in
          let each : Same x = among_all Same xs (All-from_recursion Same xs agree) x found.0 in
          let same : hash x ≡ hash y → x ≡ y = among_all (λ z. hash x ≡ hash z → x ≡ z) ys (All-from_recursion (λ z. hash x ≡ hash z → x ≡ z) ys each) y a in
          subst (IsAmong (both hash xs ys)) (same found.1) (among_left xs (filter is_new ys) x found.0)

  both_either : (xs ys : List X) (x : X) → IsAmong (both hash xs ys) x → IsAmong xs x ⊎ IsAmong ys x
  both_either xs ys x a = by (among_either xs (filter is_new ys) x a)
    where
      is_new : X → Bool
      is_new z = is_none (record_of hash (hash z) xs)

      by : IsAmong xs x ⊎ IsAmong (filter is_new ys) x → IsAmong xs x ⊎ IsAmong ys x
      by (inl old) = inl old
      by (inr new) = inr (filter_among is_new ys x new).0

-- ---- a group with one more shard

into_joined : (o p : Offered) (records more : ShardRecords) (g : Group) → IsTakenInto o records g → IsTakenInto o records (joined g p.file more)
into_joined o p records more g is = record {
  plain = is.plain;
  taken = among_left g.taken (p.file ∷ []) o.file is.taken;
  xorbs = λ x a. among_left g.records.blocks _ x (is.xorbs x a);
  files = λ f a. among_left g.records.files _ f (is.files f a);
}

module _ (o : Offered) (records : ShardRecords) (plain : IsPlain o records) where
  into_alone : IsTakenInto o records (alone o.file o.length records)
  into_alone = record { plain = plain; taken = among_first o.file []; xorbs = λ x a. a; files = λ f a. a }

  joins_group : (g : Group) → Agrees g.records records → IsTakenInto o records (joined g o.file records)
  joins_group g agrees = record {
    plain = plain;
    taken = among_right g.taken (o.file ∷ []) o.file (among_first o.file []);
    xorbs = both_right xorb_record_hash g.records.blocks records.0 agrees.0;
    files = both_right file_record_hash g.records.files records.1 agrees.1;
  }

-- ---- where a shard is taken

module _ (target : ℕ) where
  -- what the open group has taken, it keeps
  taken_stays : (o : Offered) (records : ShardRecords) (h : Group) → IsTakenInto o records h → (os : List Offered) (groups : List Group) (skipped : List MDBShardFile)
      → Groups target (Some h) os groups skipped → IsTakenIn groups o records
  unfolding Groups
  taken_stays o records h is [] groups skipped (all, none) = (h, subst (λ (gs : List Group). IsAmong gs h) (sym all) (among_first h []), is)
  taken_stays o records h is (p ∷ os) groups skipped (inl (skip, (rest, last, more))) = taken_stays o records h is os groups rest more
  taken_stays o records h is (p ∷ os) groups skipped (inr (inl (read, begins, more))) =
      let opened : Some h ≡ None = begins.is_open in absurd (cc opened)
  taken_stays o records h is (p ∷ os) groups skipped (inr (inr (inl (g, read, rest, ends, first, more)))) =
      let opened : Some h ≡ Some g = ends.is_open in
      let same : h ≡ g = cc opened in
      (h, subst (λ (gs : List Group). IsAmong gs h) (sym first) (subst (λ (x : Group). IsAmong (x ∷ rest) h) same (among_first h rest)), is)
  taken_stays o records h is (p ∷ os) groups skipped (inr (inr (inr (g, read, joins, more)))) =
      let opened : Some h ≡ Some g = joins.is_open in
      let same : h ≡ g = cc opened in
      taken_stays o records (joined g p.file read) (into_joined o p records read g (subst (IsTakenInto o records) same is)) os groups skipped more

  -- the first of the shards is skipped, or it is taken; so is each of the others
  module _ (p : Offered) (os : List Offered) (groups : List Group) (skipped : List MDBShardFile) where
    first_skipped : (rest : List MDBShardFile) → skipped ≡ p.file ∷ rest → ((o : Offered) → IsAmong os o → IsTakenOrSkipped groups rest o) → (o : Offered) → IsAmong (p ∷ os) o → IsTakenOrSkipped groups skipped o
    first_skipped rest last others o a = by (among_cons p os o a)
      where
        one_more : IsTakenOrSkipped groups rest o → IsTakenOrSkipped groups skipped o
        one_more (inl old) = inl (subst (λ (l : List MDBShardFile). IsAmong l o.file) (sym last) (among_later p.file rest o.file old))
        one_more (inr taken) = inr taken

        by : (o ≡ p) ⊎ IsAmong os o → IsTakenOrSkipped groups skipped o
        by (inl same) = inl (subst (λ (l : List MDBShardFile). IsAmong l o.file) (sym last) (subst (λ (x : Offered). IsAmong (p.file ∷ rest) x.file) (sym same) (among_first p.file rest)))
        by (inr later) = one_more (others o later)

    first_taken : (read : ShardRecords) → IsTakenIn groups p read → ((o : Offered) → IsAmong os o → IsTakenOrSkipped groups skipped o) → (o : Offered) → IsAmong (p ∷ os) o → IsTakenOrSkipped groups skipped o
    first_taken read is others o a = by (among_cons p os o a)
      where
        by : (o ≡ p) ⊎ IsAmong os o → IsTakenOrSkipped groups skipped o
        by (inl same) = inr (read, subst (λ (x : Offered). IsTakenIn groups x read) (sym same) is)
        by (inr later) = others o later

  group_behind : (g : Group) (rest groups : List Group) → groups ≡ g ∷ rest → (skipped : List MDBShardFile) (o : Offered) → IsTakenOrSkipped rest skipped o → IsTakenOrSkipped groups skipped o
  group_behind g rest groups first skipped o (inl old) = inl old
  group_behind g rest groups first skipped o (inr (records, (h, among, is))) = inr (records, (h, subst (λ (gs : List Group). IsAmong gs h) (sym first) (among_later g rest h among), is))

  -- each shard that is offered is skipped, or it is taken
  pub taken_or_skipped : (current : Option Group) (os : List Offered) (groups : List Group) (skipped : List MDBShardFile) → Groups target current os groups skipped → (o : Offered) → IsAmong os o → IsTakenOrSkipped groups skipped o
  unfolding Groups
  taken_or_skipped current [] groups skipped h = λ o a. absurd (among_none o a)
  taken_or_skipped current (p ∷ os) groups skipped (inl (skip, (rest, last, more))) = first_skipped p os groups skipped rest last (taken_or_skipped current os groups rest more)
  taken_or_skipped current (p ∷ os) groups skipped (inr (inl (read, begins, more))) =
      first_taken p os groups skipped read (taken_stays p read (alone p.file p.length read) (into_alone p read begins.plain) os groups skipped more)
      (taken_or_skipped (Some (alone p.file p.length read)) os groups skipped more)
  taken_or_skipped current (p ∷ os) groups skipped (inr (inr (inl (g, read, rest, ends, first, more)))) =
      let one = taken_stays p read (alone p.file p.length read) (into_alone p read ends.plain) os rest skipped more in
      let behind : IsAmong groups one.0 = subst (λ (gs : List Group). IsAmong gs one.0) (sym first) (among_later g rest one.0 one.1) in
      first_taken p os groups skipped read (one.0, behind, one.2)
      (λ o a. group_behind g rest groups first skipped o (taken_or_skipped (Some (alone p.file p.length read)) os rest skipped more o a))
  taken_or_skipped current (p ∷ os) groups skipped (inr (inr (inr (g, read, joins, more)))) =
      first_taken p os groups skipped read (taken_stays p read (joined g p.file read) (joins_group p read joins.plain g joins.agrees) os groups skipped more)
      (taken_or_skipped (Some (joined g p.file read)) os groups skipped more)

  offered_later : (p : Offered) (os : List Offered) (s : MDBShardFile) → IsOffered os s → IsOffered (p ∷ os) s
  offered_later p os s is = (is.0, among_later p os is.0 is.1, is.2)

  -- each shard that is skipped was offered
  pub skipped_offered : (current : Option Group) (os : List Offered) (groups : List Group) (skipped : List MDBShardFile) → Groups target current os groups skipped → (s : MDBShardFile) → IsAmong skipped s → IsOffered os s
  unfolding Groups
  skipped_offered current [] groups skipped (are, none) s a = absurd (among_none s (subst (λ (l : List MDBShardFile). IsAmong l s) none a))
  skipped_offered current (p ∷ os) groups skipped (inl (skip, (rest, last, more))) s a =
      by (among_cons p.file rest s (subst (λ (l : List MDBShardFile). IsAmong l s) last a)) (λ b. skipped_offered current os groups rest more s b)
    where
      by : (s ≡ p.file) ⊎ IsAmong rest s → (IsAmong rest s → IsOffered os s) → IsOffered (p ∷ os) s
      by (inl same) behind = (p, among_first p os, same)
      by (inr b) behind = offered_later p os s (behind b)
  skipped_offered current (p ∷ os) groups skipped (inr (inl (read, begins, more))) s a = offered_later p os s (skipped_offered (Some (alone p.file p.length read)) os groups skipped more s a)
  skipped_offered current (p ∷ os) groups skipped (inr (inr (inl (g, read, rest, ends, first, more)))) s a = offered_later p os s (skipped_offered (Some (alone p.file p.length read)) os rest skipped more s a)
  skipped_offered current (p ∷ os) groups skipped (inr (inr (inr (g, read, joins, more)))) s a = offered_later p os s (skipped_offered (Some (joined g p.file read)) os groups skipped more s a)

-- ---- what the groups have

module _ (target : ℕ) (all : List Offered) where
  abbrev HasIfOpen : Option Group → Type 0
  HasIfOpen None = Unit {0}
  HasIfOpen (Some g) = HasRecordsOf all g

  module _ (o : Offered) (records : ShardRecords) (among : IsAmong all o) (plain : IsPlain o records) where
    alone_has : HasRecordsOf all (alone o.file o.length records)
    alone_has = record {
      taken = λ s a. (o, records, among, among_one o.file s a, into_alone o records plain);
      xorbs = λ x a. (o, records, among, into_alone o records plain, a);
      files = λ f a. (o, records, among, into_alone o records plain, a);
    }

    joined_has : (g : Group) → Agrees g.records records → HasRecordsOf all g → HasRecordsOf all (joined g o.file records)
    joined_has g agrees has = record {
      taken = λ s a. of_taken s (among_either g.taken (o.file ∷ []) s a);
      xorbs = λ x a. of_xorbs x (both_either xorb_record_hash g.records.blocks records.0 x a);
      files = λ f a. of_files f (both_either file_record_hash g.records.files records.1 f a);
    }
      where
        this : IsTakenInto o records (joined g o.file records)
        this = joins_group o records plain g agrees

        of_taken : (s : MDBShardFile) → IsAmong g.taken s ⊎ IsAmong (o.file ∷ []) s
            → (p : Offered) × (read : ShardRecords) × IsAmong all p × (s ≡ p.file) × IsTakenInto p read (joined g o.file records)
        of_taken s (inl old) = let h = has.taken s old in (h.0, h.1, h.2, h.3, into_joined h.0 o h.1 records g h.4)
        of_taken s (inr new) = (o, records, among, among_one o.file s new, this)

        of_xorbs : (x : MDBXorbInfo) → IsAmong g.records.blocks x ⊎ IsAmong records.0 x
            → (p : Offered) × (read : ShardRecords) × IsAmong all p × IsTakenInto p read (joined g o.file records) × IsAmong read.0 x
        of_xorbs x (inl old) = let h = has.xorbs x old in (h.0, h.1, h.2, into_joined h.0 o h.1 records g h.3, h.4)
        of_xorbs x (inr new) = (o, records, among, this, new)

        of_files : (f : MDBFileInfo) → IsAmong g.records.files f ⊎ IsAmong records.1 f
            → (p : Offered) × (read : ShardRecords) × IsAmong all p × IsTakenInto p read (joined g o.file records) × IsAmong read.1 f
        of_files f (inl old) = let h = has.files f old in (h.0, h.1, h.2, into_joined h.0 o h.1 records g h.3, h.4)
        of_files f (inr new) = (o, records, among, this, new)

  open_has : (current : Option Group) → HasIfOpen current → (g : Group) → IsAmong (if_open current) g → HasRecordsOf all g
  open_has None has g a = absurd (among_none g a)
  open_has (Some h) has g a = subst (HasRecordsOf all) (sym (among_one h g a)) has

  abbrev AreAmong : List Offered → Type 0
  AreAmong os = (o : Offered) → IsAmong os o → IsAmong all o

  later : (o : Offered) (os : List Offered) → AreAmong (o ∷ os) → AreAmong os
  later o os within p a = within p (among_later o os p a)

  grouped_have : (current : Option Group) (os : List Offered) (groups : List Group) (skipped : List MDBShardFile) → HasIfOpen current → AreAmong os → Groups target current os groups skipped
      → (g : Group) → IsAmong groups g → HasRecordsOf all g
  unfolding Groups
  grouped_have current [] groups skipped has within (are, none) g a = open_has current has g (subst (λ (gs : List Group). IsAmong gs g) are a)
  grouped_have current (o ∷ os) groups skipped has within (inl (skip, (rest, last, more))) g a = grouped_have current os groups rest has (later o os within) more g a
  grouped_have current (o ∷ os) groups skipped has within (inr (inl (read, begins, more))) g a =
      grouped_have (Some (alone o.file o.length read)) os groups skipped (alone_has o read (within o (among_first o os)) begins.plain) (later o os within) more g a
  grouped_have current (o ∷ os) groups skipped has within (inr (inr (inl (h, read, rest, ends, first, more)))) g a =
      by (among_cons h rest g (subst (λ (gs : List Group). IsAmong gs g) first a))
      (grouped_have (Some (alone o.file o.length read)) os rest skipped (alone_has o read (within o (among_first o os)) ends.plain) (later o os within) more g)
    where
      by : (g ≡ h) ⊎ IsAmong rest g → (IsAmong rest g → HasRecordsOf all g) → HasRecordsOf all g
      by (inl same) behind = subst (HasRecordsOf all) (sym same) (subst HasIfOpen ends.is_open has)
      by (inr more_of) behind = behind more_of
  grouped_have current (o ∷ os) groups skipped has within (inr (inr (inr (h, read, joins, more)))) g a =
      grouped_have (Some (joined h o.file read)) os groups skipped
      (joined_has o read (within o (among_first o os)) joins.plain h joins.agrees (subst HasIfOpen joins.is_open has)) (later o os within) more g a

  pub groups_have : (groups : List Group) (skipped : List MDBShardFile) → Groups target None all groups skipped → (g : Group) → IsAmong groups g → HasRecordsOf all g
  groups_have groups skipped h = grouped_have None all groups skipped tt (λ o a. a) h
