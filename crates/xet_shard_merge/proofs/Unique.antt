-- The rules of merging exclude each other, so that there is one way for each shard.
use Rattle.std.proofs.Common.{◌≡◌, List, [], ◌∷◌, ℕ, None, Option, Some, Ok, inl, inr, subst}
use Rattle.xet_shard.specs.Union.{ShardRecords}
use Rattle.xet_shard_directory.specs.declared.shard_file.MDBShardFile.{MDBShardFile}
use Rattle.xet_shard_merge.specs.Groups.{Agrees, Begins, Disagrees, Ends, Fits, Group, Groups, IsPlain, IsSkipped, Joins, Offered, alone, if_open, joined}

module _ (limit : ℕ) (cur : Option Group) (o : Offered) where
  same_records : (a b : ShardRecords) → IsPlain o a → IsPlain o b → a ≡ b
  same_records a b p q =
      let one : o.records ≡ Ok a = p.0 in
      let two : o.records ≡ Ok b = q.0 in
      cc

  same_group : (g h : Group) → cur ≡ Some g → cur ≡ Some h → g ≡ h
  same_group g h p q = cc

  none_open : (g : Group) → cur ≡ None → cur ≡ Some g → ⊥
  none_open g p q = cc

  not_skipped : (records : ShardRecords) → IsPlain o records → (Disagrees limit cur o → ⊥) → IsSkipped limit cur o → ⊥
  not_skipped records plain agree (inl (e, is)) =
      let read : o.records ≡ Ok records = plain.0 in
      cc
  not_skipped records plain agree (inr (inl keyed)) = plain.1 keyed
  not_skipped records plain agree (inr (inr differs)) = agree differs

  begins_not_skipped : (records : ShardRecords) → Begins cur o records → IsSkipped limit cur o → ⊥
  begins_not_skipped records b = not_skipped records b.plain (λ d. none_open d.group b.is_open d.is_open)

  ends_not_skipped : (g : Group) (records : ShardRecords) → Ends limit cur o g records → IsSkipped limit cur o → ⊥
  ends_not_skipped g records e = not_skipped records e.plain (λ d. e.long (subst (λ (h : Group). Fits limit h o) (same_group d.group g d.is_open e.is_open) d.fits))

  joins_not_skipped : (g : Group) (records : ShardRecords) → Joins limit cur o g records → IsSkipped limit cur o → ⊥
  joins_not_skipped g records j =
      not_skipped records j.plain
      (λ d.
      d.differs
      (subst (λ (h : Group). Agrees h.records d.records) (same_group g d.group j.is_open d.is_open)
      (subst (λ (r : ShardRecords). Agrees g.records r) (same_records records d.records j.plain d.plain) j.agrees)))

  joins_not_ended : (g h : Group) (a b : ShardRecords) → Joins limit cur o g a → Ends limit cur o h b → ⊥
  joins_not_ended g h a b j e = e.long (subst (λ (x : Group). Fits limit x o) (same_group g h j.is_open e.is_open) j.fits)

  module _ (os : List Offered) (gs : List Group) (ss : List MDBShardFile) where
    pub skip_only : IsSkipped limit cur o → Groups limit cur (o ∷ os) gs ss → (rest : List MDBShardFile) × Groups limit cur os gs rest
    unfolding Groups
    skip_only is (inl (_, (rest, _, more))) = (rest, more)
    skip_only is (inr (inl (records, b, _))) = absurd (begins_not_skipped records b is)
    skip_only is (inr (inr (inl (g, records, _, e, _, _)))) = absurd (ends_not_skipped g records e is)
    skip_only is (inr (inr (inr (g, records, j, _)))) = absurd (joins_not_skipped g records j is)

    pub start_only : (records : ShardRecords) → Begins cur o records → Groups limit cur (o ∷ os) gs ss → Groups limit (Some (alone o.file o.length records)) os gs ss
    unfolding Groups
    start_only records is (inl (skipped, _)) = absurd (begins_not_skipped records is skipped)
    start_only records is (inr (inl (r, b, more))) =
        subst (λ (x : ShardRecords). Groups limit (Some (alone o.file o.length x)) os gs ss) (same_records r records b.plain is.plain) more
    start_only records is (inr (inr (inl (g, r, _, e, _, _)))) = absurd (none_open g is.is_open e.is_open)
    start_only records is (inr (inr (inr (g, r, j, _)))) = absurd (none_open g is.is_open j.is_open)

    pub follow_only : (g : Group) (records : ShardRecords) → Ends limit cur o g records → Groups limit cur (o ∷ os) gs ss
        → (rest : List Group) × (gs ≡ g ∷ rest) × Groups limit (Some (alone o.file o.length records)) os rest ss
    unfolding Groups
    follow_only g records is (inl (skipped, _)) = absurd (ends_not_skipped g records is skipped)
    follow_only g records is (inr (inl (r, b, _))) = absurd (none_open g b.is_open is.is_open)
    follow_only g records is (inr (inr (inl (h, r, rest, e, first, more)))) = (
      rest,
      subst (λ (x : Group). gs ≡ x ∷ rest) (same_group h g e.is_open is.is_open) first,
      subst (λ (x : ShardRecords). Groups limit (Some (alone o.file o.length x)) os rest ss) (same_records r records e.plain is.plain) more,
    )
    follow_only g records is (inr (inr (inr (h, r, j, _)))) = absurd (joins_not_ended h g r records j is)

    pub enter_only : (g : Group) (records : ShardRecords) → Joins limit cur o g records → Groups limit cur (o ∷ os) gs ss → Groups limit (Some (joined g o.file records)) os gs ss
    unfolding Groups
    enter_only g records is (inl (skipped, _)) = absurd (joins_not_skipped g records is skipped)
    enter_only g records is (inr (inl (r, b, _))) = absurd (none_open g b.is_open is.is_open)
    enter_only g records is (inr (inr (inl (h, r, _, e, _, _)))) = absurd (joins_not_ended g h records r is e)
    enter_only g records is (inr (inr (inr (h, r, j, more)))) =
        subst (λ (x : Group). Groups limit (Some (joined x o.file records)) os gs ss) (same_group h g j.is_open is.is_open)
        (subst (λ (x : ShardRecords). Groups limit (Some (joined h o.file x)) os gs ss) (same_records r records j.plain is.plain) more)

-- after the last shard the open group is the last
pub end_only : (limit : ℕ) (cur : Option Group) (gs : List Group) (ss : List MDBShardFile) → Groups limit cur [] gs ss → gs ≡ if_open cur
unfolding Groups
end_only limit cur gs ss h = h.0
