-- The indices of the open segments.
use Rattle.std.proofs.Common.{◌≡◌, ◌∙◌, ℕ, ◌+◌, ◌<◌, ◌≤◌, Bool, true, false, if◌then◌else◌, List, [], ◌∷◌, ◌++◌, length, drop, get_or, sym, ap, append_assoc}
use Rattle.std.proofs.lemmas.List.{append-nil, drop_all, drop_more}
use Rattle.xet_dedup.specs.Deduping.{open_from}
use Rattle.xet_file_plan.specs.Moves.{is_open}
use Rattle.xet_shard_format.specs.declared.record.FileDataSequenceEntry.{FileDataSequenceEntry as Segment}

open_cons : (at : ℕ) (s : Segment) (ss : List Segment) (b : Bool) → is_open s ≡ b → open_from at (s ∷ ss) ≡ (if b then at ∷ open_from (at + 1) ss else open_from (at + 1) ss)
unfolding open_from
open_cons at s ss b e = ap (λ (x : Bool). if x then at ∷ open_from (at + 1) ss else open_from (at + 1) ss) e

open_here : (ss : List Segment) (at : ℕ) (s : Segment) (b : Bool) → at < length ss → s ≡ get_or ss at s → is_open s ≡ b
    → open_from at (drop at ss) ≡ (if b then at ∷ open_from (at + 1) (drop (at + 1) ss) else open_from (at + 1) (drop (at + 1) ss))
open_here ss at s b here same is =
    ap (open_from at) (drop_more ss at s here ∙ ap (λ (t : Segment). t ∷ drop (at + 1) ss) (sym same)) ∙ open_cons at s (drop (at + 1) ss) b is

-- an open segment at index `at`, and one that is not open
pub open_yes : (items all : List ℕ) (ss : List Segment) (at : ℕ) (s : Segment) → at < length ss → s ≡ get_or ss at s → is_open s ≡ true
    → items ++ open_from at (drop at ss) ≡ all → (items ++ at ∷ []) ++ open_from (at + 1) (drop (at + 1) ss) ≡ all
open_yes items all ss at s here same is e =
    append_assoc items (at ∷ []) (open_from (at + 1) (drop (at + 1) ss)) ∙ ap (λ (l : List ℕ). items ++ l) (sym (open_here ss at s true here same is)) ∙ e

pub open_no : (items all : List ℕ) (ss : List Segment) (at : ℕ) (s : Segment) → at < length ss → s ≡ get_or ss at s → is_open s ≡ false
    → items ++ open_from at (drop at ss) ≡ all → items ++ open_from (at + 1) (drop (at + 1) ss) ≡ all
open_no items all ss at s here same is e = ap (λ (l : List ℕ). items ++ l) (sym (open_here ss at s false here same is)) ∙ e

pub open_end : (items all : List ℕ) (ss : List Segment) (at : ℕ) → length ss ≤ at → items ++ open_from at (drop at ss) ≡ all → items ≡ all
unfolding open_from
open_end items all ss at past e = sym (append-nil items) ∙ ap (λ (l : List Segment). items ++ open_from at l) (sym (drop_all at ss past)) ∙ e
