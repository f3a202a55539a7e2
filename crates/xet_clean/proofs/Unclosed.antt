-- An aggregate that was not closed: no file was refused, unless the error says so.
use Rattle.std.proofs.Common.{◌≢◌, ◌⊎◌, inl, inr, ℕ, List, map, sym, subst}
use Rattle.xet_aggregate.specs.Aggregate.{Aggregate}
use Rattle.xet_choices.specs.Calls.{Call}
use Rattle.xet_hash.specs.declared.error.Reason.TheVariants.{OtherFileHash}
use Rattle.xet_hash.specs.declared.error.StoreError.{StoreError}
use Rattle.xet_hash.specs.declared.error.StoreError.TheVariants.{MalformedData}
use Rattle.xet_store.specs.Interface.{IsErrorSince}
use Rattle.xet_store.specs.Holders.{Follows, Holder}
use Rattle.xet_store.specs.theorems.Following.{follows_nothing, follows_then}
use Rattle.xet_clean.specs.Closing.{IsClosingError, IsUnclosed, RegistersChunks, filled_files}
use Rattle.xet_xorb_chunk.specs.Chunks.{chunk_leaf}
use Rattle.xet_clean.specs.theorems.Adding.{adds_registered}
use Rattle.xet_clean.specs.theorems.Closing.{error_earlier}

-- what an aggregate's registration leaves
pub registers_follow : (a : Aggregate) (next : List (List ℕ × ℕ)) (old new : Holder) → RegistersChunks a next old new → Follows old new
registers_follow a next old new (inl r) = subst (λ (h : Holder). Follows old h) (sym r.1) (follows_nothing old)
registers_follow a next old new (inr r) = (adds_registered (map chunk_leaf a.chunks) next old new r.0 r.2).follows

-- no file was refused, unless the error says so
pub unclosed_since : (Are : List Call → Type 0) (a : Aggregate) (next : List (List ℕ × ℕ)) (start old new : Holder) (e : StoreError) → Follows start old → e ≢ MalformedData OtherFileHash → IsUnclosed Are a next old new e
    → IsErrorSince start new e
unclosed_since Are a next start old new e follows other u = go u.1
  where
    closing : (mid : Holder) → Follows start mid → IsClosingError (filled_files a) mid new e → IsErrorSince start new e
    closing mid later (inl refused) = absurd (other refused.4.error)
    closing mid later (inr is) = error_earlier start mid new later e is

    go : ((mid : Holder) × RegistersChunks a next old mid × IsClosingError (filled_files a) mid new e) ⊎ IsErrorSince old new e → IsErrorSince start new e
    go (inl c) = closing c.0 (follows_then start old c.0 follows (registers_follow a next old c.0 c.1)) c.2
    go (inr is) = error_earlier start old new follows e is
