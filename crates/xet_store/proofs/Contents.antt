-- The contents of registered shards, where one more is flushed.
use Rattle.std.proofs.Common.{◌≡◌, ℕ, List, [], ◌∷◌, ◌++◌, length, map, Option, Some, None, refl, ap, arith}
use Rattle.xet_io.specs.Disk.{Files}
use Rattle.xet_shard.specs.Held.{Held, held_shard}
use Rattle.xet_history.specs.Core.{RegisteredShard}
use Rattle.xet_store.specs.Recorded.{shard_in, with_contents}

module _ (files : Files) (folder : List ℕ) (opened : ℕ) where
  -- the shard that was there, and the shard that was flushed
  abbrev there : List ℕ → RegisteredShard
  there h = record { hash = h; contents = shard_in files folder h }

  abbrev pub of_held : List ℕ → Held → RegisteredShard
  of_held h p = record { hash = h; contents = held_shard p opened None }

  pub contents_more : (hs : List (List ℕ)) (fs : List (Option Held)) (h : List ℕ) (p : Held) → length fs ≡ length hs
      → with_contents files folder opened (hs ++ h ∷ []) (fs ++ Some p ∷ []) ≡ with_contents files folder opened hs fs ++ of_held h p ∷ []
  contents_more [] [] h p same = refl
  contents_more [] (f ∷ fs) h p same = absurd (omega (arith, same))
  contents_more (x ∷ hs) [] h p same = absurd (omega (arith, same))
  contents_more (x ∷ hs) (None ∷ fs) h p same = ap (λ (l : List RegisteredShard). there x ∷ l) (contents_more hs fs h p (omega (arith, same)))
  contents_more (x ∷ hs) (Some q ∷ fs) h p same = ap (λ (l : List RegisteredShard). of_held x q ∷ l) (contents_more hs fs h p (omega (arith, same)))

  -- each under its hash
  pub contents_hashes : (hs : List (List ℕ)) (fs : List (Option Held)) → length fs ≡ length hs → map (λ r. r.hash) (with_contents files folder opened hs fs) ≡ hs
  contents_hashes [] fs same = refl
  contents_hashes (x ∷ hs) [] same = absurd (omega (arith, same))
  contents_hashes (x ∷ hs) (None ∷ fs) same = ap (λ (l : List (List ℕ)). x ∷ l) (contents_hashes hs fs (omega (arith, same)))
  contents_hashes (x ∷ hs) (Some q ∷ fs) same = ap (λ (l : List (List ℕ)). x ∷ l) (contents_hashes hs fs (omega (arith, same)))
