-- A record's hashes are compared over the chunks to which its plan resolves.
use Rattle.std.proofs.Common.{◌≡◌, ◌≢◌, ◌∙◌, ℕ, List, Some, sym, subst}
use Rattle.xet_hash.specs.Hash.{sentinel}
use Rattle.xet_shard_format.specs.declared.record.MDBFileInfo.{MDBFileInfo}
use Rattle.xet_shard_format.specs.Records.{file_record_hash}
use Rattle.xet_folder.specs.Plan.{Resolves}
use Rattle.xet_folder.specs.Xorbs.{IsListed, Xorbs}
use Rattle.xet_folder.specs.theorems.Agreeing.{resolves_once}
use Rattle.xet_completion.specs.Completing.{Completes}
use Rattle.xet_completion.specs.internal.Resolving.{GivesHashes}

-- a xorb is listed with one list of chunks
listed_once : (xorbs : Xorbs) (h : List ℕ) (ms ns : List (List ℕ × ℕ)) → IsListed xorbs h ms → IsListed xorbs h ns → ms ≡ ns
listed_once xorbs h ms ns a b = let same : Some ms ≡ Some ns = sym a ∙ b in cc

module _ (xorbs : Xorbs) (f : MDBFileInfo) (leaves : List (List ℕ × ℕ)) (resolves : Resolves (IsListed xorbs) (λ m. m.1) f.segments leaves) where
  pub completes_if_gives : file_record_hash f ≢ sentinel → GivesHashes f leaves → Completes xorbs f
  completes_if_gives named gives = record { leaves = leaves; resolves = resolves; some = gives.some; hash = gives.hash; ranges = gives.ranges; named = named }

  pub gives_if_completes : Completes xorbs f → GivesHashes f leaves
  gives_if_completes c =
      let given : GivesHashes f c.leaves = record { some = c.some; hash = c.hash; ranges = c.ranges } in
      subst (λ (l : List (List ℕ × ℕ)). GivesHashes f l) (resolves_once (IsListed xorbs) (λ m. m.1) (listed_once xorbs) f.segments c.leaves leaves c.resolves resolves) given
