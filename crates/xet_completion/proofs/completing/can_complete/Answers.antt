use Rattle.std.proofs.Common.{◌≡◌, ◌≢◌, ◌∙◌, ◌↔◌, List, ℕ, true, false, IsTrue, sym, subst}
use Rattle.std.proofs.lemmas.Result.{IfOk-weaker}
use Rattle.xet_hash.specs.Hash.{sentinel}
use Rattle.xet_shard_format.specs.Records.{file_record_hash}
use Rattle.xet_completion.specs.Completing.{Completes}
use Rattle.xet_completion.specs.internal.Resolving.{GivesHashes}
use Rattle.xet_completion.proofs.Recording.{completes_if_gives, gives_if_completes}
use Rattle.xet_completion.proofs.completing.can_complete.Goals as goal

pub returns-in-Some-clause-can : goal.returns-in-Some-clause-can
returns-in-Some-clause-can c =
    let xorbs = c.args.xorbs.now.entries in
    let f = c.args.file.now in
    let leaves = c.in-Some.leaves.items in
    let resolves = rw c.in-Some.is at c.in_ok-leaves.ensures.resolves in
    let named : file_record_hash f ≢ sentinel = λ e.
    let bad : true ≡ false = sym (c.has_sentinel.ensures.1 e) ∙ c.if-has_sentinel.false in cc bad in
    IfOk-weaker c.gives_hashes.result _ (λ b. IsTrue b ↔ Completes xorbs f)
    (λ b gives. (
      λ t. completes_if_gives xorbs f leaves resolves named (subst (λ (l : List (List ℕ × ℕ)). GivesHashes f l) c.deref.ensures.value (gives.0 t)),
      λ completes. gives.1 (subst (λ (l : List (List ℕ × ℕ)). GivesHashes f l) (sym c.deref.ensures.value) (gives_if_completes xorbs f leaves resolves completes)),
    ))
    c.gives_hashes.ensures.gives
