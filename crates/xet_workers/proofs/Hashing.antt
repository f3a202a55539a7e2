-- A file whose SHA-256 is computed some blocks behind.
use Rattle.std.proofs.Common.{◌≡◌, ◌∙◌, ℕ, suc, ◌+◌, ◌<◌, List, [], ◌∷◌, ◌++◌, Option, None, Some, append_assoc, length, take, get_or, ap, arith, subst, sym}
use Rattle.std.proofs.lemmas.List.{append-nil}
use Rattle.std.proofs.lemmas.List.Folds.{concat-append}
use Rattle.std.proofs.Math.Seq.{take-suc}
use Rattle.std.specs.List.{concat}
use Rattle.xet_clean.specs.Policies.{HasBytes}
use Rattle.xet_clean.specs.declared.policy.Sha256Generator.{Sha256Generator}
use Rattle.xet_workers.specs.declared.behind.Running.{Running}
use Rattle.xet_workers.specs.internal.Behind.{HasBefore, HasBehind}

-- the bytes of the first blocks, and of one more
pub concat_more : (blocks : List (List ℕ)) (i : ℕ) (block : List ℕ) → i < length blocks → block ≡ get_or blocks i block → concat (take (i + 1) blocks) ≡ concat (take i blocks) ++ block
concat_more blocks i block below is =
    let one : i + 1 ≡ suc i = omega arith in
    ap (λ n. concat (take n blocks)) one
    ∙ ap concat (take-suc blocks i block below)
    ∙ concat-append (take i blocks) (get_or blocks i block ∷ [])
    ∙ ap (λ (b : List ℕ). concat (take i blocks) ++ b) (append-nil (get_or blocks i block) ∙ sym is)

-- nothing waits
no_more : (waiting : List (List ℕ)) (bytes : List ℕ) → waiting ≡ [] → bytes ≡ bytes ++ concat waiting
no_more waiting bytes none = sym (append-nil bytes) ∙ ap (λ (bs : List (List ℕ)). bytes ++ concat bs) (sym none)

-- one more block waits
pub waits : (g : Sha256Generator) (running : Option Running) (waiting now : List (List ℕ)) (bytes block : List ℕ) → now ≡ waiting ++ block ∷ [] → HasBehind g running waiting bytes → HasBehind g running now (bytes ++ block)
waits g running waiting now bytes block is has =
    let more = concat-append waiting (block ∷ []) ∙ ap (λ (b : List ℕ). concat waiting ++ b) (append-nil block) in (
      has.0,
      has.1,
      ap (λ (b : List ℕ). b ++ block) has.2 ∙ append_assoc has.0 (concat waiting) block ∙ ap (λ (b : List ℕ). has.0 ++ b) (sym more) ∙ ap (λ (bs : List (List ℕ)). has.0 ++ concat bs) (sym is),
    )

-- the thread at work has come back
pub returned : (g now : Sha256Generator) (running : Option Running) (waiting : List (List ℕ)) (bytes : List ℕ) → ((before : List ℕ) → HasBefore g running before → HasBytes now before) → HasBehind g running waiting bytes → HasBehind now None waiting bytes
returned g now running waiting bytes back has = (has.0, back has.0 has.1, has.2)

-- what waited was given to a new thread
pub given : (g now : Sha256Generator) (r : Running) (waiting left : List (List ℕ)) (bytes : List ℕ) → r.handle.promise.was.value ≡ g → r.handle.promise.blocks.value.items ≡ waiting → left ≡ [] → HasBehind g None waiting bytes → HasBehind now (Some r) left bytes
given g now r waiting left bytes was blocks none has = (
  bytes,
  (has.0, subst (λ (x : Sha256Generator). HasBytes x has.0) (sym was) has.1, has.2 ∙ ap (λ (bs : List (List ℕ)). has.0 ++ concat bs) (sym blocks)),
  no_more left bytes none,
)

-- the generator has all bytes
pub has_all : (g : Sha256Generator) (running : Option Running) (waiting : List (List ℕ)) (bytes : List ℕ) → running ≡ None → waiting ≡ [] → HasBytes g bytes → HasBehind g running waiting bytes
has_all g running waiting bytes here none has = (bytes, subst (λ (r : Option Running). HasBefore g r bytes) (sym here) has, no_more waiting bytes none)

-- what waited was given to the generator
pub done_here : (g now : Sha256Generator) (waiting : List (List ℕ)) (bytes : List ℕ) → ((before : List ℕ) → HasBytes g before → HasBytes now (before ++ concat waiting)) → HasBehind g None waiting bytes → HasBytes now bytes
done_here g now waiting bytes done has = subst (HasBytes now) (sym has.2) (done has.0 has.1)

-- the same under other names
pub moved : (g h : Sha256Generator) (running now : Option Running) (waiting left : List (List ℕ)) (bytes : List ℕ) → h ≡ g → now ≡ running → left ≡ waiting → HasBehind g running waiting bytes → HasBehind h now left bytes
moved g h running now waiting left bytes gs rs ws has =
    subst (λ (x : Sha256Generator). HasBehind x now left bytes) (sym gs)
    (subst (λ (x : Option Running). HasBehind g x left bytes) (sym rs) (subst (λ (x : List (List ℕ)). HasBehind g running x bytes) (sym ws) has))
