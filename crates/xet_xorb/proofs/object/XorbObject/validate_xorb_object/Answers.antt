use Rattle.std.proofs.Common.{◌≡◌, ◌∙◌, ◌<◌, ◌^◌, List, Ok, arith, drop, false, length, refl, subst, sym, take, true, ℕ}
use Rattle.xet_xorb_footer.specs.Ends.{last_footer}
use Rattle.xet_codec.specs.Blocks.{Sees}
use Rattle.xet_xorb.specs.declared.object.XorbObject.{XorbObject}
use Rattle.xet_xorb.specs.internal.Checking.{IsEnding}
use Rattle.xet_xorb.specs.Footer.{Version}
use Rattle.xet_xorb.specs.Object.{object_of}
use Rattle.xet_xorb.specs.Validation.{IsFooterOf, IsValid, IsXorbOf}
use Rattle.xet_xorb.proofs.Validated.{chunks_at, ending_at, hash_at, hash_size, hashed_of, is_valid, leaves_at, none_more, parts_of, some_more, valid_is_read}
use Rattle.xet_xorb.proofs.object.XorbObject.validate_xorb_object.Goals as goal

pub returns-in_default-clause-none : goal.returns-in_default-clause-none
returns-in_default-clause-none g c = λ told _ chunks x.
    let p = parts_of c.args.max_chunk c.args.hash.now (g.R.ReadAt.bytes c.args.reader.now) chunks x in
    c.in_ok-start.ensures.none told (rw c.in_default.is refl) x.encoding.bound p.told p.enough (omega (arith, p.whole)) p.tells

pub returns-in_default-2-clause-none : goal.returns-in_default-2-clause-none
returns-in_default-2-clause-none g c = λ told _ chunks x.
    let bytes = g.R.ReadAt.bytes c.args.reader.now in
    let start = c.in-Some.start in
    let whole = rw c.in-Some.is at (c.in_ok-start.ensures.whole told) in let tells = rw c.in-Some.is at (c.in_ok-start.ensures.told told) in
    let are = chunks_at c.args.max_chunk start c.in-Some.told c.args.hash.now bytes chunks whole tells x in
    let sees : Sees _ _ bytes _ _ = record { told = c.in_ok-start.ensures.frame.tells ∙ told; same = c.in_ok-start.ensures.frame.same; all = whole; part = c.new-block.ensures bytes } in
    c.in_ok-leaves.ensures.none bytes sees (rw c.in_default-2.is refl) chunks are

pub returns-then-not-branch-clause-none : goal.returns-then-not-branch-clause-none
returns-then-not-branch-clause-none g c = λ told _ chunks x.
    let max_chunk = c.args.max_chunk in let hash = c.args.hash.now in let bytes = g.R.ReadAt.bytes c.args.reader.now in let start = c.in-Some.start in let ms = c.in-Some-2.leaves.items in
    let whole = rw c.in-Some.is at (c.in_ok-start.ensures.whole told) in let tells = rw c.in-Some.is at (c.in_ok-start.ensures.told told) in
    let sees : Sees _ _ bytes _ _ = record { told = c.in_ok-start.ensures.frame.tells ∙ told; same = c.in_ok-start.ensures.frame.same; all = whole; part = c.new-block.ensures bytes } in
    let have = rw c.in-Some-2.is at (c.in_ok-leaves.ensures.found bytes sees) in
    let is = leaves_at max_chunk start c.in-Some.told hash bytes ms chunks c.requires.max_chunk whole tells have x in
    let hashes = rw (c.if-not-branch.true, c.deref.ensures.value) at c.in_ok-have_hash.ensures.same in
    let no : false ≡ true = hashes.1 (hash_at max_chunk hash bytes ms chunks is x) in
    cc

pub returns-clause-valid : goal.returns-clause-valid
returns-clause-valid g c = λ told.
    let max_chunk = c.args.max_chunk in let hash = c.args.hash.now in let bytes = g.R.ReadAt.bytes c.args.reader.now in let start = c.in-Some.start in let ms = c.in-Some-2.leaves.items in
    let whole = rw c.in-Some.is at (c.in_ok-start.ensures.whole told) in let bound = rw c.in-Some.is at c.in_ok-start.ensures.bound in
    let sees : Sees _ _ bytes _ _ = record { told = c.in_ok-start.ensures.frame.tells ∙ told; same = c.in_ok-start.ensures.frame.same; all = whole; part = c.new-block.ensures bytes } in
    let have = rw c.in-Some-2.is at (c.in_ok-leaves.ensures.found bytes sees) in let part = rw c.in-Some-2.is at (c.in_ok-leaves.ensures.part bytes sees) in
    let hashes = rw (c.if-not-branch.false, c.deref.ensures.value) at c.in_ok-have_hash.ensures.same in
    let is = hashes.0 refl in
    let hashed = hashed_of max_chunk (take start bytes) ms have in
    let ends = rw c.deref-2.ensures.value at c.checked_object.ensures.found in
    let small : length bytes < 2 ^ 32 = omega (arith, whole, bound) in
    let later : Sees _ _ bytes _ _ = record { told = c.in_ok-leaves.ensures.frame.tells ∙ sees.told; same = c.in_ok-leaves.ensures.frame.same ∙ sees.same; all = whole; part = part } in
    some_more (λ (o : XorbObject). IsEnding hash ms (drop start bytes) o) (λ (o : XorbObject). (chunks : List (List ℕ)) × IsValid max_chunk hash bytes chunks o) c.checked_object.result
    (λ o e. is_valid max_chunk start hash bytes ms o c.requires.max_chunk small have is.0 is.1 e) (ends bytes later hashed (hash_size ms hash hashed is.1))

pub returns-clause-footer : goal.returns-clause-footer
returns-clause-footer g c =
    let hash = c.args.hash.now in
    let ms = c.in-Some-2.leaves.items in
    let start = rw c.in-Some.is at c.in_ok-start.ensures.bound in
    let size = rw c.in-Some-2.is at c.in_ok-leaves.ensures.size in
    let fit = rw c.in-Some-2.is at c.in_ok-leaves.ensures.fit in
    let is = (rw (c.if-not-branch.false, c.deref.ensures.value) at c.in_ok-have_hash.ensures.same).0 refl in
    some_more (λ (o : XorbObject). (version : Version) × (spare : List ℕ) × (length spare ≡ 16) × (o ≡ object_of version hash ms spare)) (λ (o : XorbObject). IsFooterOf c.args.max_chunk hash o) c.checked_object.result
    (λ o f. record { version = f.0; leaves = ms; spare = f.1; listed = f.3; some = is.0; hashed = is.1; fit = fit; spare_len = f.2; bound = omega (arith, start, size) }) (rw c.deref-2.ensures.value at c.checked_object.ensures.footer)

pub returns-clause-read : goal.returns-clause-read
returns-clause-read g c = λ told.
    let max_chunk = c.args.max_chunk in
    let hash = c.args.hash.now in
    let bytes = g.R.ReadAt.bytes c.args.reader.now in
    some_more (λ (o : XorbObject). (chunks : List (List ℕ)) × IsValid max_chunk hash bytes chunks o) (λ (o : XorbObject). last_footer bytes ≡ Ok (o.info, o.info_length)) c.checked_object.result
    (λ o v. valid_is_read max_chunk hash bytes o v) (returns-clause-valid g c told)

pub returns-clause-none : goal.returns-clause-none
returns-clause-none g c = λ told.
    let max_chunk = c.args.max_chunk in let hash = c.args.hash.now in let bytes = g.R.ReadAt.bytes c.args.reader.now in let start = c.in-Some.start in let ms = c.in-Some-2.leaves.items in
    let whole = rw c.in-Some.is at (c.in_ok-start.ensures.whole told) in let tells = rw c.in-Some.is at (c.in_ok-start.ensures.told told) in
    let sees : Sees _ _ bytes _ _ = record { told = c.in_ok-start.ensures.frame.tells ∙ told; same = c.in_ok-start.ensures.frame.same; all = whole; part = c.new-block.ensures bytes } in
    let have = rw c.in-Some-2.is at (c.in_ok-leaves.ensures.found bytes sees) in let part = rw c.in-Some-2.is at (c.in_ok-leaves.ensures.part bytes sees) in
    let hashes = rw (c.if-not-branch.false, c.deref.ensures.value) at c.in_ok-have_hash.ensures.same in
    let hashed = hashed_of max_chunk (take start bytes) ms have in
    let none = rw c.deref-2.ensures.value at c.checked_object.ensures.none in
    let later : Sees _ _ bytes _ _ = record { told = c.in_ok-leaves.ensures.frame.tells ∙ sees.told; same = c.in_ok-leaves.ensures.frame.same ∙ sees.same; all = whole; part = part } in
    none_more ((o : XorbObject) → IsEnding hash ms (drop start bytes) o → ⊥) ((chunks : List (List ℕ)) → IsXorbOf max_chunk hash bytes chunks → ⊥) c.checked_object.result
    (λ no chunks x.
    let e = ending_at max_chunk start c.in-Some.told hash bytes chunks whole tells x in
    let is = leaves_at max_chunk start c.in-Some.told hash bytes ms chunks c.requires.max_chunk whole tells have x in
    no e.0 (subst (λ (l : List (List ℕ × ℕ)). IsEnding hash l (drop start bytes) e.0) (sym is) e.1))
    (none bytes later hashed (hash_size ms hash hashed (hashes.0 refl).1))
