use Rattle.std.proofs.Common.{◌≡◌, ◌≤◌, ◌∙◌, ◌∷◌, [], List, ℕ, Err, IfErr, IfOk, OnOk, arith, length, refl, subst, sym, ap}
use Rattle.std.proofs.lemmas.Result.{IfErr-at_err, IfErr-weaker, IfOk-at_ok}
use Rattle.xet_cut.specs.Chunking.{chunking}
use Rattle.xet_store_disk.specs.theorems.Keeping.{keeps_then}
use Rattle.xet_program.specs.declared.ending.Stop.TheVariants as stop
use Rattle.xet_program.specs.declared.make.ChunkCounts.{ChunkCounts}
use Rattle.xet_program.specs.Making.{both_files, with_byte_inserted}
use Rattle.xet_program.specs.internal.Made.{AddsXorbs, FitsPending, HasPlan, Pends}
use Rattle.xet_program.specs.internal.Stops.{IsStop, filing_causes}
use Rattle.xet_program.proofs.MadeFiles.{default_allows, filing_more, first_of_both, if_on_ok, inserted_length, made_of, second_of_both}
use Rattle.xet_program.proofs.Opened.{on_ok_here, rose_after}
use Rattle.xet_program.proofs.Uncut.{fits_first, fits_second}
use Rattle.xet_program.proofs.Unflushed.{other_both}
use Rattle.xet_program.proofs.make.store_both.Goals as goal

pub store_one-session-requires-clause-short : goal.store_one-session-requires-clause-short
store_one-session-requires-clause-short g c = λ lives within.
    let same = ap length c.deref.ensures.value in
    default_allows c.args.session.store.limits (length c.deref.result.now) c.requires.limits (omega (arith, same, c.requires.short))

pub store_one-session-requires-clause-room : goal.store_one-session-requires-clause-room
store_one-session-requires-clause-room g c = λ lives within.
    subst (λ (b : List ℕ). FitsPending c.args.session.store (b ∷ [])) (sym c.deref.ensures.value) (fits_first c.args.session.store c.args.bytes.items c.requires.limits c.requires.fresh c.requires.short)

pub store_inserted-requires-clause-folder : goal.store_inserted-requires-clause-folder
store_inserted-requires-clause-folder g c = λ κs met. c.store_one-session.ensures.keeps.folder ∙ c.requires.folder

pub store_inserted-requires-clause-room : goal.store_inserted-requires-clause-room
store_inserted-requires-clause-room g c = λ κs met.
    let bytes = c.args.bytes.items in
    let first = c.args.session.store in
    let mid = c.store_one-session.result.0.store in
    let pends = subst (λ (b : List ℕ). OnOk c.store_one-session.result.1 (Pends (b ∷ []) first mid)) c.deref.ensures.value c.store_one-session.ensures.pends in
    fits_second first mid bytes (with_byte_inserted bytes) c.requires.limits (c.store_one-session.ensures.keeps.limits ∙ c.requires.limits) c.requires.fresh c.requires.short
    (omega (arith, inserted_length bytes, c.requires.short)) (on_ok_here c.in-Ok.is pends)

pub returns-in-Ok-clause-other : goal.returns-in-Ok-clause-other
returns-in-Ok-clause-other g c = λ told.
    let first = c.args.session.store in
    let mid = c.store_one-session.result.0.store in
    let keeps = c.store_one-session.ensures.keeps in
    other_both first mid c.store_inserted.result.0.store c.store_inserted.result.1 keeps.opened (on_ok_here c.in-Ok.is (c.store_one-session.ensures.other told)) (c.store_inserted.ensures.other (keeps.tells ∙ told))

pub store_inserted-requires-clause-limits : goal.store_inserted-requires-clause-limits
store_inserted-requires-clause-limits g c = λ κs met. c.store_one-session.ensures.keeps.limits ∙ c.requires.limits

pub returns-in-Ok-clause-made : goal.returns-in-Ok-clause-made
returns-in-Ok-clause-made g c =
    let first = c.args.session.store in
    let mid = c.store_one-session.result.0.store in
    let new = c.store_inserted.result.0.store in
    let bytes = c.args.bytes.items in
    let one = c.store_one-session.result.1 in
    let counts = subst (λ (b : List ℕ). IfOk one (λ (x : ChunkCounts). (x.all ≡ length (chunking first.limits b)) × (x.new ≤ x.all))) c.deref.ensures.value c.store_one-session.ensures.counts in
    let planned = subst (λ (b : List ℕ). IfOk one (λ (x : ChunkCounts). HasPlan mid b)) c.deref.ensures.value (if_on_ok (HasPlan mid c.deref.result.now) one c.store_one-session.ensures.planned) in
    made_of bytes first mid new c.in-Ok.first c.store_inserted.result.1 c.requires.limits
    (IfOk-at_ok (λ (x : ChunkCounts). (x.all ≡ length (chunking first.limits bytes)) × (x.new ≤ x.all)) c.in-Ok.is counts)
    (IfOk-at_ok (λ (x : ChunkCounts). HasPlan mid bytes) c.in-Ok.is planned)
    (IfOk-at_ok (λ (x : ChunkCounts). AddsXorbs x.new first mid) c.in-Ok.is c.store_one-session.ensures.added) c.store_inserted.ensures.keeps c.store_inserted.ensures.made

pub returns-in-Ok-clause-keeps : goal.returns-in-Ok-clause-keeps
returns-in-Ok-clause-keeps g c = keeps_then _ _ _ c.store_one-session.ensures.keeps c.store_inserted.ensures.keeps

pub returns-in-Ok-clause-stop : goal.returns-in-Ok-clause-stop
returns-in-Ok-clause-stop g c =
    let first = c.args.session in
    let mid = c.store_one-session.result.0 in
    let new = c.store_inserted.result.0 in
    let bytes = c.args.bytes.items in
    let few = with_byte_inserted bytes ∷ [] in
    let keeps = c.store_one-session.ensures.keeps in
    IfErr-weaker c.store_inserted.result.1 (IsStop (filing_causes mid new few)) (IsStop (filing_causes first new (both_files bytes)))
    (λ e h. filing_more first mid new few (both_files bytes) e keeps.tells keeps.limits (second_of_both bytes) h) c.store_inserted.ensures.stop

pub returns-in-Ok-clause-cause : goal.returns-in-Ok-clause-cause
returns-in-Ok-clause-cause g c =
    let one = c.store_one-session.ensures.cause in
    let two = c.store_inserted.ensures.cause in
    record { later = omega (arith, one.later, two.later); rose = λ is. rose_after _ _ _ one.later (two.rose is) }

pub returns-in-Err : goal.returns-in-Err
returns-in-Err g c =
    let first = c.args.session in
    let mid = c.store_one-session.result.0 in
    let bytes = c.args.bytes.items in
    let few = bytes ∷ [] in
    let given = subst (λ (b : List ℕ). IfErr c.store_one-session.result.1 (IsStop (filing_causes first mid (b ∷ [])))) c.deref.ensures.value c.store_one-session.ensures.stop in
    let cause = c.store_one-session.ensures.cause in
    record {
      other = λ told. tt;
      made = tt;
      keeps = c.store_one-session.ensures.keeps;
      stop = filing_more first first mid few (both_files bytes) c.in-Err.stop refl refl (first_of_both bytes) (IfErr-at_err (IsStop (filing_causes first mid few)) c.in-Err.is given);
      cause = record { later = cause.later; rose = λ is. let disk : c.in-Err.stop ≡ stop.Disk = cc is in cause.rose (c.in-Err.is ∙ ap Err disk) };
    }
