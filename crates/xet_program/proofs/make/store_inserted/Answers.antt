use Rattle.std.proofs.Common.{◌≡◌, ◌≤◌, ◌∙◌, ◌∷◌, [], List, ℕ, IfErr, IfOk, OnOk, arith, length, subst, sym, ap}
use Rattle.std.specs.Result.{IsOkAnd}
use Rattle.xet_cut.specs.Chunking.{chunking}
use Rattle.xet_store_disk.specs.theorems.Keeping.{keeps_nothing}
use Rattle.xet_program.specs.declared.ending.Stop.TheVariants as stop
use Rattle.xet_program.specs.declared.make.ChunkCounts.{ChunkCounts}
use Rattle.xet_program.specs.Making.{with_byte_inserted}
use Rattle.xet_program.specs.internal.Made.{FitsPending, HasPlan, counts_text}
use Rattle.xet_program.specs.internal.Stops.{IsStop, filing_causes}
use Rattle.xet_program.proofs.MadeFiles.{cause_of_counts, default_allows, inserted_length, inserted_of, stop_of_counts}
use Rattle.xet_program.proofs.Unflushed.{answer_other}
use Rattle.xet_program.proofs.make.store_inserted.Goals as goal

pub store_one-session-requires-clause-short : goal.store_one-session-requires-clause-short
store_one-session-requires-clause-short g c = λ lives within.
    let same = ap length (c.deref.ensures.value ∙ c.in-Ok.ensures.inserted) in
    default_allows c.args.session.store.limits (length c.deref.result.now) c.requires.limits (omega (arith, same, inserted_length c.args.bytes.items, c.requires.short))

pub store_one-session-requires-clause-room : goal.store_one-session-requires-clause-room
store_one-session-requires-clause-room g c = λ lives within.
    let same : c.deref.result.now ≡ with_byte_inserted c.args.bytes.items = c.deref.ensures.value ∙ c.in-Ok.ensures.inserted in
    subst (λ (b : List ℕ). FitsPending c.args.session.store (b ∷ [])) (sym same) c.requires.room

pub returns-in-Ok-clause-other : goal.returns-in-Ok-clause-other
returns-in-Ok-clause-other g c = λ told. answer_other _ c.args.first _ c.store_one-session.result.1 c.answer_of-answer.result (c.store_one-session.ensures.other told) c.answer_of-answer.ensures.text

pub returns-in-Ok-clause-made : goal.returns-in-Ok-clause-made
returns-in-Ok-clause-made g c =
    let first = c.args.session in
    let s = c.store_one-session.result.0 in
    let bytes = c.args.bytes.items in
    let second = c.store_one-session.result.1 in
    let same : c.deref.result.now ≡ with_byte_inserted bytes = c.deref.ensures.value ∙ c.in-Ok.ensures.inserted in
    inserted_of bytes first.store s.store first.store.limits c.args.first second c.answer_of-answer.result c.requires.limits
    (subst (λ (b : List ℕ). IfOk second (λ (x : ChunkCounts). (x.all ≡ length (chunking first.store.limits b)) × (x.new ≤ x.all))) same c.store_one-session.ensures.counts)
    (subst (λ (b : List ℕ). OnOk second (HasPlan s.store b)) same c.store_one-session.ensures.planned)
    c.store_one-session.ensures.added
    (subst (λ (n : ℕ). IfOk c.answer_of-answer.result (λ text. IsOkAnd second (λ counts. text.items ≡ counts_text c.args.first counts n))) c.xorb_count.ensures c.answer_of-answer.ensures.text)

pub returns-in-Ok-clause-stop : goal.returns-in-Ok-clause-stop
returns-in-Ok-clause-stop g c =
    let first = c.args.session in
    let s = c.store_one-session.result.0 in
    let second = c.store_one-session.result.1 in
    let same : c.deref.result.now ≡ with_byte_inserted c.args.bytes.items = c.deref.ensures.value ∙ c.in-Ok.ensures.inserted in
    stop_of_counts first s (with_byte_inserted c.args.bytes.items ∷ []) second c.answer_of-answer.result (subst (λ (b : List ℕ). IfErr second (IsStop (filing_causes first s (b ∷ [])))) same c.store_one-session.ensures.stop) c.answer_of-answer.ensures.stop

pub returns-in-Ok-clause-cause : goal.returns-in-Ok-clause-cause
returns-in-Ok-clause-cause g c =
    cause_of_counts c.args.session.store.faults c.store_one-session.result.0.store.faults c.store_one-session.result.1 c.answer_of-answer.result c.store_one-session.ensures.cause c.answer_of-answer.ensures.stop

pub returns-in-Err : goal.returns-in-Err
returns-in-Err g c =
    let memory : c.in-Err.stop ≡ stop.OutOfMemory = c.in-Err.ensures.memory in record {
      other = λ told. tt;
      made = tt;
      keeps = keeps_nothing c.args.session.store;
      stop = subst (IsStop (filing_causes c.args.session c.args.session (with_byte_inserted c.args.bytes.items ∷ []))) (sym memory) tt;
      cause = record { later = omega arith; rose = λ is. let disk : c.in-Err.stop ≡ stop.Disk = cc is in absurd (cc (sym memory ∙ disk)) };
    }
