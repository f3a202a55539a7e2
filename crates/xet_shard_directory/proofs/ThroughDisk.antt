-- What is read through a reader over a file of a disk.
use Rattle.std.proofs.Common.{ℕ, Bool, true, false, List, Result, Ok, Err, sym, subst}
use Rattle.std.specs.Prelude.{IfOk}
use Rattle.xet_codec.specs.Parsing.{GivesUnlessFault, IsUnlessFault}
use Rattle.xet_hash.specs.declared.error.Place.{Place}
use Rattle.xet_hash.specs.declared.error.Place.TheVariants as place
use Rattle.xet_hash.specs.declared.error.StoreError.{StoreError}
use Rattle.xet_hash.specs.declared.error.StoreError.TheVariants as error
use Rattle.xet_shard.specs.Bisection.{AnswersAt, Bisects}
use Rattle.xet_shard_directory.specs.Answers.{AnswersUnlessDisk, GivesUnlessDisk}
use Rattle.xet_shard_directory.specs.internal.Reading.{of_disk}

abbrev IsNoInput : Place → Type 0
IsNoInput place.Input = ⊥
IsNoInput (place.Source i) = Unit {0}
IsNoInput place.Output = Unit {0}
IsNoInput place.Disk = Unit {0}

-- the result of a call that reads from the reader, in terms of the disk
pub gives_of_disk : {X Y : Type 0} (view : X → Y) (short : Bool) (answer : Result X StoreError) (read : Result Y StoreError)
    → GivesUnlessFault view answer read → GivesUnlessDisk view (of_disk short answer) read
gives_of_disk view short (Ok x) read h = h
gives_of_disk view true (Err (error.Io place.Input)) read h = tt
gives_of_disk view false (Err (error.Io place.Input)) read h = tt
gives_of_disk view short (Err (error.Io place.Disk)) read h = tt
gives_of_disk view short (Err (error.Io place.Output)) read h = absurd (subst IsNoInput h tt)
gives_of_disk view short (Err (error.Io (place.Source i))) read h = absurd (subst IsNoInput h tt)
gives_of_disk view short (Err error.OutOfMemory) read h = tt
gives_of_disk view short (Err e) read h = h

-- the same where nothing is allocated
pub gives_of_equal : {X : Type 0} (answer read : Result X StoreError) → IsUnlessFault answer read → GivesUnlessFault (λ x. x) answer read
gives_of_equal (Ok x) read h = sym h
gives_of_equal (Err (error.Io p)) read h = h
gives_of_equal (Err error.OutOfMemory) read h = tt
gives_of_equal (Err e) read h = sym h

-- what holds of a result of the reader
pub ok_of_disk : {X : Type 0} (P : X → Type 0) (short : Bool) (answer : Result X StoreError) → IfOk answer P → IfOk (of_disk short answer) P
ok_of_disk P short (Ok x) h = h
ok_of_disk P short (Err e) h = tt

-- a query, from its answer at an index
answers_from : {X A : Type 0} (passes : X → Bool) (items : List X) (result : Result A StoreError) (answer : ℕ → Result A StoreError)
    → (index : ℕ) × Bisects passes items index × GivesUnlessDisk (λ x. x) result (answer index) → AnswersUnlessDisk passes items result answer
answers_from passes items (Ok x) answer h = h
answers_from passes items (Err (error.Io place.Disk)) answer h = tt
answers_from passes items (Err error.OutOfMemory) answer h = tt
answers_from passes items (Err e) answer h = h

-- a query that reads from the reader, in terms of the disk
pub answers_of_disk : {X A : Type 0} (passes : X → Bool) (items : List X) (short : Bool) (answer : Result A StoreError) (read : ℕ → Result A StoreError)
    → AnswersAt passes items (λ x. x) answer read → AnswersUnlessDisk passes items (of_disk short answer) read
answers_of_disk passes items short answer read h =
    answers_from passes items (of_disk short answer) read (h.0, h.1, gives_of_disk (λ x. x) short answer (read h.0) h.2)
