-- Why a shard file was not read, as its reading tells.
use Rattle.std.proofs.Common.{Bool, true, false, Option, Result, Ok, Err, refl}
use Rattle.std.specs.Prelude.{IfErr}
use Rattle.xet_hash.specs.declared.error.StoreError.{StoreError}
use Rattle.xet_hash.specs.declared.error.StoreError.TheVariants as error
use Rattle.xet_shard_directory.specs.Answers.{GivesUnlessDisk}
use Rattle.xet_shard_directory.specs.declared.shard_file.MDBShardFile.{MDBShardFile}
use Rattle.xet_shard_directory.specs.internal.Folders.{IsUnread, unless_skipped, unless_vanished}

pub unread_file : (skip : Bool) (answer read : Result MDBShardFile StoreError) → GivesUnlessDisk (λ s. s) answer read → IfErr (unless_skipped skip answer) (IsUnread skip read)
unread_file skip (Ok s) read gives = tt
unread_file true (Err error.UnexpectedEof) read gives = tt
unread_file true (Err (error.MalformedData r)) read gives = tt
unread_file false (Err error.UnexpectedEof) read gives = (refl, gives)
unread_file false (Err (error.MalformedData r)) read gives = (refl, gives)
unread_file true (Err error.FileNotFound) read gives = gives
unread_file false (Err error.FileNotFound) read gives = gives
unread_file true (Err e) read gives = tt
unread_file false (Err e) read gives = tt

vanished : (P : StoreError → Type 0) (answer : Result (Option MDBShardFile) StoreError) → IfErr answer P → IfErr (unless_vanished answer) P
vanished P (Ok found) h = tt
vanished P (Err error.FileNotFound) h = tt
vanished P (Err e) h = h

pub unread_entry : (skip : Bool) (answer read : Result MDBShardFile StoreError) → GivesUnlessDisk (λ s. s) answer read → IfErr (unless_vanished (unless_skipped skip answer)) (IsUnread skip read)
unread_entry skip answer read gives = vanished (IsUnread skip read) (unless_skipped skip answer) (unread_file skip answer read gives)
