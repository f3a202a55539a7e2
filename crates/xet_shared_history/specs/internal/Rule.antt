-- What the table knows: the history, and what each seat has seen of it.
use Rattle.std.specs.Prelude.{◌≡◌, ℕ, true, false, List, [], ◌∷◌, ◌++◌, length}
use mathlib.Core.Option.{Option, some, none}
use mathlib.Core.List.{IsPrefix}
use lib.ListN.{get_elem?}
use Rattle.atomic_table.specs.Table.{Step, Me}
use Rattle.xet_history.specs.declared.entry.Entry.{Entry}
use Rattle.xet_shared_history.specs.declared.rule.View.{View}

-- the view of the writer, which has seen the whole history
abbrev pub writer_view : List Entry → View
writer_view history = record { keeps = true; seen = history; told = [] }

-- the view of a reader
abbrev pub reader_view : List Entry → View
reader_view seen = record { keeps = false; seen = seen; told = [] }

-- the view of a seat that is given up
abbrev pub nothing_seen : View
nothing_seen = reader_view []

abbrev pub copy_of : View → View
copy_of v = reader_view v.seen

abbrev pub told_of : View → View → View
told_of v w = record { keeps = v.keeps; seen = v.seen; told = w.seen }

abbrev pub shown : View → View → View
shown v w = record { keeps = v.keeps; seen = w.seen; told = v.told }

-- What a seat has seen, and was told of, is a prefix of the history. The one that keeps the history is the writer's, and has
-- seen all of it.
pub record IsViewOf (writer : ℕ) (history : List Entry) (id : ℕ) (v : View) : Type 0 where
  pub seen : IsPrefix v.seen history
  pub told : IsPrefix v.told history
  pub keeps : v.keeps ≡ true → (id ≡ writer) × (v.seen ≡ history)

-- There is one history, whose length is the word, and each seat has seen a prefix of it.
pub record IsCounted (words : List ℕ) (views : List View) : Type 0 where
  pub writer : ℕ
  pub history : List Entry
  pub counted : words ≡ length history ∷ []
  pub each : (id : ℕ) (v : View) → get_elem? views id ≡ some v → IsViewOf writer history id v

abbrev pub said_by : Option Entry → List Entry
said_by none = []
said_by (some e) = e ∷ []

-- The entry that was announced was added to all that had been seen.
abbrev pub Added : Step Entry → Me Entry View → ℕ → Me Entry View → Type 0
Added s v found w = (w.0 ≡ writer_view (v.0.seen ++ said_by s.said)) × (w.1 ≡ v.1)

-- What it was told of is a prefix of what it has seen.
abbrev pub Compared : Step Entry → Me Entry View → ℕ → Me Entry View → Type 0
Compared s v found w = (w.0 ≡ writer_view v.0.seen) × (w.1 ≡ v.1) × IsPrefix v.0.told v.0.seen
