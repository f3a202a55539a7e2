use Rattle.xet_shared_history.proofs.Moves.{begins}
use Rattle.xet_shared_history.proofs.seats.HistoryWord.new.Goals as goal

pub of_words-requires : goal.of_words-requires
of_words-requires c = begins
