use Rattle.xet_dedup_tests.proofs.Listings.{listing-append}
use Rattle.xet_dedup_tests.proofs.list_store.ListStore.learn_all.Goals as goal

pub returns-clause-keeps : goal.returns-clause-keeps
returns-clause-keeps c = λ h lengths is. rw c.in_ok-append.ensures.items (listing-append c.args.self.now.xorbs.items _ h lengths is)
