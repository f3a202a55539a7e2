use Rattle.std.proofs.Common.{List, ap, sym, ◌∙◌}
use Rattle.xet_dedup_tests.proofs.Listings.{listing-append, listing-push}
use Rattle.xet_dedup_tests.specs.declared.known.KnownXorb.{KnownXorb}
use Rattle.xet_dedup_tests.specs.Listing.{listing}
use Rattle.xet_dedup_tests.proofs.list_store.ListStore.learn.Goals as goal

pub returns-in_ok-push-in-None-clause-listed : goal.returns-in_ok-push-in-None-clause-listed
returns-in_ok-push-in-None-clause-listed c =
    rw c.in_ok-push-in-None.ensures.items
    (listing-push c.args.self.now.xorbs.items c.args.xorb (ap (λ (l : List KnownXorb). listing l c.args.xorb.hash) (sym c.deref.ensures.value) ∙ c.index_of.ensures.none c.in-None.is))

pub returns-in_ok-push-in-None-clause-keeps : goal.returns-in_ok-push-in-None-clause-keeps
returns-in_ok-push-in-None-clause-keeps c = λ h lengths is. rw c.in_ok-push-in-None.ensures.items (listing-append c.args.self.now.xorbs.items _ h lengths is)
