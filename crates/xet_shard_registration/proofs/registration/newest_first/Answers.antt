use Rattle.std.proofs.Common.{◌≡◌, rules}
use Rattle.std.proofs.lemmas.Fn.{always_returns_same}
use Rattle.std.specs.Ordering.{is_lt}
use Rattle.xet_shard_registration.proofs.Newest.{lent_newer, newer_order, newest_of}
use Rattle.xet_shard_registration.proofs.registration.newest_first.Goals as goal

pub returns : goal.returns
returns c =
    let compares = always_returns_same _ (λ a r. is_lt r ≡ lent_newer a.0.now a.1.0.now) _ (λ a r f called. search rules) in
    newest_of c.args.files.now c.in_ok-ordered.ordered.items c.sort_by.new.self.items c.in_ok-ordered.ensures
    (c.in_ok-sort_by.ensures.sorted lent_newer newer_order compares) (c.sort_by.ensures.stable lent_newer newer_order compares)
