use Rattle.std.proofs.Common.{ℕ, List, ◌<◌, length, ap, arith}
use Rattle.mt_tracklist.specs.Chain.{ChainList}
use Rattle.mt_tracklist.proofs.Links.{put_first}
use Rattle.mt_tracklist.proofs.chain.Chain.insert_first.Goals as goal

abbrev items_of : ChainList → List ℕ
items_of chain = chain.items

pub invariant_of-self : goal.invariant_of-self
invariant_of-self g c =
    let within : c.args.place < length c.self.inside.next.items = omega (arith, ap (λ (chain : ChainList). chain.count) c.self.view_is) in
    (put_first c.self.inside.next.items c.self.inside.first c.args.self.now.items c.self.invariant (ap items_of c.self.view_is) c.args.place within c.requires.new).chain

pub returns-clause-items : goal.returns-clause-items
returns-clause-items g c =
    let within : c.args.place < length c.self.inside.next.items = omega (arith, ap (λ (chain : ChainList). chain.count) c.self.view_is) in
    (put_first c.self.inside.next.items c.self.inside.first c.args.self.now.items c.self.invariant (ap items_of c.self.view_is) c.args.place within c.requires.new).items_are
