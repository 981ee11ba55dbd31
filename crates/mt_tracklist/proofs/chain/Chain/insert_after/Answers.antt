use Rattle.std.proofs.Common.{ℕ, List, ◌<◌, length, ap, arith}
use Rattle.mt_tracklist.specs.Chain.{ChainList}
use Rattle.mt_tracklist.proofs.Links.{in_range, put_next}
use Rattle.mt_tracklist.proofs.chain.Chain.insert_after.Goals as goal

abbrev items_of : ChainList → List ℕ
items_of chain = chain.items

pub index-requires : goal.index-requires
index-requires g c =
    omega (arith, in_range c.self.inside.next.items c.self.inside.first c.args.self.now.items c.self.invariant (ap items_of c.self.view_is) c.args.before c.requires.there)

pub index_mut-requires-2 : goal.index_mut-requires-2
index_mut-requires-2 g c =
    omega (arith, in_range c.self.inside.next.items c.self.inside.first c.args.self.now.items c.self.invariant (ap items_of c.self.view_is) c.args.before c.requires.there)

pub invariant_of-self : goal.invariant_of-self
invariant_of-self g c =
    let within : c.args.place < length c.self.inside.next.items = omega (arith, ap (λ (chain : ChainList). chain.count) c.self.view_is) in
    (put_next c.self.inside.next.items c.self.inside.first c.args.self.now.items c.self.invariant (ap items_of c.self.view_is) c.args.before c.args.place c.index.result.now c.index.ensures c.requires.there within c.requires.new).chain

pub returns-clause-items : goal.returns-clause-items
returns-clause-items g c =
    let within : c.args.place < length c.self.inside.next.items = omega (arith, ap (λ (chain : ChainList). chain.count) c.self.view_is) in
    (put_next c.self.inside.next.items c.self.inside.first c.args.self.now.items c.self.invariant (ap items_of c.self.view_is) c.args.before c.args.place c.index.result.now c.index.ensures c.requires.there within c.requires.new).items_are
