use Rattle.std.proofs.Common.{◌≡◌, ℕ, suc, ◌-◌, ◌<◌, ◌++◌, List, true, length, sym, ap, ◌∙◌, arith}
use Rattle.std.proofs.lemmas.List.{append-nil}
use Rattle.mt_tracklist.specs.Chain.{ChainList, has}
use Rattle.mt_tracklist.specs.Links.{spelled}
use Rattle.mt_tracklist.proofs.Links.{in_range, walk_ends, walk_stays, walk_goes_on}
use Rattle.mt_tracklist.proofs.chain.Chain.to_vec.Goals as goal

abbrev items_of : ChainList → List ℕ
items_of chain = chain.items

pub returns-in_default : goal.returns-in_default
returns-in_default g c =
    let left = length c.self.inside.next.items - c.loop.counter in
    walk_ends c.self.inside.next.items c.args.self.now.items c.loop.places.items left c.loop.at c.in_default.is (c.loop.invariant left (omega arith))

pub index-at-requires : goal.index-at-requires
index-at-requires g c =
    let left = length c.self.inside.next.items - c.loop.counter - 1 in
    let there : has c.args.self.now.items c.in-Some.place ≡ true =
    walk_stays c.self.inside.next.items c.args.self.now.items c.loop.places.items left c.loop.at c.in-Some.place c.in-Some.is (c.loop.invariant (suc left) (omega arith)) in
    omega (arith, in_range c.self.inside.next.items c.self.inside.first c.args.self.now.items c.self.invariant (ap items_of c.self.view_is) c.in-Some.place there)

pub loop-preserved : goal.loop-preserved
loop-preserved g c =
    λ m more. let left : c.loop.places.items ++ spelled (suc m) c.self.inside.next.items c.loop.at ≡ c.args.self.now.items = c.loop.invariant (suc m) (omega arith) in
    let there : has c.args.self.now.items c.in-Some.place ≡ true =
    walk_stays c.self.inside.next.items c.args.self.now.items c.loop.places.items m c.loop.at c.in-Some.place c.in-Some.is left in
    let within : c.in-Some.place < length c.self.inside.next.items =
    in_range c.self.inside.next.items c.self.inside.first c.args.self.now.items c.self.invariant (ap items_of c.self.view_is) c.in-Some.place there in
    walk_goes_on c.self.inside.next.items c.args.self.now.items c.loop.places.items m c.loop.at c.in-Some.place c.in-Some.is left c.push.new.self.items c.index-at.result.now c.in_ok-push.ensures.items within c.index-at.ensures

pub returns : goal.returns
returns g c = sym (append-nil c.loop.places.items) ∙ c.loop.invariant 0 (omega arith)
