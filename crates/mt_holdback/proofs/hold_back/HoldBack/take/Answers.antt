use Rattle.std.proofs.Common.{Option, ap, ◌∙◌}
use Rattle.mt_holdback.specs.Queue.{contents_of}
use Rattle.mt_holdback.proofs.Offers.{told_of}
use Rattle.mt_holdback.proofs.hold_back.HoldBack.take.Goals as goal

pub returns-in-Ok : goal.returns-in-Ok
returns-in-Ok g c =
    let is = ap (λ (o : Option _). record { contents = contents_of c.self.inside.released.items o; failed = c.self.inside.failed }) c.take-waiting.ensures.value ∙ c.self.view_is in
    told_of g.T.Waits.rules c.take-waiting.result is c.if-self.false c.told.ensures (c.len-first.ensures ∙ c.self.inside.released.ok.0) (c.len.ensures ∙ c.take_in.new.released.ok.0) c.in-Ok.ensures
