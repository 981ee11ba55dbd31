use Rattle.std.proofs.Common.{length, Option, sym, ap, ◌∙◌}
use Rattle.mt_holdback.specs.Queue.{waiting_in}
use Rattle.mt_holdback.proofs.Entries.{length_items}
use Rattle.mt_holdback.proofs.hold_back.HoldBack.held.Goals as goal

pub returns-in-Some : goal.returns-in-Some
returns-in-Some g c =
    c.count_of.ensures ∙ length_items c.in-Some.queue.items.entries ∙ ap (λ (o : Option _). length (waiting_in o)) (sym c.in-Some.is) ∙ ap (λ s. length s.contents.waiting) c.self.view_is
