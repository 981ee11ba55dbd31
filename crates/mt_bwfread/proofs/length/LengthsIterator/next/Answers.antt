use Rattle.std.proofs.Common.{arith, length, sym, ap, ◌∙◌}
use Rattle.mt_bwfread.proofs.Listing.{next_length, no_length}
use Rattle.mt_bwfread.proofs.length.LengthsIterator.next.Goals as goal

pub returns-in_err-entry-clause-steps : goal.returns-in_err-entry-clause-steps
returns-in_err-entry-clause-steps c =
    let none = sym c.self.view_is ∙ no_length c.self.inside.list.now c.self.inside.file.now c.in_err-entry.ensures in
    rw c.from_residual.ensures (none, none)

pub returns-clause-steps : goal.returns-clause-steps
returns-clause-steps c =
    sym c.self.view_is ∙ next_length c.self.inside.list.now c.self.inside.file.now c.in_ok-entry.entry c.u32_at.result c.u32_at-2.result c.in_ok-entry.ensures c.u32_at.ensures c.u32_at-2.ensures

pub returns-clause-goes : goal.returns-clause-goes
returns-clause-goes c =
    let one_less = ap length (returns-clause-steps c) in
    record { on = λ _. (tt, tt, omega arith); keeps = tt; rests = λ _. tt }
