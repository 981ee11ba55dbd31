use Rattle.std.proofs.Common.{arith, length, drop, ◌-◌, sym, ap, ◌∙◌, length-drop}
use Rattle.std.proofs.lemmas.List.{take_all}
use Rattle.mt_bwfread.specs.Extension.{text_of}
use Rattle.mt_bwfread.proofs.Listing.{next_label, no_label}
use Rattle.mt_bwfread.proofs.label.LabelsIterator.next.Goals as goal

pub returns-in_err-entry-clause-steps : goal.returns-in_err-entry-clause-steps
returns-in_err-entry-clause-steps c =
    let none = sym c.self.view_is ∙ no_label c.self.inside.list.now c.self.inside.file.now c.in_err-entry.ensures in
    rw c.from_residual.ensures (none, none)

pub returns-clause-steps : goal.returns-clause-steps
returns-clause-steps c =
    let content = c.in_ok-entry.entry.part.content.now in
    let behind = take_all (length content - 4) (drop 4 content) (omega (arith, length-drop 4 content)) in
    sym c.self.view_is ∙ next_label c.self.inside.list.now c.self.inside.file.now c.in_ok-entry.entry c.u32_at.result c.text.result.now c.in_ok-entry.ensures c.u32_at.ensures (c.text.ensures ∙ ap text_of behind)

pub returns-clause-goes : goal.returns-clause-goes
returns-clause-goes c =
    let one_less = ap length (returns-clause-steps c) in
    record { on = λ _. (tt, tt, omega arith); keeps = tt; rests = λ _. tt }
