use Rattle.std.proofs.Common.{sym, ◌∙◌}
use Rattle.mt_cells.specs.Together.{marks_are, same_marks-of}
use Rattle.mt_cells.proofs.laws.equal_presences.Goals as goal

pub returns : goal.returns
returns g c = ((λ same. marks_are c.args.first.now c.args.second.now (sym c.eq.ensures ∙ same)), (λ is. c.eq.ensures ∙ same_marks-of c.args.first.now c.args.second.now is))
