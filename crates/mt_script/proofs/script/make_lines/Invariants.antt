use Rattle.std.proofs.Common.{length}
use Rattle.mt_script.specs.Running.{Reached}
use Rattle.mt_script.proofs.script.make_lines.Given as goal

abbrev pub invariant-loop-rest : goal.invariant-loop-rest
invariant-loop-rest g l = Reached l.fn.draft l.fn.text l.draft l.items.items l.count l.rest

abbrev pub decreases-loop-rest : goal.decreases-loop-rest
decreases-loop-rest g l = length l.rest
