use Rattle.mt_sessionview.proofs.Sifting.{IsSifting}
use Rattle.mt_sessionview.proofs.ready.ready_of.Given as goal

abbrev pub invariant-loop-place : goal.invariant-loop-place
invariant-loop-place g l = IsSifting (λ o. o.now) l.fn.ops.items l.sifted.items l.place l.kept l.items
