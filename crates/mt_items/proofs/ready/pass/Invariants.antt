use Rattle.std.proofs.Common.{map, drop}
use Rattle.mt_items.proofs.Fresh.{IsPassing}
use Rattle.mt_items.proofs.ready.pass.Given as goal

abbrev pub invariant-loop-place : goal.invariant-loop-place
invariant-loop-place g l = IsPassing (map (λ o. o.now) l.initial.ops) l.items (map (λ o. o.now) (drop l.place l.ops))
