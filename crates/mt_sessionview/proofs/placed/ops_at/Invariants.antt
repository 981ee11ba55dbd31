use Rattle.std.proofs.Common.{◌≡◌, map, take}
use Rattle.mt_sessionview.specs.Read.{op_at}
use Rattle.mt_sessionview.proofs.placed.ops_at.Given as goal

abbrev pub invariant-loop-index : goal.invariant-loop-index
invariant-loop-index g l = map (λ o. o.now) l.those.items ≡ map (op_at (map (λ o. o.now) l.ops)) (take l.index-index l.order)
