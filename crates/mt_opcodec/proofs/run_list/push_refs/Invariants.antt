use Rattle.std.proofs.Common.{◌≡◌, ◌++◌, take, map}
use Rattle.mt_opcodec.proofs.run_list.push_refs.Given as goal

abbrev pub invariant-loop-op : goal.invariant-loop-op
invariant-loop-op g l = map (λ o. o.now) l.refs.items ≡ map (λ o. o.now) l.fn.refs.items ++ take l.op-index l.ops
