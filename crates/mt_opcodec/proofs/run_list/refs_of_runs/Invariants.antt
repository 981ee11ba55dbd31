use Rattle.std.proofs.Common.{◌≡◌, take, map}
use Rattle.mt_opcodec.specs.Runs.{run_ops}
use Rattle.mt_opcodec.proofs.run_list.refs_of_runs.Given as goal

abbrev pub invariant-loop-run : goal.invariant-loop-run
invariant-loop-run g l = map (λ o. o.now) l.refs.items ≡ run_ops (take l.run-index l.runs)
