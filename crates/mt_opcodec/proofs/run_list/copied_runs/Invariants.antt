use Rattle.std.proofs.Common.{◌≡◌, take}
use Rattle.mt_opcodec.proofs.run_list.copied_runs.Given as goal

abbrev pub invariant-loop-run : goal.invariant-loop-run
invariant-loop-run g l = l.copies.items ≡ take l.run-index l.runs
