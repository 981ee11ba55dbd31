use Rattle.std.proofs.Common.{◌≡◌, ◌+◌, drop}
use Rattle.mt_tracklist.specs.Skipping.{skipped}
use Rattle.mt_tracklist.proofs.track_list.after_skipping.Given as goal

abbrev pub invariant-loop-passed : goal.invariant-loop-passed
invariant-loop-passed l = skipped l.place l.placed-items ≡ l.passed + skipped l.place (drop l.passed l.placed-items)
