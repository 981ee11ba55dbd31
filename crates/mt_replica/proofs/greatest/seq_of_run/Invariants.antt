-- What was found and what is left have the greatest number of all.
use Rattle.std.proofs.Common.{◌≡◌, drop, map}
use Rattle.std.specs.Prelude.{max}
use Rattle.mt_replica.specs.Made.{greatest_of}
use Rattle.mt_replica.specs.State.{own_seq}
use Rattle.mt_replica.proofs.greatest.seq_of_run.Given as goal

abbrev pub invariant-loop-op : goal.invariant-loop-op
invariant-loop-op g l = max l.greatest (greatest_of (map (own_seq l.name) (drop l.op-index l.ops))) ≡ greatest_of (map (own_seq l.name) l.ops)
