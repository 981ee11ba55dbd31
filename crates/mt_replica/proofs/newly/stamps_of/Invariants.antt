-- The stamps so far and those that are left are all.
use Rattle.std.proofs.Common.{◌≡◌, ◌++◌, drop}
use Rattle.mt_sessionview.specs.Session.{stamps_of}
use Rattle.mt_replica.proofs.newly.stamps_of.Given as goal

abbrev pub invariant-loop-op : goal.invariant-loop-op
invariant-loop-op g l = l.stamps.items ++ stamps_of (drop l.op-index l.ops) ≡ stamps_of l.ops
