use Rattle.std.proofs.Common.{◌≡◌, ◌-◌, None}
use Rattle.mt_summary.specs.Messages.{summary_at}
use Rattle.mt_summary.proofs.ReadReplicas.{with_front}
use Rattle.mt_summary.proofs.reader.replicas_of.Given as goal

abbrev pub invariant-loop-index : goal.invariant-loop-index
invariant-loop-index g l = with_front l.all.items (summary_at (l.count - l.index) l.last l.rest) ≡ summary_at l.count None l.bytes
