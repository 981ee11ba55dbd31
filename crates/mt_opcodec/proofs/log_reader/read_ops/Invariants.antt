use Rattle.std.proofs.Common.{◌≡◌, ◌-◌, None}
use Rattle.mt_opcodec.specs.Versions.{newest_version}
use Rattle.mt_opcodec.specs.LogReading.{records_at}
use Rattle.mt_opcodec.proofs.Records.{with_front}
use Rattle.mt_opcodec.proofs.log_reader.read_ops.Given as goal

abbrev pub invariant-loop-index : goal.invariant-loop-index
invariant-loop-index g l = with_front l.ops.items (records_at newest_version (l.count - l.index) l.index l.last l.rest) ≡ records_at newest_version l.count 0 None l.bytes
