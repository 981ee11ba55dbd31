use Rattle.std.proofs.Common.{◌≡◌, ◌-◌, None}
use Rattle.mt_opcodec.specs.Versions.{version_of}
use Rattle.mt_opcodec.specs.LogReading.{records_at}
use Rattle.mt_opcodec.specs.LogValue.{operations}
use Rattle.mt_opcodec.proofs.Records.{with_front}
use Rattle.mt_opcodec.proofs.RunLogs.{EndsAt}
use Rattle.mt_opcodec.proofs.log_reader.read_log.Given as goal

abbrev pub invariant-loop-record : goal.invariant-loop-record
invariant-loop-record g l =
    (with_front (operations l.log) (records_at l.version (l.count - l.record) l.record l.greatest l.rest) ≡ records_at l.version l.count 0 None l.bytes)
    × EndsAt l.greatest (operations l.log)
    × (l.asked ≡ version_of (operations l.log))
