use Rattle.std.proofs.Common.{◌≡◌, ◌-◌, None}
use Rattle.mt_opcodec.specs.OpReading.{stamps_at}
use Rattle.mt_opcodec.proofs.Tags.{with_front}
use Rattle.mt_opcodec.proofs.field_reader.stamps_of.Given as goal

abbrev pub invariant-loop-index : goal.invariant-loop-index
invariant-loop-index g l = with_front l.tags.items (stamps_at (l.count - l.index) l.clock l.last l.rest) ≡ stamps_at l.count l.clock None l.bytes
