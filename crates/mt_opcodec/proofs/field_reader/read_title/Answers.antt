use Rattle.mt_opcodec.proofs.Fields.{no_title}
use Rattle.mt_opcodec.proofs.field_reader.read_title.Goals as goal

pub returns-in_default : goal.returns-in_default
returns-in_default g c = no_title c.args.bytes.now c.in_default.ensures.cases.0
