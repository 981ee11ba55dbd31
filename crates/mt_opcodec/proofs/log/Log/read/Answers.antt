use Rattle.std.proofs.Common.{arith}
use Rattle.mt_opcodec.specs.LogValue.{operations}
use Rattle.mt_opcodec.proofs.LogTexts.{read_found, read_only}
use Rattle.mt_opcodec.proofs.log.Log.read.Goals as goal

pub returns-clause-found : goal.returns-clause-found
returns-clause-found g c = read_found operations c.args.bytes.now (λ i. omega (arith, c.type_inv.bytes i)) c.log_of_text.result c.log_of_text.ensures

pub returns-clause-only : goal.returns-clause-only
returns-clause-only g c = λ ops logged short text. read_only operations c.args.bytes.now c.log_of_text.result c.log_of_text.ensures ops logged short text
