use Rattle.std.proofs.Common.{refl, arith}
use Rattle.mt_opcodec.proofs.Operations.{op_len, op_exact, op_found, op_only, op_only_err}
use Rattle.mt_opcodec.proofs.op_reader.read_op.Goals as goal

pub overflow_sub-len : goal.overflow_sub-len
overflow_sub-len g c = let len = op_len c.args.bytes.now c.in-Ok.op c.in-Ok.rest.now (λ i. omega (arith, c.type_inv.bytes i)) c.in-Ok.ensures in omega arith

pub returns-in-Ok-clause-found : goal.returns-in-Ok-clause-found
returns-in-Ok-clause-found g c = op_found c.args.bytes.now c.in-Ok.op c.in-Ok.rest.now _ (λ i. omega (arith, c.type_inv.bytes i)) c.in-Ok.ensures refl

pub returns-in-Ok-clause-only : goal.returns-in-Ok-clause-only
returns-in-Ok-clause-only g c = op_only c.args.bytes.now c.in-Ok.op c.in-Ok.rest.now _ (λ i. omega (arith, c.type_inv.bytes i)) c.in-Ok.ensures refl

pub returns-in-Ok-clause-exact : goal.returns-in-Ok-clause-exact
returns-in-Ok-clause-exact g c = op_exact c.args.bytes.now c.in-Ok.op c.in-Ok.rest.now _ (λ i. omega (arith, c.type_inv.bytes i)) c.in-Ok.ensures refl

pub returns-in-Err-clause-only : goal.returns-in-Err-clause-only
returns-in-Err-clause-only g c = op_only_err c.in-Err.fault c.args.bytes.now c.in-Err.ensures
