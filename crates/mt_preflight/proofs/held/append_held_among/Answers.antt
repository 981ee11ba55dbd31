use Rattle.std.proofs.Common.{Bor}
use Rattle.mt_op.specs.declared.op.Op.{Op}
use Rattle.mt_preflight.specs.WarningsText.{held_of}
use Rattle.mt_preflight.proofs.Adding.{lines_more_of}
use Rattle.mt_preflight.proofs.held.append_held_among.Goals as goal

pub loop-op-preserved : goal.loop-op-preserved
loop-op-preserved g c =
    lines_more_of (held_of c.args.items.now) (λ (x : Bor (Op g.row.C.Denot)). x.now) c.args.ops.now c.loop-op.op-index c.op-item.result c.args.lines.now c.loop-op.lines c.append_held_of.new.lines
    c.loop-op-test.true c.op-item.is c.loop-op.invariant c.in_ok-append_held_of.ensures
