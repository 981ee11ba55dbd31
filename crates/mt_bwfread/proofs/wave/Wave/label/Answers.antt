use Rattle.mt_bwfread.specs.Cues.{named}
use Rattle.mt_bwfread.proofs.Naming.{first_here, first_later, first_none}
use Rattle.mt_bwfread.proofs.wave.Wave.label.Goals as goal

pub returns-then-label-name : goal.returns-then-label-name
returns-then-label-name c =
    first_here c.args.name c.loop-label.label-iterator c.next.new.self (named c.in-Some.label) _ c.in-Some.ensures.steps c.loop-label.invariant.2 c.if-label-name.true

pub loop-label-preserved : goal.loop-label-preserved
loop-label-preserved c =
    (tt, tt, first_later c.args.name c.loop-label.label-iterator c.next.new.self (named c.in-Some.label) _ c.in-Some.ensures.steps c.loop-label.invariant.2 c.if-label-name.false)

pub returns : goal.returns
returns c = first_none c.args.name c.loop-label.label-iterator _ c.in-None.ensures.steps.0 c.loop-label.invariant.2
