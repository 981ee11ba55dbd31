use Rattle.mt_bwfread.specs.Cues.{named_length}
use Rattle.mt_bwfread.proofs.Naming.{first_here, first_later, first_none}
use Rattle.mt_bwfread.proofs.wave.Wave.length.Goals as goal

pub returns-then-said-name : goal.returns-then-said-name
returns-then-said-name c =
    first_here c.args.name c.loop-said.said-iterator c.next.new.self (named_length c.in-Some.said) _ c.in-Some.ensures.steps c.loop-said.invariant.2 c.if-said-name.true

pub loop-said-preserved : goal.loop-said-preserved
loop-said-preserved c =
    (tt, tt, first_later c.args.name c.loop-said.said-iterator c.next.new.self (named_length c.in-Some.said) _ c.in-Some.ensures.steps c.loop-said.invariant.2 c.if-said-name.false)

pub returns : goal.returns
returns c = first_none c.args.name c.loop-said.said-iterator _ c.in-None.ensures.steps.0 c.loop-said.invariant.2
