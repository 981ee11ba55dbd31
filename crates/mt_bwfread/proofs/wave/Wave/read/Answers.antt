use Rattle.std.proofs.Common.{arith}
use Rattle.mt_bwfread.proofs.Refusals.{not_riff, not_wave, truncated, by_chunks, whole}
use Rattle.mt_bwfread.proofs.wave.Wave.read.Goals as goal

pub returns-clause-not_riff : goal.returns-clause-not_riff
returns-clause-not_riff c = not_riff c.args.text.now c.parse.result c.parse.ensures.fault

pub returns-clause-not_wave : goal.returns-clause-not_wave
returns-clause-not_wave c = not_wave c.args.text.now c.parse.result c.parse.ensures.fault

pub returns-clause-truncated : goal.returns-clause-truncated
returns-clause-truncated c = truncated c.args.text.now c.parse.result (λ i. omega (arith, c.type_inv.text i)) c.parse.ensures.fault

pub returns-clause-by_chunks : goal.returns-clause-by_chunks
returns-clause-by_chunks c = by_chunks c.args.text.now c.parse.result c.parse.ensures.fault

pub returns-clause-chunks : goal.returns-clause-chunks
returns-clause-chunks c = whole c.args.text.now c.parse.result (λ i. omega (arith, c.type_inv.text i)) c.parse.ensures.fault
