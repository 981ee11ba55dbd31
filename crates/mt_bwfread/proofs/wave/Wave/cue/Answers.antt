use Rattle.std.specs.Option.{option_copied}
use Rattle.mt_bwfread.proofs.Pointing.{cue_is, no_cue}
use Rattle.mt_bwfread.proofs.wave.Wave.cue.Goals as goal

pub returns-in_err-point : goal.returns-in_err-point
returns-in_err-point c = rw c.from_residual.ensures (no_cue c.args.self.now c.args.index c.in_err-point.ensures)

pub returns : goal.returns
returns c = cue_is c.args.self.now c.args.index c.in_ok-point.point c.length.result (option_copied c.label.result) c.in_ok-point.ensures c.length.ensures c.label.ensures
