use Rattle.mt_bwfread.proofs.Pointing.{points_counted, cues_counted}
use Rattle.mt_bwfread.proofs.wave.Wave.cue_count.Goals as goal

pub returns-clause-points : goal.returns-clause-points
returns-clause-points c = points_counted c.self.inside c.args.self.now c.self.invariant c.self.view_is

pub returns-clause-cues : goal.returns-clause-cues
returns-clause-cues c = cues_counted c.self.inside c.args.self.now c.self.invariant c.self.view_is
