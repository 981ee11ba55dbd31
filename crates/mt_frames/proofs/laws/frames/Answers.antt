use Rattle.mt_frames.proofs.FramesRead.{frames_are_read}
use Rattle.mt_frames.proofs.laws.frames.Goals as goal

pub returns : goal.returns
returns c = frames_are_read
