-- The stamps of those of the clips below the index that play the recording are there.
use Rattle.std.proofs.Common.{◌≡◌, ◌++◌, take}
use Rattle.cli_calls.specs.Finding.{clips_playing}
use Rattle.cli_calls.proofs.find.push_playing.Given as goal

abbrev pub invariant-loop-clip : goal.invariant-loop-clip
invariant-loop-clip g l = l.stamps.items ≡ l.initial.stamps.items ++ clips_playing l.source (take l.clip-index l.clips)
