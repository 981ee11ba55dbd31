-- The stamps of those of the tracks below the index that have the title are there.
use Rattle.std.proofs.Common.{◌≡◌, take}
use Rattle.cli_calls.specs.Finding.{tracks_titled}
use Rattle.cli_calls.proofs.find.tracks_titled.Given as goal

abbrev pub invariant-loop-track : goal.invariant-loop-track
invariant-loop-track g l = l.stamps.items ≡ tracks_titled l.title (take l.track-index l.tracks)
