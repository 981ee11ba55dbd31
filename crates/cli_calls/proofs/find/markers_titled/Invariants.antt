-- The stamps of those of the markers below the index that have the title are there.
use Rattle.std.proofs.Common.{◌≡◌, take}
use Rattle.cli_calls.specs.Finding.{markers_titled}
use Rattle.cli_calls.proofs.find.markers_titled.Given as goal

abbrev pub invariant-loop-marker : goal.invariant-loop-marker
invariant-loop-marker g l = l.stamps.items ≡ markers_titled l.title (take l.marker-index l.markers)
