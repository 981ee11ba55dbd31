-- So far what was consumed is in the vector, and a latch that had failed is as it was.
use Rattle.std.proofs.Common.{◌≡◌, true}
use Rattle.std.specs.Io.KnownBytes.{Consumes}
use Rattle.cli_calls.proofs.read.read_into.Given as goal

abbrev pub invariant-loop-count : goal.invariant-loop-count
invariant-loop-count g l = record {
  come : Consumes (g.R.Read.remaining l.fn.input.inner) (g.R.Read.remaining l.input.inner) l.bytes.items;
  stays : l.fn.input.failed ≡ true → l.input ≡ l.fn.input;
}

abbrev pub decreases-loop-count : goal.decreases-loop-count
decreases-loop-count g l = l.input.reads_left
