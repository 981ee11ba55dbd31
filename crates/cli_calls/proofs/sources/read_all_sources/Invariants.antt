use Rattle.std.proofs.Common.{◌≡◌, take, drop}
use Rattle.cli_calls.specs.Reading.{AreRead}
use Rattle.cli_calls.specs.Sources.{GaveWaves}
use Rattle.cli_calls.proofs.sources.read_all_sources.Given as goal

abbrev pub invariant-loop-place : goal.invariant-loop-place
invariant-loop-place g l = record {
  gave : GaveWaves g.R.Read.remaining (take l.place l.fn.inputs) l.kept.items;
  read : AreRead g.R.Read.remaining (take l.place l.inputs);
  left : drop l.place l.inputs ≡ drop l.place l.fn.inputs;
}
