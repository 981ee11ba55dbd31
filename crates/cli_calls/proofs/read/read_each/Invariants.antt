use Rattle.std.proofs.Common.{◌≡◌, take, drop}
use Rattle.cli_calls.specs.Reading.{AreRead, GaveEach}
use Rattle.cli_calls.proofs.read.read_each.Given as goal

abbrev pub invariant-loop-place : goal.invariant-loop-place
invariant-loop-place g l = record {
  gave : GaveEach (g.I.OneInput.gives l.one g.row.R.Denot g.R.Read.remaining) (take l.place l.fn.inputs) l.values.items;
  read : AreRead g.R.Read.remaining (take l.place l.inputs);
  left : drop l.place l.inputs ≡ drop l.place l.fn.inputs;
}
