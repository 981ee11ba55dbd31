use Rattle.std.proofs.Common.{◌≡◌, true, false, None}
use Rattle.mt_outline.specs.Passing.{Passes}
use Rattle.mt_outline.proofs.passing.Passing.take_some.Given as goal

abbrev pub invariant-loop : goal.invariant-loop
invariant-loop g l = record {
  come : Passes (g.R.Read.remaining l.fn.input.inner) (g.R.Read.remaining l.input.inner) l.fn.self l.self None;
  stays : l.fn.input.failed ≡ true → l.input ≡ l.fn.input;
  sound : l.fn.input.failed ≡ false → l.input.failed ≡ false;
}
