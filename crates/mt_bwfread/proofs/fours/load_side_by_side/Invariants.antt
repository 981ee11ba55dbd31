use Rattle.std.proofs.Common.{◌≡◌, ◌*◌, length}
use Rattle.mt_bwfread.proofs.Sides.{AreFirst}
use Rattle.mt_bwfread.proofs.fours.load_side_by_side.Given as goal

abbrev pub invariant-fours : goal.invariant-fours
invariant-fours l = record {
  size : length l.samples ≡ length l.fn.samples;
  read : AreFirst l.bytes l.samples (4 * l.index);
}

abbrev pub invariant-ones : goal.invariant-ones
invariant-ones l = record {
  size : length l.samples ≡ length l.fn.samples;
  read : AreFirst l.bytes l.samples l.index;
}
