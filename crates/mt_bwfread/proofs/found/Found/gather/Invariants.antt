use Rattle.std.proofs.Common.{◌≡◌, length}
use Rattle.mt_bwfread.specs.Riff.{chunks_of, rest_of}
use Rattle.mt_bwfread.proofs.Firsts.{AreFirstSoFar}
use Rattle.mt_bwfread.proofs.found.Found.gather.Given as goal

abbrev pub invariant-loop-part : goal.invariant-loop-part
invariant-loop-part l = record {
  firsts : AreFirstSoFar l.found (chunks_of l.left) (chunks_of l.body);
  rest : rest_of l.left ≡ rest_of l.body;
}

abbrev pub decreases-loop-part : goal.decreases-loop-part
decreases-loop-part l = length l.left
