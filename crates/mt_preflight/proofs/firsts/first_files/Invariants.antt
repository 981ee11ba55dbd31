-- The first files of those below the index.
use Rattle.std.proofs.Common.{take}
use Rattle.mt_preflight.specs.Using.{AreFirst}
use Rattle.mt_preflight.proofs.firsts.first_files.Given as goal

abbrev pub invariant-loop-file : goal.invariant-loop-file
invariant-loop-file g l = AreFirst (take l.file-index l.files) l.firsts
