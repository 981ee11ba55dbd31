-- None of those below the index is of this digest.
use Rattle.std.proofs.Common.{◌≡◌, drop}
use Rattle.text_edl.specs.EditList.{name_of}
use Rattle.text_edl.proofs.named.name_of.Given as goal

abbrev pub invariant-loop-named : goal.invariant-loop-named
invariant-loop-named l = name_of (drop l.named-index l.names) l.source ≡ name_of l.names l.source
