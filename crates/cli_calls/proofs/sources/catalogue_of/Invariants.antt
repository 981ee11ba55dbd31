use Rattle.std.proofs.Common.{◌≡◌, take}
use Rattle.mt_op.specs.declared.digest.Digest.{Digest}
use Rattle.mt_render.specs.Sources.{found, sources_of}
use Rattle.cli_calls.proofs.sources.catalogue_of.Given as goal

abbrev pub invariant-loop-file : goal.invariant-loop-file
invariant-loop-file g l = (d : Digest) → found l.catalogue d ≡ found (sources_of (take l.file-index l.kept)) d
