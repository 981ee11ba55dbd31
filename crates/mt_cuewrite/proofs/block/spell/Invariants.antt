use Rattle.std.proofs.Common.{◌≡◌, ◌*◌, take}
use Rattle.std.specs.List.{flat_map}
use Rattle.mt_cuewrite.specs.File.{sample}
use Rattle.mt_cuewrite.proofs.block.spell.Given as goal

abbrev pub invariant-loop-index : goal.invariant-loop-index
invariant-loop-index l = take (l.width * l.index) l.bytes ≡ flat_map (sample l.bits) (take l.index l.samples)
