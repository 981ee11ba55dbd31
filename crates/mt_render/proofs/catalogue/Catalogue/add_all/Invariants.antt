use Rattle.std.proofs.Common.{map, take}
use Rattle.std.specs.List.{AllByRecursion}
use Rattle.mt_bwfread.specs.Wave.{IsWave}
use Rattle.mt_render.specs.Sources.{HasAdded}
use Rattle.mt_render.proofs.catalogue.Catalogue.add_all.Given as goal

abbrev pub invariant-loop-index : goal.invariant-loop-index
invariant-loop-index g l = record {
  added : HasAdded l.fn.self (map (λ file. file.now) (take l.index l.files)) l.self;
  waves : AllByRecursion IsWave (map (λ file. file.now) (take l.index l.files));
}
