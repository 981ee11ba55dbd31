-- The operations of one log, beside another (working definitions).
use Rattle.std.specs.Prelude.{Bool, true, false, List, ◌++◌, map, filter}
use Rattle.mt_op.specs.Operation.{Operation}
use Rattle.mt_opcodec.specs.LogValue.{LogMap}
use Rattle.mt_logdiff.specs.Beside.{lacks, has_another, alone, clashing, Told, told_as}

-- those under whose dots the other one has nothing, and those under whose dots it has another one
pub record PartsOf : Type 0 where
  pub alone : List Operation
  pub clashing : List Operation

abbrev pub parts_of : LogMap → List Operation → PartsOf
parts_of other ops = record { alone = filter (lacks other) ops; clashing = filter (has_another other) ops }

abbrev pub both_parts : PartsOf → PartsOf → PartsOf
both_parts p q = record { alone = p.alone ++ q.alone; clashing = p.clashing ++ q.clashing }

-- those of a log beside another one
abbrev pub parts_beside : LogMap → LogMap → PartsOf
parts_beside one other = record { alone = alone one other; clashing = clashing one other }

-- what is told of them, as of the left or of the right log
abbrev pub told_in : Bool → PartsOf → List Told
told_in right parts = map (told_as right false) parts.alone ++ map (told_as right true) parts.clashing
