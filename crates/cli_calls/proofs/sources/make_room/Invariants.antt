-- What is made room of is small.
use Rattle.std.proofs.Common.{◌≤◌}
use Rattle.std.specs.List.{AllByRecursion}
use Rattle.std.specs.Vec.{vec_len, vec_capacity}
use Rattle.cli_calls.proofs.sources.make_room.Given as goal

abbrev pub invariant-loop-text : goal.invariant-loop-text
invariant-loop-text g l = AllByRecursion (λ room. vec_capacity room ≤ 33554432) l.rooms.items

abbrev pub decreases-loop-text : goal.decreases-loop-text
decreases-loop-text g l = vec_len l.group
