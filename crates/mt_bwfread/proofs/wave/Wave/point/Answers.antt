use Rattle.std.proofs.Common.{sym, arith}
use Rattle.std.proofs.lemmas.Option.{slice_get_past}
use Rattle.mt_bwfread.specs.Cues.{points_of}
use Rattle.mt_bwfread.proofs.Pointing.{points_kept, points_counted, point_is}
use Rattle.mt_bwfread.proofs.wave.Wave.point.Goals as goal

pub returns-then-index-cue_count : goal.returns-then-index-cue_count
returns-then-index-cue_count c = sym (slice_get_past (points_of c.args.self.now) c.args.index (omega (arith, c.cue_count.ensures.points)))

pub u32_at-requires : goal.u32_at-requires
u32_at-requires c =
    let fit = points_kept c.self.inside c.self.invariant in
    let counted = points_counted c.self.inside c.args.self.now c.self.invariant c.self.view_is in
    omega (arith, c.cue_count.ensures.points)

pub u32_at-requires-2 : goal.u32_at-requires-2
u32_at-requires-2 c =
    let fit = points_kept c.self.inside c.self.invariant in
    let counted = points_counted c.self.inside c.args.self.now c.self.invariant c.self.view_is in
    omega (arith, c.cue_count.ensures.points)

pub returns : goal.returns
returns c =
    let counted = points_counted c.self.inside c.args.self.now c.self.invariant c.self.view_is in
    point_is c.self.inside c.args.self.now c.args.index c.u32_at.result c.u32_at-2.result c.self.invariant c.self.view_is (omega (arith, c.cue_count.ensures.points)) c.u32_at.ensures c.u32_at-2.ensures
