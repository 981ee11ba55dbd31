use Rattle.std.proofs.Common.{◌∙◌, rules, arith, length-drop}
use Rattle.std.specs.Int.{w64}
use Rattle.std.proofs.lemmas.Int.{to_z-of_z}
use Rattle.mt_bwfread.proofs.Samples.{sample_place, sample_is}
use Rattle.mt_bwfread.proofs.wave.Wave.sample.Goals as goal

pub overflow_mul-at : goal.overflow_mul-at
overflow_mul-at c =
    let p = sample_place c.self.inside c.args.self.now c.args.frame c.args.channel c.self.invariant c.self.view_is c.requires.in_frames c.requires.in_channels in omega (arith, p.row)

pub overflow_add-at : goal.overflow_add-at
overflow_add-at c =
    let p = sample_place c.self.inside c.args.self.now c.args.frame c.args.channel c.self.invariant c.self.view_is c.requires.in_frames c.requires.in_channels in omega (arith, p.place)

pub overflow_mul-at-2 : goal.overflow_mul-at-2
overflow_mul-at-2 c =
    let p = sample_place c.self.inside c.args.self.now c.args.frame c.args.channel c.self.invariant c.self.view_is c.requires.in_frames c.requires.in_channels in omega (arith, p.end)

pub from_place-requires : goal.from_place-requires
from_place-requires c =
    let p = sample_place c.self.inside c.args.self.now c.args.frame c.args.channel c.self.invariant c.self.view_is c.requires.in_frames c.requires.in_channels in omega (arith, p.end)

pub scaled_at-requires-clause-room : goal.scaled_at-requires-clause-room
scaled_at-requires-clause-room c =
    let p = sample_place c.self.inside c.args.self.now c.args.frame c.args.channel c.self.invariant c.self.view_is c.requires.in_frames c.requires.in_channels in
    rw c.from_place.ensures (simp length-drop (omega (arith, p.end)))

pub returns-clause-value : goal.returns-clause-value
returns-clause-value c =
    to_z-of_z w64 c.scaled_at.result (search rules) ∙ sample_is c.self.inside c.args.self.now c.args.frame c.args.channel c.scaled_at.result c.self.invariant c.self.view_is (rw (← c.from_place.ensures) c.scaled_at.ensures.value)
