use Rattle.std.proofs.Common.{length, arith}
use Rattle.mt_bwfread.proofs.Filling.{first_place, room_for, sample_behind, filled}
use Rattle.mt_bwfread.proofs.wave.Wave.fill.Goals as goal

pub from_place-requires : goal.from_place-requires
from_place-requires c =
    let p = first_place c.self.inside c.args.self.now c.args.first c.args.channel c.self.invariant c.self.view_is (omega arith) c.requires.in_channels in omega (arith, p.end)

pub load-requires-clause-room : goal.load-requires-clause-room
load-requires-clause-room c =
    room_for c.self.inside c.args.self.now (length c.split_at_mut-sounding.result.0.now) c.args.first c.args.channel c.from_place.result.now c.self.invariant c.self.view_is (omega arith)
    (omega (arith, c.split_at_mut-sounding.ensures.front_len)) c.requires.in_channels c.from_place.ensures

pub returns : goal.returns
returns c =
    filled c.args.self.now c.args.first c.args.channel c.self.inside.frames (length c.args.samples.now) c.load.new.samples c.silence-2.new.samples
    (rw c.self.view_is at c.self.invariant.frames) (omega arith) (omega arith) (omega arith)
    (λ k h. sample_behind c.self.inside c.args.self.now c.args.first k c.args.channel c.from_place.result.now _ c.self.invariant c.self.view_is c.from_place.ensures (c.load.ensures k h))
    c.silence-2.ensures
