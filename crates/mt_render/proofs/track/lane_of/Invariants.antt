-- The parts of the segments below the index are there.
use Rattle.std.proofs.Common.{◌≡◌, ℕ, length, take}
use Rattle.mt_render.specs.Lanes.{lane_sum, clip_value}
use Rattle.mt_render.specs.Parts.{all_give, AreParts}
use Rattle.mt_render.proofs.track.lane_of.Given as goal

abbrev pub invariant-loop-index : goal.invariant-loop-index
invariant-loop-index g l = record {
  sum : (f c : ℕ) → all_give f c l.parts.items ≡ lane_sum (clip_value l.catalogue l.track.gain l.track.clips f c) (take l.index l.segments.items) f;
  count : length l.parts.items ≡ l.index;
  parts : AreParts l.segments.items l.parts.items;
}
