use Rattle.std.proofs.Common.{◌++◌}
use Rattle.std.specs.List.{flat_map}
use Rattle.mt_frames.specs.Frames.{frame_text}
use Rattle.mt_summary.specs.Messages.{ops_text, packs}
use Rattle.mt_summary.proofs.Cutting.{IsAt}
use Rattle.mt_summary.proofs.packs.put_ops_frames.Given as goal

abbrev pub invariant-loop-i : goal.invariant-loop-i
invariant-loop-i g l = IsAt l.ops l.from l.i l.texts.items l.out.items (l.initial.out.items ++ flat_map (λ pack. frame_text (ops_text pack)) (packs l.ops))
