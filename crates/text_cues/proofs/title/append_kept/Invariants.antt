use Rattle.std.proofs.Common.{◌≡◌, ◌++◌, take}
use Rattle.text_cues.specs.Title.{kept}
use Rattle.text_cues.proofs.title.append_kept.Given as goal

abbrev pub invariant-loop-byte : goal.invariant-loop-byte
invariant-loop-byte g l = l.text.items ≡ l.initial.text.items ++ kept (take l.byte-index l.bytes)
