use Rattle.std.proofs.Common.{◌≡◌, map, take}
use Rattle.cli_calls.specs.Sources.{bytes_in}
use Rattle.cli_calls.proofs.sources.digests_in.Given as goal

abbrev pub invariant-loop-text : goal.invariant-loop-text
invariant-loop-text g l = map (λ file. file.now) l.files.items ≡ bytes_in (take l.text-index l.texts)
