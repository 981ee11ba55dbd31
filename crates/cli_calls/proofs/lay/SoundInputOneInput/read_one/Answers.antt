use Rattle.std.proofs.Common.{◌∙◌}
use Rattle.cli_calls.proofs.WaveHeaders.{sound_is}
use Rattle.cli_calls.proofs.lay.SoundInputOneInput.read_one.Goals as goal

pub returns-in-Ok-clause-ok : goal.returns-in-Ok-clause-ok
returns-in-Ok-clause-ok g c =
    let found = c.in-Ok.ensures.found in
    sound_is _ c.in-Ok.wave c.in_ok-header.header c.digest.result c.rate.result c.frames.result c.in_ok-header.ensures.ok (rw found.0 found.1) (found.0 ∙ c.bytes.ensures) c.digest.ensures
    c.rate.ensures.value c.frames.ensures.value
