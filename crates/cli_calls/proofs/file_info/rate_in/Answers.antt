use Rattle.std.proofs.Common.{◌∙◌, ap, sym}
use Rattle.cli_calls.specs.declared.file_info.InfoUnit.{InfoUnit}
use Rattle.cli_calls.specs.Info.{rate_in}
use Rattle.cli_calls.proofs.WaveHeaders.{own_rate}
use Rattle.cli_calls.proofs.file_info.rate_in.Goals as goal

pub returns-in-Ok : goal.returns-in-Ok
returns-in-Ok g c = λ text header wave.
    let found = c.in-Ok.ensures.found in
    own_rate text c.in-Ok.wave c.args.header.now c.rate.result header wave (found.0 ∙ c.bytes.ensures) c.rate.ensures.value
    ∙ ap (λ (u : InfoUnit). rate_in u text) (sym c.in-OwnRate.is)
