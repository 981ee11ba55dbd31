-- Working words: what stops the program without any command.
use Rattle.std.specs.Prelude.{◌≡◌, true}
use Rattle.mt_cli.specs.declared.stop.Stop.{Stop}
use Rattle.mt_cli.specs.declared.stop.Stop.TheVariants.{Refused, Told}

-- the words do not parse
abbrev pub IsMistake : Stop → Type 0
IsMistake (Refused fault why) = ⊥
IsMistake (Told text is_mistake) = is_mistake ≡ true
