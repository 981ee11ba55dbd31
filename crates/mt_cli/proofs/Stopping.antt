-- What stops a command, once it is explained.
use Rattle.std.proofs.Common.{◌≡◌, Result, Ok, Err, subst}
use Rattle.std.specs.Prelude.{IfErr}
use Rattle.mt_cli.specs.declared.stop.Exit.{Exit}
use Rattle.mt_cli.specs.Mistakes.{IsMistake}

-- what holds where the words do not parse holds as well
pub kept_by : (done result : Result (Unit {0}) Exit) (P : Type 0) → IfErr result (λ stop. IsMistake stop → done ≡ Err stop) → IfErr done (λ stop. IsMistake stop → P) → IfErr result (λ stop. IsMistake stop → P)
kept_by done (Ok unit) P same h = tt
kept_by done (Err stop) P same h = λ mistake. subst (λ (r : Result (Unit {0}) Exit). IfErr r (λ s. IsMistake s → P)) (same mistake) h mistake
