use Rattle.std.proofs.Common.{ℕ, List, ap, ◌∙◌, arith}
use Rattle.std.proofs.lemmas.List.{take_all}
use Rattle.mt_render.specs.Sources.{found, sources_of}
use Rattle.cli_calls.proofs.Keeping.{found_more}
use Rattle.cli_calls.proofs.sources.catalogue_of.Goals as goal

pub loop-file-init : goal.loop-file-init
loop-file-init g c = λ d. c.new-catalogue.ensures d

pub loop-file-preserved : goal.loop-file-preserved
loop-file-preserved g c = found_more c.args.kept.now c.loop-file.file-index _ c.loop-file.catalogue c.add_hashed.new.self c.loop-file-test.true c.file-item.is c.loop-file.invariant c.in-Ok.ensures.ok

pub returns : goal.returns
returns g c = λ d. c.loop-file.invariant d ∙ ap (λ (fs : List (List ℕ)). found (sources_of fs) d) (take_all c.loop-file.file-index c.args.kept.now (omega arith))
