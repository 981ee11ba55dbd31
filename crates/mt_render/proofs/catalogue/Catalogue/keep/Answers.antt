use Rattle.std.proofs.Common.{◌∙◌, ap}
use Rattle.mt_render.specs.Sources.{found}
use Rattle.mt_render.proofs.Digests.{digests_apart}
use Rattle.mt_render.proofs.catalogue.Catalogue.keep.Goals as goal

pub returns-in_ok-insert-clause-others : goal.returns-in_ok-insert-clause-others
returns-in_ok-insert-clause-others g c = λ e differ. c.in_ok-insert.ensures.updates.2 e (digests_apart c.args.digest e differ) ∙ ap (λ s. found s e) c.self.view_is
