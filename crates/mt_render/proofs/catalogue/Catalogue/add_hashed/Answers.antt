use Rattle.std.proofs.Common.{ℕ, List, [], ◌∷◌, append-nil, sym, ap, subst, ◌∙◌}
use Rattle.sha2.specs.Sha256.{sha256}
use Rattle.mt_render.specs.Sources.{Sources, found, HasAdded}
use Rattle.mt_render.proofs.Gathered.{added_more}
use Rattle.mt_render.proofs.catalogue.Catalogue.add_hashed.Goals as goal

pub returns-in-Ok-clause-ok : goal.returns-in-Ok-clause-ok
returns-in-Ok-clause-ok g c =
    subst (λ (f : List ℕ). HasAdded c.args.self.now (f ∷ []) c.add_under.new.self) c.bytes.ensures
    (added_more c.args.self.now c.args.self.now c.add_under.new.self [] c.bytes.result.now c.digest.result (λ d. ap (λ (s : Sources). found s d) (sym (append-nil c.args.self.now)))
    (c.digest.ensures ∙ ap sha256 (sym c.bytes.ensures)) c.in-Ok.ensures.first c.in-Ok.ensures.others)
