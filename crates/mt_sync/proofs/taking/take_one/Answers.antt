use Rattle.std.proofs.Common.{◌≡◌, ◌∷◌, [], Some, Err, sym, ap, ◌∙◌, subst}
use Rattle.std.specs.Option.{option_copied}
use Rattle.mt_sync.specs.declared.fault.TalkFault.{TalkFault}
use Rattle.mt_sync.specs.Taking.{TakesIn}
use Rattle.mt_sync.proofs.Joined.{one_taken, one_untaken}
use Rattle.mt_sync.proofs.taking.take_one.Goals as goal

pub returns-in-Ok-clause-takes : goal.returns-in-Ok-clause-takes
returns-in-Ok-clause-takes g c = one_taken c.args.editor.now c.take.new.self c.args.op c.in-Ok._taken c.in-Ok.ensures.gives c.in-Ok.ensures.holds

pub returns-in-Err-clause-takes : goal.returns-in-Err-clause-takes
returns-in-Err-clause-takes g c =
    let at : c.args.editor.now.log ≡ Some c.in-Some.log.now = sym c.log.ensures ∙ ap option_copied c.in-Some.is in
    subst (λ (fault : TalkFault). TakesIn c.args.editor.now.log (c.args.op ∷ []) (Err fault) c.take.new.self.log) (sym c.refusal_of.ensures)
    (one_untaken g.row.A.Denot c.args.editor.now c.take.new.self c.in-Some.log.now c.args.op c.in-Err.fault at c.dot-dot.ensures.valid c.runs-runs.ensures.logged.valid c.in-Err.ensures.gives c.in-Err.ensures.holds)
