use Rattle.std.proofs.Common.{◌≡◌, ap, sym, ◌∙◌, Less}
use Rattle.std.specs.Option.{option_copied}
use Rattle.std.specs.Cmp.{ranked}
use Rattle.std.specs.Ordering.{nat_cmp}
use Rattle.mt_stamp.specs.declared.name.Replica.{Replica}
use Rattle.mt_opcodec.proofs.Ends.{past_last_run}
use Rattle.mt_opcodec.proofs.find.find_run.Goals as goal

pub returns-in-Less-clause-absent : goal.returns-in-Less-clause-absent
returns-in-Less-clause-absent g c =
    let last = c.in-Some.last.now in
    let less : Less ≡ nat_cmp last.replica.0 c.args.replica.0 = sym c.in-Less.is ∙ c.cmp.ensures ∙ ap (λ (s : Replica). nat_cmp s.0 c.args.replica.0) c.replica.ensures in
    past_last_run c.args.runs.now c.args.replica last c.requires (sym c.last.ensures.value ∙ ap option_copied c.in-Some.is) (ranked last.replica.0 c.args.replica.0 Less less)
