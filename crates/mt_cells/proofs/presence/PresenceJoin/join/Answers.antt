use Rattle.std.proofs.lemmas.Result.{on_err_weaker}
use Rattle.mt_cells.proofs.StampSets.{whatever}
use Rattle.mt_cells.proofs.Presences.{tags_from, tags_to, removed_from, removed_to}
use Rattle.mt_cells.proofs.presence.PresenceJoin.join.Goals as goal

pub returns-in_err-append-clause-from : goal.returns-in_err-append-clause-from
returns-in_err-append-clause-from g c =
    let s = c.self.inside in
    let o = c.other.inside in
    whatever c.from_residual.result (tags_from c.args.self.now c.args.other s.tags s.removed o.tags o.removed c.self.view_is c.other.view_is c.append.new.self c.in_err-append.ensures.from)

pub returns-in_err-append-clause-to : goal.returns-in_err-append-clause-to
returns-in_err-append-clause-to g c =
    let s = c.self.inside in
    let o = c.other.inside in
    whatever c.from_residual.result (tags_to c.args.self.now c.args.other s.tags s.removed o.tags o.removed c.self.view_is c.other.view_is c.append.new.self c.in_err-append.ensures.to)

pub returns-clause-from : goal.returns-clause-from
returns-clause-from g c =
    let s = c.self.inside in
    let o = c.other.inside in
    on_err_weaker c.append-2.result
    (removed_from c.args.self.now c.args.other s.tags s.removed o.tags o.removed c.self.view_is c.other.view_is c.append.new.self c.append-2.new.self c.in_ok-append.ensures.union)
    c.append-2.ensures.from

pub returns-clause-to : goal.returns-clause-to
returns-clause-to g c =
    let s = c.self.inside in
    let o = c.other.inside in
    on_err_weaker c.append-2.result
    (removed_to c.args.self.now c.args.other s.tags s.removed o.tags o.removed c.self.view_is c.other.view_is c.append.new.self c.append-2.new.self c.in_ok-append.ensures.union)
    c.append-2.ensures.to
