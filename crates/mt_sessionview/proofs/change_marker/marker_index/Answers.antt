use Rattle.std.proofs.Common.{◌∙◌, sym, arith}
use Rattle.mt_sessionview.proofs.Orders.{marker_key}
use Rattle.mt_sessionview.proofs.Placing.{is_past, is_found, is_another}
use Rattle.mt_sessionview.proofs.change_marker.marker_index.Goals as goal

pub returns-then-index-markers-clause-absent : goal.returns-then-index-markers-clause-absent
returns-then-index-markers-clause-absent g c = is_past marker_key (c.args.at, c.args.marker) c.args.markers.now c.marker_place-index.result c.requires c.marker_place-index.ensures (omega arith)

pub returns-then-is_marker_at-clause-found : goal.returns-then-is_marker_at-clause-found
returns-then-is_marker_at-clause-found g c =
    is_found marker_key (c.args.at, c.args.marker) c.args.markers.now c.marker_place-index.result c.index-markers-index.result c.requires (omega (arith, c.marker_place-index.ensures.inside)) c.index-markers-index.is (sym c.is_marker_at.ensures ∙ c.if-is_marker_at.true)

pub returns-clause-absent : goal.returns-clause-absent
returns-clause-absent g c =
    is_another marker_key (c.args.at, c.args.marker) c.args.markers.now c.marker_place-index.result c.index-markers-index.result c.requires c.marker_place-index.ensures (omega (arith, c.marker_place-index.ensures.inside)) c.index-markers-index.is (sym c.is_marker_at.ensures ∙ c.if-is_marker_at.false)
