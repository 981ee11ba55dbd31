use Rattle.std.proofs.Common.{◌∙◌, sym, arith}
use Rattle.mt_sessionview.proofs.Orders.{clip_key}
use Rattle.mt_sessionview.proofs.Placing.{is_past, is_found, is_another}
use Rattle.mt_sessionview.proofs.change_clip.clip_index.Goals as goal

pub returns-then-index-clips-clause-absent : goal.returns-then-index-clips-clause-absent
returns-then-index-clips-clause-absent c = is_past clip_key (c.args.at, c.args.place) c.args.clips.now c.clip_place-index.result c.requires c.clip_place-index.ensures (omega arith)

pub returns-then-is_clip_at-clause-found : goal.returns-then-is_clip_at-clause-found
returns-then-is_clip_at-clause-found c =
    is_found clip_key (c.args.at, c.args.place) c.args.clips.now c.clip_place-index.result c.index-clips-index.result c.requires (omega (arith, c.clip_place-index.ensures.inside)) c.index-clips-index.is (sym c.is_clip_at.ensures ∙ c.if-is_clip_at.true)

pub returns-clause-absent : goal.returns-clause-absent
returns-clause-absent c =
    is_another clip_key (c.args.at, c.args.place) c.args.clips.now c.clip_place-index.result c.index-clips-index.result c.requires c.clip_place-index.ensures (omega (arith, c.clip_place-index.ensures.inside)) c.index-clips-index.is (sym c.is_clip_at.ensures ∙ c.if-is_clip_at.false)
