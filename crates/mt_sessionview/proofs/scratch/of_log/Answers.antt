use Rattle.mt_opcodec.specs.LogValue.{operations}
use Rattle.mt_sessionview.proofs.Parting.{made_of_parts}
use Rattle.mt_sessionview.proofs.scratch.of_log.Goals as goal

pub returns : goal.returns
returns g c = record {
  ok = made_of_parts (operations c.args.log) c.session_of_parts.result c.in_ok-parts.parts.tracks.items c.in_ok-parts.parts.cells.items c.in_ok-parts.parts.held c.in_ok-parts.ensures.ok c.session_of_parts.ensures.ok;
}
