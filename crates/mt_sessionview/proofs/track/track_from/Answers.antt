use Rattle.std.proofs.Common.{◌∙◌, Some, ap}
use Rattle.mt_sessionview.proofs.ItemCells.{track_of_cells}
use Rattle.mt_sessionview.proofs.track.track_from.Goals as goal

pub returns : goal.returns
returns g c = record {
  ok = λ ops held.
      ap Some c.track_with.ensures ∙ (λ i. Some (record { track = c.args.track; title = (c.in-Ok.ensures.ok ∙ c.get.ensures) i; gain = c.args.cells.now.gain.value; mute = c.args.cells.now.mute.value; clips = c.args.clips.items }))
      ∙ track_of_cells ops c.args.track c.args.cells.now c.args.clips.items held;
}
