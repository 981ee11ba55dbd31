use Rattle.std.proofs.Common.{sym, ap, ◌∙◌}
use Rattle.std.specs.Option.{option_copied}
use Rattle.std.specs.Ordering.{nat_cmp}
use Rattle.std.specs.BTreeMap.{get}
use Rattle.mt_bwfread.specs.Cues.{points_of, cues_of, cue_text}
use Rattle.mt_bwfread.proofs.Pointing.{cue_is}
use Rattle.text_cues.proofs.Firsts.{no_item, one_more_item}
use Rattle.text_cues.proofs.found.cues_with.Goals as goal
use Rattle.text_cues.proofs.found.cues_with.Goals.{in-Some+in_ok-push, in_default}

pub loop-index-preserved : goal.loop-index-preserved
loop-index-preserved g c =
    elim c.match-point.branch [
      | in-Some+in_ok-push w ↦
          let long = w.copied-length.ensures ∙ w.get.ensures.value ∙ c.requires.lengths w.in-Some.point.name in
          let labelled = ap option_copied w.copied-label.ensures ∙ ap option_copied {y = get nat_cmp c.args.labels.now w.in-Some.point.name} w.get-in-Some.ensures.value ∙ c.requires.labels w.in-Some.point.name in
          rw w.cues-is (one_more_item cue_text (cues_of c.args.wave.now) c.loop-index.index
          (record { name = w.in-Some.point.name; at = w.in-Some.point.at; length = w.copied-length.result; label = w.copied-label.result })
          c.loop-index.cues.items w.push.new.self.items
          (sym (cue_is c.args.wave.now c.loop-index.index w.in-Some.point w.copied-length.result (option_copied w.copied-label.result) w.in-Some.ensures long labelled))
          c.loop-index.invariant w.in_ok-push.ensures.items)
      | in_default w ↦
          elim (no_item (points_of c.args.wave.now) c.loop-index.index c.cue_count-index-end.result c.cue_count-index-end.ensures.points c.loop-index-test.true w.in_default.ensures) [ ]
    ]
