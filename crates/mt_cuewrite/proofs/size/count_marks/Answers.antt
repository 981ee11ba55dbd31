use Rattle.std.proofs.Common.{arith, rules, refl, sym, ap, take, ◌∙◌}
use Rattle.mt_cuewrite.specs.File.{before}
use Rattle.mt_cuewrite.specs.Sizes.{padded_size}
use Rattle.mt_cuewrite.proofs.Marking.{few_of_those, fewer_than_bytes, list_so_far, list_as_before, count_more, count_as_before}
use Rattle.mt_cuewrite.proofs.Totals.{list_none}
use Rattle.mt_cuewrite.proofs.size.count_marks.Goals as goal
use Rattle.mt_cuewrite.proofs.size.count_marks.Goals.{then-is_before, else-is_before}

pub loop-marker-init : goal.loop-marker-init
loop-marker-init g c = record { markers = refl; list = rw (list_none c.args.end) refl }

pub overflow_add-marks : goal.overflow_add-marks
overflow_add-marks g c =
    let count = c.loop-marker.invariant.markers in
    let some = few_of_those c.args.end c.args.markers.now c.loop-marker.marker-index c.loop-marker.auto.marker-index-end in
    search rules

pub loop-marker-preserved : goal.loop-marker-preserved
loop-marker-preserved g c =
    let end = c.args.end in
    let ms = c.args.markers.now in
    let i = c.loop-marker.marker-index in
    let m = c.marker-item.result in
    let lt = c.loop-marker-test.true in
    let is = c.marker-item.is in
    elim c.if-is_before.branch [
      | then-is_before w ↦
          let shown = sym c.is_before.ensures ∙ w.if-is_before.true in
          let size = w.padded_size-label.ensures ∙ ap padded_size (w.from.ensures ∙ w.label_size.ensures.value 1) in
          rw w.marks-is record {
            markers = count_more end ms i c.loop-marker.marks.markers m lt is shown c.loop-marker.invariant.markers;
            list = w.min.ensures ∙ list_so_far end ms i c.loop-marker.marks.list w.padded_size-label.result w.from-region.result m lt is shown c.loop-marker.invariant.list size (w.from-region.ensures ∙ w.region_size.ensures.value end 1);
          }
      | else-is_before w ↦
          let hidden = sym c.is_before.ensures ∙ w.if-is_before.false in
          rw w.marks-is record {
            markers = count_as_before end ms i c.loop-marker.marks.markers m lt is hidden c.loop-marker.invariant.markers;
            list = list_as_before end ms i c.loop-marker.marks.list m lt is hidden c.loop-marker.invariant.list;
          }
    ]

pub returns-clause-few : goal.returns-clause-few
returns-clause-few g c = λ short.
    let all = fewer_than_bytes c.args.end (before c.args.end (take c.loop-marker.marker-index c.args.markers.now)) in
    let count = c.loop-marker.invariant.markers in
    let size = c.loop-marker.invariant.list in
    omega arith
