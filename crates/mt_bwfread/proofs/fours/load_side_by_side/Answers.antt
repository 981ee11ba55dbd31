use Rattle.std.proofs.Common.{◌+◌, ◌*◌, ◌∙◌, arith, rules}
use Rattle.std.specs.Int.{w32}
use Rattle.std.proofs.lemmas.Int.{to_z-of_z}
use Rattle.mt_bwfread.proofs.Sides.{behind, one_more}
use Rattle.mt_bwfread.proofs.fours.load_side_by_side.Goals as goal

pub fours-preserved : goal.fours-preserved
fours-preserved c =
    let i = c.fours.index in
    let b = c.args.bytes.now in
    let xs = c.fours.samples in
    let from = c.from_place.ensures in
    let e = c.four.ensures in
    let size = c.fours.invariant.size in
    record {
      size = search (rules, arith);
      read =
          one_more b _ (4 * i + 3) (4 * (i + 1)) _ (search (rules, arith)) (omega arith) (behind b _ 9 (i * 12) ((4 * i + 3) * 3) _ from (omega arith) (to_z-of_z w32 _ (search rules) ∙ e.fourth))
          (one_more b _ (4 * i + 2) (4 * i + 3) _ (search (rules, arith)) (omega arith) (behind b _ 6 (i * 12) ((4 * i + 2) * 3) _ from (omega arith) (to_z-of_z w32 _ (search rules) ∙ e.third))
          (one_more b _ (4 * i + 1) (4 * i + 2) _ (search (rules, arith)) (omega arith) (behind b _ 3 (i * 12) ((4 * i + 1) * 3) _ from (omega arith) (to_z-of_z w32 _ (search rules) ∙ e.second))
          (one_more b xs (4 * i) (4 * i + 1) _ (search (rules, arith)) (omega arith) (behind b _ 0 (i * 12) (4 * i * 3) _ from (omega arith) (to_z-of_z w32 _ (search rules) ∙ e.first)) c.fours.invariant.read)));
    }
