use Rattle.std.proofs.Common.{arith, ap, ◌∙◌, ◌++◌}
use Rattle.std.specs.Prelude.{map}
use Rattle.std.specs.Option.{option_map}
use Rattle.std.specs.List.{zip, flat_map}
use Rattle.std.specs.String.{string_bytes}
use Rattle.std.proofs.lemmas.List.{take_all}
use Rattle.std.proofs.lemmas.Option.{slice_get-map, slice_get-get_or}
use Rattle.cli_calls.specs.Pulling.{share_line}
use Rattle.cli_calls.proofs.Pulling.{zipped, text_more}
use Rattle.cli_calls.proofs.pull.append_shares.Goals as goal

pub loop-place-preserved : goal.loop-place-preserved
loop-place-preserved g c =
    text_more share_line (zip (map (λ n. n.now) c.args.names.now) c.args.shares.now) c.loop-place.place _ (string_bytes c.args.text.now) (string_bytes c.loop-place.text) (string_bytes c.append_share.new.text)
    (zipped (map (λ n. n.now) c.args.names.now) c.args.shares.now c.loop-place.place _ _
    (slice_get-map (λ n. n.now) c.args.names.now c.loop-place.place ∙ ap (option_map (λ n. n.now)) (slice_get-get_or c.args.names.now c.loop-place.place _ (omega (arith, c.loop-place-test.true, c.count_pairs-count.ensures.named))))
    (slice_get-get_or c.args.shares.now c.loop-place.place _ (omega (arith, c.loop-place-test.true, c.count_pairs-count.ensures.there))))
    c.loop-place.invariant c.in_ok-append_share.ensures

pub returns : goal.returns
returns g c =
    let all = zip (map (λ n. n.now) c.args.names.now) c.args.shares.now in
    c.loop-place.invariant ∙ ap (λ l. string_bytes c.args.text.now ++ flat_map share_line l) (take_all c.loop-place.place all (omega (arith, c.count_pairs-count.ensures.all)))
