use Rattle.std.proofs.Common.{arith, ap, ◌∙◌}
use Rattle.std.specs.Prelude.{map}
use Rattle.std.specs.Option.{option_map}
use Rattle.std.specs.List.{zip}
use Rattle.std.proofs.lemmas.List.{take_all}
use Rattle.std.proofs.lemmas.Option.{slice_get-map, slice_get-get_or}
use Rattle.cli_calls.specs.SourcesListing.{given}
use Rattle.cli_calls.proofs.Pulling.{zipped}
use Rattle.cli_calls.proofs.SourcesListing.{mapped_more}
use Rattle.cli_calls.proofs.source_list.given_files.Goals as goal

pub loop-place-preserved : goal.loop-place-preserved
loop-place-preserved g c =
    let names = map (λ n. n.now) c.args.names.now in
    rw (c.in_ok-push.ensures.items, c.loop-place.invariant)
    (mapped_more given (zip names c.args.recordings.now) c.loop-place.place _
    (zipped names c.args.recordings.now c.loop-place.place _ _
    (slice_get-map (λ n. n.now) c.args.names.now c.loop-place.place ∙ ap (option_map (λ n. n.now)) (slice_get-get_or c.args.names.now c.loop-place.place _ (omega (arith, c.loop-place-test.true, c.count_pairs-count.ensures.named))))
    (slice_get-get_or c.args.recordings.now c.loop-place.place _ (omega (arith, c.loop-place-test.true, c.count_pairs-count.ensures.there)))))

pub returns : goal.returns
returns g c =
    let files = zip (map (λ n. n.now) c.args.names.now) c.args.recordings.now in
    c.loop-place.invariant ∙ ap (map given) (take_all c.loop-place.place files (omega (arith, c.count_pairs-count.ensures.all)))
