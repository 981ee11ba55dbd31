use Rattle.std.proofs.Common.{ℕ, List, map, ap, ◌∙◌, Bor, arith}
use Rattle.std.proofs.lemmas.List.{take_all}
use Rattle.sha2.specs.Sha256.{sha256}
use Rattle.cli_calls.specs.Sources.{bytes_in}
use Rattle.cli_calls.proofs.Keeping.{hashed_all}
use Rattle.cli_calls.proofs.sources.digests_in.Goals as goal

pub returns : goal.returns
returns g c =
    c.in_ok-digests.ensures ∙ hashed_all c.deref.result.now
    ∙ ap (map sha256) (ap (λ (l : List (Bor (List ℕ))). map (λ file. file.now) l) c.deref.ensures.value ∙ c.loop-text.invariant ∙ ap bytes_in (take_all c.loop-text.text-index c.args.texts.now (omega arith)))
