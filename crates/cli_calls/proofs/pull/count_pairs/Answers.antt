use Rattle.std.proofs.Common.{arith}
use Rattle.std.specs.Prelude.{map}
use Rattle.std.proofs.lemmas.List.{length-map}
use Rattle.cli_calls.proofs.Pulling.{zip_within, zip_within_right}
use Rattle.cli_calls.proofs.pull.count_pairs.Goals as goal

pub returns-then-names-things-clause-all : goal.returns-then-names-things-clause-all
returns-then-names-things-clause-all g c = omega (arith, zip_within (map (λ n. n.now) c.args.names.now) c.args.things.now, length-map c.args.names.now (λ n. n.now))

pub returns-else-names-things-clause-all : goal.returns-else-names-things-clause-all
returns-else-names-things-clause-all g c = zip_within_right (map (λ n. n.now) c.args.names.now) c.args.things.now
