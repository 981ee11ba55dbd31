use Rattle.std.proofs.Common.{map}
use Rattle.std.specs.Option.{option_copied}
use Rattle.mt_opcodec.proofs.Walked.{HaveWalked}
use Rattle.mt_opcodec.proofs.agreeing.rise_in_turns.Given as goal

abbrev pub invariant-loop-turn : goal.invariant-loop-turn
invariant-loop-turn g l = HaveWalked (map (λ x. x.now) l.fn.lists.items) (map (λ x. x.now) l.lists.items) (option_copied l.last)
