use Rattle.std.proofs.Common.{Ok, ap, sym, ◌∙◌, refl, true≢false}
use Rattle.uuid.specs.Text.{parsed}
use Rattle.mt_stamp.specs.Texts.{replica_bytes}
use Rattle.mt_stamp.proofs.Order.{same_replica}
use Rattle.mt_stamp.proofs.Texts.{replica_text_parses, replica_read_back, match_of_none}
use Rattle.mt_stamp.proofs.name.Replica.read.Goals as goal

pub returns-in-Ok-clause-again : goal.returns-in-Ok-clause-again
returns-in-Ok-clause-again c =
    λ r fits is. ap Ok (same_replica _ r (replica_read_back r c.args.text.now c.in-Ok.uuid _ fits is c.in-Ok.ensures.bytes c.as_u128.ensures))

pub returns-in-Err-clause-exact : goal.returns-in-Err-clause-exact
returns-in-Err-clause-exact c = match_of_none _ _ _ (λ w. absurd (true≢false (sym (c.in-Err.ensures.ok.1 w)))) refl

pub returns-in-Err-clause-again : goal.returns-in-Err-clause-again
returns-in-Err-clause-again c =
    λ r fits is. absurd (true≢false (sym (c.in-Err.ensures.ok.1 (replica_bytes r, ap parsed is ∙ sym (replica_text_parses r)))))
