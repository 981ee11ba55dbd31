use Rattle.std.proofs.Common.{refl, ap, sym, ◌∙◌}
use Rattle.std.specs.Prelude.{Ok}
use Rattle.mt_op.proofs.Digests.{text-decoded, no_text-refused, read-again, never_refused}
use Rattle.mt_op.proofs.digest.Digest.read.Goals as goal

pub returns-in-Ok-clause-bad_digest : goal.returns-in-Ok-clause-bad_digest
returns-in-Ok-clause-bad_digest c =
    let good = text-decoded c.args.text.now c.in-Ok.bytes (sym c.from_hex.ensures ∙ c.in-Ok.is) in
    (λ is. cc is, λ bad. cc (sym good ∙ bad))

pub returns-in-Ok-clause-again : goal.returns-in-Ok-clause-again
returns-in-Ok-clause-again c d is text = ap Ok (read-again c.args.text.now c.in-Ok.bytes d (sym c.from_hex.ensures ∙ c.in-Ok.is) is text)

pub returns-in-Err-clause-bad_digest : goal.returns-in-Err-clause-bad_digest
returns-in-Err-clause-bad_digest c = (λ _. no_text-refused c.args.text.now c.in-Err.field-0 (sym c.from_hex.ensures ∙ c.in-Err.is), λ _. refl)

pub returns-in-Err-clause-again : goal.returns-in-Err-clause-again
returns-in-Err-clause-again c d is text =
    elim (never_refused c.args.text.now c.in-Err.field-0 d (sym c.from_hex.ensures ∙ c.in-Err.is) is text) [ ]
