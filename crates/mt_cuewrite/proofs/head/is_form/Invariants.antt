use Rattle.std.proofs.Common.{◌≡◌, drop}
use Rattle.mt_cuewrite.specs.Head.{is_form}
use Rattle.mt_cuewrite.proofs.head.is_form.Given as goal

abbrev pub invariant-loop-index : goal.invariant-loop-index
invariant-loop-index l = is_form l.form l.text ≡ is_form (drop l.index l.form) (drop l.index l.text)
