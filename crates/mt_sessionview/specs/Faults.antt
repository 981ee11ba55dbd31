-- The number of each refusal.
use Rattle.std.specs.Prelude.{ℕ}
use Rattle.mt_sessionview.specs.declared.fault.SessionFault.{SessionFault}
use Rattle.mt_sessionview.specs.declared.fault.SessionFault.TheVariants.{Memory, Write}

abbrev pub number_of : SessionFault → ℕ
number_of Memory = 0
number_of Write = 37
