-- The number of each refusal.
use Rattle.std.specs.Prelude.{ℕ}
use Rattle.mt_script.specs.declared.fault.ScriptFault.{ScriptFault}
use Rattle.mt_script.specs.declared.fault.ScriptFault.TheVariants.{Memory, Failed, BadLine, Refused}

abbrev pub number_of : ScriptFault → ℕ
number_of Memory = 0
number_of Failed = 20
number_of (BadLine line) = 41
number_of (Refused line cause) = 42
