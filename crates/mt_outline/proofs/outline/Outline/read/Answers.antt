use Rattle.std.proofs.Common.{rules}
use Rattle.mt_outline.proofs.Passages.{prefix_on}
use Rattle.mt_outline.proofs.outline.Outline.read.Goals as goal

pub returns-in-None-clause-reads : goal.returns-in-None-clause-reads
returns-in-None-clause-reads g c = let rest = prefix_on _ _ _ _ _ _ c.in_ok-digest.ensures.bytes c.read_behind.ensures.reads.reads.prefix in search rules
