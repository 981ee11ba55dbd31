use Rattle.std.proofs.Common.{Option, Err, subst}
use Rattle.mt_opcodec.specs.LogValue.{LogMap}
use Rattle.mt_sync.specs.declared.fault.SyncFault.TheVariants as fault
use Rattle.mt_sync.specs.Conversing.{Begins, NotBegun}
use Rattle.mt_sync.proofs.Beginning.{not_called, begins, fails}
use Rattle.mt_sync.proofs.conversing.begin.Goals as goal

pub returns-in-Err-clause-begins : goal.returns-in-Err-clause-begins
returns-in-Err-clause-begins g c =
    let written = g.W.Write.contents c.args.writer.now.inner in
    subst (λ (l : Option LogMap). NotBegun l written written (Err (fault.Talk c.in-Err.fault))) c.in-Some.ensures.log (not_called c.in-Some.log.now c.in-Err.fault written c.in-Err.ensures)

pub returns-in-Ok-put-clause-begins : goal.returns-in-Ok-put-clause-begins
returns-in-Ok-put-clause-begins g c =
    let written = g.W.Write.contents c.args.writer.now.inner in
    let written' = g.W.Write.contents c.put.new.self.inner in
    (c.in-Ok.ensures.0, subst (λ (l : Option LogMap). Begins l written written') c.in-Some.ensures.log (begins c.in-Some.log.now c.in-Ok.begun.1.items c.as_slice.result.now written written' c.in-Ok.ensures.1 c.in-Ok.ensures.2 c.as_slice.ensures.value c.in-Ok-put.ensures.whole))

pub returns-in-Err-put-clause-begins : goal.returns-in-Err-put-clause-begins
returns-in-Err-put-clause-begins g c =
    let written = g.W.Write.contents c.args.writer.now.inner in
    let written' = g.W.Write.contents c.put.new.self.inner in
    subst (λ (l : Option LogMap). NotBegun l written written' (Err fault.Write)) c.in-Some.ensures.log (fails c.in-Some.log.now c.in-Ok.begun.1.items c.as_slice.result.now written written' c.in-Ok.ensures.2 c.as_slice.ensures.value c.in-Err-put.ensures.prefix)
