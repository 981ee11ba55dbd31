use Rattle.std.proofs.Common.{◌∙◌, ap}
use Rattle.mt_opcodec.specs.LogValue.{operations, log_of}
use Rattle.sha2.specs.Sha256.{sha256}
use Rattle.mt_opcodec.specs.LogText.{log_body}
use Rattle.mt_opcodec.specs.Runs.{run_ops}
use Rattle.mt_opcodec.proofs.Appends.{sealed}
use Rattle.mt_opcodec.proofs.Logs.{len_is}
use Rattle.mt_opcodec.proofs.Runs.{runs_logged}
use Rattle.mt_opcodec.proofs.log.Log.write.Goals as goal

pub put_records-requires : goal.put_records-requires
put_records-requires g c = record {
  empty = c.new-text.ensures.items;
  counted = c.len.ensures ∙ len_is c.args.self.now (run_ops c.runs.result.now) (ap log_of c.runs.ensures.value ∙ c.runs.ensures.whole) (runs_logged c.runs.result.now c.runs.ensures.runs);
}

pub returns-clause-ok : goal.returns-clause-ok
returns-clause-ok g c =
    sealed (operations c.args.self.now) c.put_records.new.out.items c.sha256_of-digest.result c.extend_from_slice.new.self.items (c.in_ok-put_records.ensures ∙ ap log_body c.runs.ensures.value) (c.sha256_of-digest.ensures ∙ ap sha256 c.as_slice.ensures.value) c.in_ok-extend_from_slice.ensures.items
