use Rattle.std.proofs.Common.{get_or}
use Rattle.std.proofs.Math.ListN.{set}
use Rattle.cli_calls.specs.declared.fault.CliFault.TheVariants.{Memory}
use Rattle.cli_calls.specs.Reading.{IsRead, FirstCause}
use Rattle.cli_calls.proofs.Readers.{first_starves, told_as, cause_at, gave_more, read_more, left_more}
use Rattle.cli_calls.proofs.read.read_each.Goals as goal

pub returns-in_err-clone-clause-err : goal.returns-in_err-clone-clause-err
returns-in_err-clone-clause-err g c =
    told_as c.from_residual.result (FirstCause (IsRead g.R.Read.remaining) (g.I.OneInput.gives c.args.one.now _ g.R.Read.remaining) (g.I.OneInput.cause c.args.one.now _ g.R.Read.remaining) 0 c.args.inputs.now c.args.inputs.now) Memory c.from_residual.ensures.1
    (first_starves g.R.Read.remaining (g.I.OneInput.gives c.args.one.now _ g.R.Read.remaining) (g.I.OneInput.cause c.args.one.now _ g.R.Read.remaining) c.starves.ensures 0 c.args.inputs.now)

pub returns-in_err-value-clause-err : goal.returns-in_err-value-clause-err
returns-in_err-value-clause-err g c =
    told_as c.from_residual-in_err-value.result (FirstCause (IsRead g.R.Read.remaining) (g.I.OneInput.gives c.args.one.now _ g.R.Read.remaining) (g.I.OneInput.cause c.args.one.now _ g.R.Read.remaining) 0 c.args.inputs.now (set c.loop-place.inputs c.loop-place.place c.read_one.new.input)) c.in_err-value.field-0.0 c.from_residual-in_err-value.ensures.1
    (cause_at g.R.Read.remaining c.args.inputs.now c.loop-place.inputs c.loop-place.place c.index-inputs-place.result c.read_one.new.input c.loop-place.auto.inputs c.loop-place-test.true (g.I.OneInput.gives c.args.one.now _ g.R.Read.remaining) (g.I.OneInput.cause c.args.one.now _ g.R.Read.remaining) c.loop-place.values.items c.in_err-value.field-0.0 c.loop-place.invariant.left c.index-inputs-place.is c.loop-place.invariant.gave c.loop-place.invariant.read c.in_err-value.ensures.err)

pub returns-in_err-push-clause-err : goal.returns-in_err-push-clause-err
returns-in_err-push-clause-err g c =
    told_as c.from_residual-in_err-push.result (FirstCause (IsRead g.R.Read.remaining) (g.I.OneInput.gives c.args.one.now _ g.R.Read.remaining) (g.I.OneInput.cause c.args.one.now _ g.R.Read.remaining) 0 c.args.inputs.now (set c.loop-place.inputs c.loop-place.place c.read_one.new.input)) Memory c.from_residual-in_err-push.ensures.1
    (cause_at g.R.Read.remaining c.args.inputs.now c.loop-place.inputs c.loop-place.place c.index-inputs-place.result c.read_one.new.input c.loop-place.auto.inputs c.loop-place-test.true (g.I.OneInput.gives c.args.one.now _ g.R.Read.remaining) (g.I.OneInput.cause c.args.one.now _ g.R.Read.remaining) c.loop-place.values.items Memory c.loop-place.invariant.left c.index-inputs-place.is c.loop-place.invariant.gave c.loop-place.invariant.read (c.starves.ensures c.loop-place.place (get_or c.loop-place.inputs c.loop-place.place c.index-inputs-place.result) c.read_one.new.input c.read_one.ensures.rest))

pub loop-place-preserved : goal.loop-place-preserved
loop-place-preserved g c = record {
  read = read_more g.R.Read.remaining c.args.inputs.now c.loop-place.inputs c.loop-place.place c.index-inputs-place.result c.read_one.new.input c.loop-place.auto.inputs c.loop-place-test.true c.loop-place.invariant.read c.in_ok-value.ensures.read;
  gave = rw c.in_ok-push.ensures.items (gave_more g.R.Read.remaining c.args.inputs.now c.loop-place.inputs c.loop-place.place c.index-inputs-place.result c.read_one.new.input c.loop-place.auto.inputs c.loop-place-test.true (g.I.OneInput.gives c.args.one.now _ g.R.Read.remaining) c.loop-place.values.items c.in_ok-value.value c.loop-place.invariant.left c.index-inputs-place.is c.loop-place.invariant.gave c.in_ok-value.ensures.ok);
  left = left_more c.loop-place.place c.loop-place.inputs c.args.inputs.now c.read_one.new.input c.loop-place.invariant.left;
}
