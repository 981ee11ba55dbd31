use Rattle.std.proofs.Common.{None}
use Rattle.mt_opcodec.specs.OpReading.{stamps_at}
use Rattle.mt_opcodec.proofs.Tags.{goes_on, ends, at_end}
use Rattle.mt_opcodec.proofs.field_reader.stamps_of.Goals as goal

pub returns-in-Err : goal.returns-in-Err
returns-in-Err g c = ends c.in-Err.fault c.loop-index.tags.items c.args.count c.loop-index.index c.args.clock c.loop-index.last c.loop-index.rest.now (stamps_at c.args.count c.args.clock None c.args.bytes.now) c.loop-index-test.true c.in-Err.ensures c.loop-index.invariant

pub loop-index-preserved : goal.loop-index-preserved
loop-index-preserved g c =
    goes_on c.loop-index.tags.items c.push.new.self.items c.args.count c.loop-index.index c.args.clock c.loop-index.last c.loop-index.rest.now _ _ (stamps_at c.args.count c.args.clock None c.args.bytes.now) c.loop-index-test.true c.in_ok-push-in-Ok.ensures.items c.in-Ok.ensures c.loop-index.invariant

pub returns : goal.returns
returns g c =
    at_end c.loop-index.tags.items c.args.count c.loop-index.index c.args.clock c.loop-index.last c.loop-index.rest.now (stamps_at c.args.count c.args.clock None c.args.bytes.now) c.loop-index-test.false c.loop-index.invariant
