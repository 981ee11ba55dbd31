use Rattle.std.proofs.Common.{arith}
use Rattle.mt_render.proofs.Cutting.{cut_gives}
use Rattle.mt_render.proofs.part.Part.cut.Goals as goal

pub returns : goal.returns
returns c f d = cut_gives c.args.self.now c.args.fades c.args.from c.args.to c.max.result c.min.result f d (omega arith) (omega arith) c.requires.alike
