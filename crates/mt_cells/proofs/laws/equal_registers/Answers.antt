use Rattle.mt_cells.proofs.EqualRegisters.{registers_decided}
use Rattle.mt_cells.proofs.laws.equal_registers.Goals as goal

pub returns : goal.returns
returns g c = registers_decided g.T.Ord.cmp g.T.PartialEq.eq g.met.T.Ord.matches_eq c.args.register.now c.args.other.now c.eq.result c.eq.ensures
