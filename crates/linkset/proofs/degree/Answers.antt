-- The links of the source stand between the two ends.
use Rattle.std.proofs.Common.{◌≡◌, ◌+◌, arith}
use Rattle.linkset.specs.Tables.{degree_of}
use Rattle.linkset.proofs.Degrees.{degree-between}
use Rattle.linkset.proofs.degree.Goals as goal

between : (c : goal.After-end_of) → c.begin_of-begin.result + degree_of c.args.set.now c.args.source ≡ c.end_of.result
between c =
    let (v, at) = c.requires.among in
    degree-between _ _ _ _ (c.begin_of-begin.ensures c.requires.sorted c.requires.few v at) (c.end_of.ensures c.requires.sorted c.requires.few v at)

pub overflow_sub-result : goal.overflow_sub-result
overflow_sub-result c = omega (arith, between c)

pub returns : goal.returns
returns c = omega (arith, between c)
