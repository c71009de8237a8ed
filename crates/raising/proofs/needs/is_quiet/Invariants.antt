-- `is_quiet` looks at one degree after the other. The invariant: none of those passed that were enough is nearer to what was needed than the nearest.
use Rattle.std.proofs.Common.{ℕ, ◌-◌, ◌<◌, ◌≤◌}
use Rattle.peeling.specs.Peeling.{need_of, degree_of}
use Rattle.raising.proofs.needs.is_quiet.Given as goal

abbrev pub invariant-loop-place : goal.invariant-loop-place
invariant-loop-place l =
    let need = need_of l.fn.step.scope l.first in
    (p : ℕ) → l.from ≤ p → p < l.place → need ≤ degree_of l.fn.step.scope.extent.order l.fn.step.scope.extent.size l.work p
    → l.nearest ≤ degree_of l.fn.step.scope.extent.order l.fn.step.scope.extent.size l.work p - need
