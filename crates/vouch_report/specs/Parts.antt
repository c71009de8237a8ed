-- The parts of a finding that the report needs.
use Rattle.searching.specs.declared.Ring.{Ring}
use Rattle.report.specs.declared.Numbers.{Numbers}

-- the numbers of a report are those of the finding
abbrev pub numbers_of : Ring → Numbers
numbers_of r =
    record {
      x = r.x;
      y = r.y;
      equal = r.equal;
      edges = r.totals.edges;
      sources = r.totals.sources;
      targets = r.totals.targets;
    }
