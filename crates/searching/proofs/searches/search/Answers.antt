-- `search` begins with the better of [k,k] and the lowest columns.
use Rattle.peeling.proofs.Totals.{weighed_kept}
use Rattle.searching.proofs.Turns.{equal-reaches, searched-after}
use Rattle.searching.proofs.searches.search.Goals as goal

pub search_from-requires-clause-reaches : goal.search_from-requires-clause-reaches
search_from-requires-clause-reaches c = equal-reaches c.requires.equal.0 c.try_low-start.ensures

pub search_from-requires-clause-weighed : goal.search_from-requires-clause-weighed
search_from-requires-clause-weighed c = weighed_kept c.requires.weighed c.try_low-start.ensures.kept

pub returns : goal.returns
returns c = searched-after c.try_low-start.ensures.kept c.search_from.ensures
