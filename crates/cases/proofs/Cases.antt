-- P1 to P9, a ring beside a star, both also inside A and B, the harmonic finder, zero bytes, the limits of a file,
-- links that do not ascend, journals, findings compared, the links in both of two files, a link more, and kinds: every case of the table holds; and 19 and 20
-- for an entry, by their law.
use mathlib.Core.Path.{refl}
use Rattle.graph.specs.Range.{sum, first, flat}
use Rattle.graph.specs.Order.{rank_by, nth_by}
use Rattle.graph.specs.Core.{apart}
use Rattle.graph.specs.Places.{links_to}
use Rattle.graph.specs.Harmonic.{unbeaten}
use Rattle.network.specs.File.{version_of, stride, kind_at, weight_of, any_order, file_refusal}
use Rattle.network.specs.Bytes.{kind_bytes}
use Rattle.network.specs.Refusals.{out_refusal}
use Rattle.finding.specs.Equality.{equal_refusal}
use Rattle.merging.specs.Shared.{is_shared}
use Rattle.merging.specs.Calls.{pair_refusal}
use Rattle.journal.specs.Entries.{header_refusal, entry_at}
use Rattle.journal.specs.Journal.{live, due, number, after}
use Rattle.journal.proofs.Numbers.{add-all-given, add-no-place}
use Rattle.cases.specs.Journals.{PlaceNumbersHold}
use Rattle.cases.specs.Cases.{cases, Hold}
use Rattle.cases.proofs.Compute.{all_sound}

-- by computing the test of the table, and by the law
pub cases-hold : Hold cases × PlaceNumbersHold
unfolding cases sum first flat apart links_to unbeaten rank_by nth_by version_of stride kind_at weight_of kind_bytes any_order file_refusal header_refusal entry_at live due number after equal_refusal out_refusal is_shared pair_refusal
cases-hold = (all_sound cases refl, λ n s u v l m absent. record { all_given = add-all-given n s u v l m absent; no_place = add-no-place n s u v l m absent })
