-- The finding call: that it is answered wherever file and tables are as required, and how its answers are told.
use Prim.Native.Nat.{ℕ}
use mathlib.Core.List.{List, [], ◌∷◌}
use mathlib.Core.Path.{◌≡◌, refl, sym, ap, ◌∙◌}
use lib.ListN.{length}
use Rattle.graph.specs.Within.{within}
use Rattle.graph.proofs.Within.{edges-inside, equal-level-within}
use Rattle.graph.proofs.Quiet.{outcome-within, outcome-inside, outcome-product, outcome-bounds}
use Rattle.graph.proofs.Groups.{equal-level-groups, bounds-groups, outcome-groups}
use Rattle.std.specs.Prelude.{None, Some, Result, Ok, IsErr, IfErr}
use Rattle.std.proofs.lemmas.Option.{none-some}
use Rattle.network.specs.declared.Refusal.{Refusal}
use Rattle.network.specs.File.{graph_of}
use Rattle.network.specs.Groups.{group_of}
use Rattle.network.specs.Refusals.{core_refusal}
use Rattle.network.specs.Calls as call
use Rattle.network.proofs.Groups.{among, totals-same}
use Rattle.network.proofs.Accepted.{accepted}
use Rattle.network.proofs.Answers.{call-handed}
use Rattle.cores.specs.Entries.{Entered}
use Rattle.cores.proofs.WayIn.{core-none, entered-groups}
use Rattle.searching.specs.declared.Ring.{Ring}
use Rattle.finding.specs.Findings.{FindingCall}
use Rattle.searching.specs.Searches.{FoundIn}

-- a refused finding has left the tables as they were
pub finding-refused : {f a b s t w w' : List ℕ} {q : Refusal} (answer : Result Ring Refusal) → IsErr answer → IfErr answer (λ p. p ≡ q)
    → core_refusal f a b (length s) (length t) (length w) ≡ Some q → w' ≡ w → FindingCall f a b s s t t w w' answer
finding-refused {f} {a} {b} {s} {t} {w} {q = q} answer i h e k =
    record {
      call = call-handed answer i h e (ap (λ w. s ∷ t ∷ w ∷ []) k);
      answered = λ h l.
          absurd (none-some q (sym (core-none f a b (length s) (length t) (length w) ((accepted f).0 h)
          record { a-long = l.a-long; b-long = l.b-long; sources = l.sources; targets = l.targets; work = l.work } (l.a-group, l.b-group)) ∙ e));
    }

-- an accepted one writes what is found among the links from A to B, which is what is found inside A and B
pub finding-done : {f a b s s' t t' w w₁ w₂ d : List ℕ} {n m : ℕ} {r : Ring} → core_refusal f a b (length s) (length t) (length w) ≡ None
    → Entered f a b (length s) (length t) w w₁ d n m → FoundIn n m w₁ w₂ s s' t t' r → FindingCall f a b s s' t t' w w₂ (Ok r)
finding-done {f} {a} {b} {r = r} e l i =
    let g = graph_of f in
    let h = within g (group_of a) (group_of b) in
    let k = l.accepted.sound.closed in
    let found = outcome-within k (group_of a) (group_of b) (i.outcome h l.tabled) in
    let (p, q) = outcome-inside found in
    record {
      call = call.accepted r e refl (record {
        outcome = among g a b (λ A B p q. outcome-groups k p q found);
        equal = among g a b (λ A B p q. equal-level-groups p q (equal-level-within k (group_of a) (group_of b) (i.equal h l.tabled)));
        bounds = among g a b (λ A B p q. bounds-groups p q (outcome-bounds k found));
        linkless = outcome-product k found;
        groups = entered-groups l i.kept i.sources i.targets (i.counted h l.tabled ∙ totals-same (edges-inside k (group_of a) (group_of b) p q) refl refl);
      });
      answered = λ h required. (r, refl);
    }
