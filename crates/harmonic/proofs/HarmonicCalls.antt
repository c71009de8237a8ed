-- How the answers of the harmonic call are told. With everyone as A and B the work table holds every link of the file, so that what is found in it is
-- found in the file.
use Prim.Native.Nat.{ℕ, ◌≤◌}
use mathlib.Core.List.{List, [], ◌∷◌}
use mathlib.Core.Path.{◌≡◌, refl, ap, ◌∙◌}
use native.Mathlib.Omega.{arith}
use lib.ListN.{length}
use Rattle.graph.specs.Range.{sum}
use Rattle.graph.specs.Graph.{Graph, everyone, edges}
use Rattle.graph.specs.Shapes.{Closed}
use Rattle.graph.specs.Within.{within}
use Rattle.graph.specs.Harmonic.{Harmonic}
use Rattle.graph.proofs.Sums.{sum-empty, term-le-sum}
use Rattle.graph.proofs.Degrees.{edges-everyone}
use Rattle.graph.proofs.Harmonic.{harmonic-bound, harmonic-some, harmonic-none}
use Rattle.std.specs.Prelude.{None, Some, Result, Ok, IsErr, IfErr}
use Rattle.network.specs.declared.Refusal.{Refusal}
use Rattle.network.specs.declared.Totals.{Totals}
use Rattle.network.specs.File.{graph_of, kind_at}
use Rattle.network.specs.Groups.{group_of, totals}
use Rattle.network.specs.Refusals.{harmonic_refusal}
use Rattle.network.specs.Calls as call
use Rattle.network.proofs.Groups.{totals-same}
use Rattle.network.proofs.Answers.{call-handed}
use Rattle.network.proofs.Versions.{weight-range}
use Rattle.peeling.specs.Peeling.{Tabled}
use Rattle.filling.proofs.Times.{within_all}
use Rattle.filling.proofs.Lists.{tabled-as}
use Rattle.cores.specs.Entries.{Entered}
use Rattle.cores.proofs.WayIn.{entered-groups}
use Rattle.cores.proofs.Everyone.{ones, ones-all}
use Rattle.harmonic.specs.Calls.{HarmonicCall}
use Rattle.harmonic.specs.Walks.{HarmonicIn}

-- a refused call has left the tables as they were
pub harmonic-refused : {f s t w w' : List ℕ} {q : Refusal} (answer : Result Totals Refusal) → IsErr answer → IfErr answer (λ p. p ≡ q)
    → harmonic_refusal f (length s) (length t) (length w) ≡ Some q → w' ≡ w → HarmonicCall f s s t t w w' answer
harmonic-refused {s = s} {t = t} answer i h e k = call-handed answer i h e (ap (λ w. s ∷ t ∷ w ∷ []) k)

-- an accepted one writes what is found in the file
pub harmonic-done : {f s s' t t' w w₁ w₂ v : List ℕ} {n m : ℕ} {r : Totals} → harmonic_refusal f (length s) (length t) (length w) ≡ None
    → Entered f ones ones (length s) (length t) w w₁ v n m → HarmonicIn n m w₁ w₂ s s' t t' r → HarmonicCall f s s' t t' w w₂ (Ok r)
harmonic-done {f} {s' = s'} {t' = t'} {w₁ = w₁} {n = n} {m = m} {r = r} e d i =
    call.accepted r e refl (record {
      found = found;
      bound = harmonic-bound k found;
      groups = entered-groups d i.kept i.sources i.targets counted;
      linkless = λ z. let (p, q) = harmonic-none found (none z) in counted ∙ totals-same (omega (arith, none z, edges-everyone k (group_of s') (group_of t'))) p q;
      linked = λ l. rw counted (harmonic-some k found (some l));
    })
  where
    g : Graph
    g = graph_of f

    k : Closed g
    k = d.accepted.sound.closed

    tabled : Tabled g n m w₁
    tabled =
        let all = ones-all g.order d.accepted.sound.header.order-most in
        tabled-as (within g (group_of ones) (group_of ones)) g.weight (within_all k ones ones all all) d.tabled

    found : Harmonic g (group_of s') (group_of t')
    found = i.harmonic g tabled

    counted : r ≡ totals g (group_of s') (group_of t')
    counted = i.counted g tabled

    -- without edges E is 0,
    none : g.size ≡ 0 → edges g everyone everyone ≡ 0
    none z = ap (sum g.weight) z ∙ sum-empty g.weight

    -- and with one it is not, since each weighs at least 1
    some : 1 ≤ g.size → 1 ≤ edges g everyone everyone
    some l = omega (arith, term-le-sum g.weight g.size 0 l, (weight-range (kind_at f 0)).0)
