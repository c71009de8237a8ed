-- What the calls on cores have done, from what was done with the links from A to B: their cores, kept inside A and B, and their levels are those
-- inside A and B.
use Prim.Native.Nat.{ℕ}
use mathlib.Core.List.{List}
use mathlib.Core.Path.{◌≡◌, sym, ap, subst, ◌∙◌}
use native.Mathlib.Omega.{arith}
use lib.ListN.{length}
use Rattle.graph.specs.Range.{sum, if}
use Rattle.graph.specs.Shapes.{Same}
use Rattle.graph.specs.Core.{CoreInside, Core}
use Rattle.graph.specs.Within.{within, cut}
use Rattle.graph.proofs.Degrees.{edges-same}
use Rattle.graph.proofs.Exists.{core-same, core-zero, core-zero-in}
use Rattle.graph.proofs.Within.{edges-within, core-within, within-sources, within-targets, level-within, level-across-within, equal-level-within}
use Rattle.graph.proofs.Groups.{core-groups, level-groups, level-across-groups, equal-level-groups}
use Rattle.network.specs.declared.Refusal.{Refusal}
use Rattle.network.specs.declared.Totals.{Totals}
use Rattle.network.specs.File.{graph_of}
use Rattle.network.specs.Groups.{group_of}
use Rattle.network.proofs.Groups.{among, totals-same}
use Rattle.network.proofs.Answers.{call-done}
use Rattle.peeling.specs.declared.Scope.{Scope}
use Rattle.grouping.specs.Groups.{CoreIn}
use Rattle.climbing.specs.declared.Rise.TheVariants.{Targets, Sources, Both}
use Rattle.std.specs.Prelude.{Option, None, Some, Result}
use Rattle.cores.specs.Calls.{CoreTold, LevelBy, LevelCall, LevelAcrossCall, EqualLevelCall}
use Rattle.cores.specs.Entries.{entry_refusal, Entered, LevelWithin, KeptInside}
use Rattle.cores.proofs.Copying.{kept-inside}
use Rattle.cores.proofs.WayIn.{entry-none, not-zero, equal-entry, level-entry, entered-groups}

-- the core of the links from A to B, with its groups kept inside A and B, is the core inside them
pub core-told : {f a b s s₁ s₂ t t₁ t₂ w w₁ w₂ d : List ℕ} (c : Scope) {r : Totals} {x y i j : ℕ} → Entered f a b (length s) (length t) w w₁ d c.extent.order c.extent.size
    → CoreIn c w₁ w₂ s s₁ t t₁ r → c.x ≡ x → c.y ≡ y → KeptInside x c.extent.order a s₁ s₂ r.sources i → KeptInside y c.extent.order b t₁ t₂ r.targets j
    → CoreTold f a b x y s s₂ t t₂ w w₂ (record { edges = r.edges; sources = i; targets = j })
core-told {f} {a} {b} {s} {s₁} {s₂} {t} {t₁} {t₂} c {r} {x} {y} e h p q s-kept t-kept =
    let g = graph_of f in
    let links = within g (group_of a) (group_of b) in
    let k = e.accepted.sound.closed in
    let found = rw (p, q) at (h.core links e.tabled) in
    let count = h.counted links e.tabled in
    let sources =
    kept-inside {need = x} a s h.sources (ap (λ t. t.sources) count ∙ ap (sum (λ u. if (group_of s₁ u) 1)) (sym e.order))
    (λ z u l. core-zero e.tabled.closed (subst (λ x. Core links x y (group_of s₁) (group_of t₁)) z found) u (omega (arith, e.order)))
    (λ z u l. within-sources k (group_of a) (group_of b) z found.dense u (omega (arith, e.order))) s-kept in
    let targets =
    kept-inside {need = y} b t h.targets (ap (λ t. t.targets) count ∙ ap (sum (λ u. if (group_of t₁ u) 1)) (sym e.order))
    (λ z v l. core-zero-in e.tabled.closed (subst (λ y. Core links x y (group_of s₁) (group_of t₁)) z found) v (omega (arith, e.order)))
    (λ z v l. within-targets k (group_of a) (group_of b) z found.dense v (omega (arith, e.order))) t-kept in
    let in-a : Same g (cut (group_of s₁) (group_of a)) (group_of s₂) = λ u l. sources.both u (omega (arith, e.order)) in
    let in_b : Same g (cut (group_of t₁) (group_of b)) (group_of t₂) = λ v l. targets.both v (omega (arith, e.order)) in
    let told = core-same k in-a in_b (core-within k (group_of a) (group_of b) found) in
    let edges-told = ap (λ t. t.edges) count ∙ edges-within g (group_of a) (group_of b) (group_of s₁) (group_of t₁) ∙ edges-same k in-a in_b in
    record {
      core = among g a b (λ A B u v. core-groups u v told);
      all-of-a = λ z u l m. core-zero k (subst (λ x. CoreInside g (group_of a) (group_of b) x y (group_of s₂) (group_of t₂)) z told) u l ∙ m;
      all-of-b = λ z v l m. core-zero-in k (subst (λ y. CoreInside g (group_of a) (group_of b) x y (group_of s₂) (group_of t₂)) z told) v l ∙ m;
      groups = entered-groups e h.kept sources.written targets.written (totals-same edges-told (sources.counted ∙ ap (sum _) e.order) (targets.counted ∙ ap (sum _) e.order));
    }

module _ (f a b w w' : List ℕ) where
  -- the refusal on the way in, where a level is asked for
  abbrev refusal : Option ℕ → Option Refusal
  refusal ask = entry_refusal ask f a b (length w) (length w) (length w)

  -- their level of x is the level inside A and B,
  pub level-told : (x : ℕ) {r : Result ℕ Refusal} → LevelBy (refusal (Some x)) f (LevelWithin f a b Targets x) w w' r → LevelCall f a b x w w' r
  level-told x =
      call-done (level-entry f a b x (length w)) (λ k e (h, kept).
      let (p, q) = entry-none (Some x) f a b (length w) (length w) (length w) e in
      (among (graph_of f) a b (λ A B u v. level-groups u v (level-within p.sound.closed _ _ (not-zero x q) h)), kept))

  -- so is their level across,
  pub level-across-told : (y : ℕ) {r : Result ℕ Refusal} → LevelBy (refusal (Some y)) f (LevelWithin f a b Sources y) w w' r → LevelAcrossCall f a b y w w' r
  level-across-told y =
      call-done (level-entry f a b y (length w)) (λ k e (h, kept).
      let (p, q) = entry-none (Some y) f a b (length w) (length w) (length w) e in
      (among (graph_of f) a b (λ A B u v. level-across-groups u v (level-across-within p.sound.closed _ _ (not-zero y q) h)), kept))

  -- and their equal level
  pub equal-level-told : {r : Result ℕ Refusal} → LevelBy (refusal None) f (LevelWithin f a b Both 0) w w' r → EqualLevelCall f a b w w' r
  equal-level-told =
      call-done (equal-entry f a b (length w)) (λ k e (h, kept).
      let (p, q) = entry-none None f a b (length w) (length w) (length w) e in
      (among (graph_of f) a b (λ A B u v. equal-level-groups u v (equal-level-within p.sound.closed _ _ h)), kept))
