-- A step: what is asked of places is raised from a scope's needs to greater ones.
use Rattle.std.specs.Prelude.{ℕ, ◌<◌, ◌≤◌, Bool, false, ◌&&◌, List, ◌≡◌, leb, ltb}
use Rattle.peeling.specs.declared.Peel.{Peel}
use Rattle.peeling.specs.declared.Scope.{Scope}
use Rattle.peeling.specs.Peeling.{need_of, degree_of, raised, side_left, pushed_by, Peeling}
use Rattle.raising.specs.declared.Step.{Step}

-- the scope with the greater needs
abbrev pub next_of : Step → Scope
next_of a = record { extent = a.scope.extent; x = a.x; y = a.y }

-- a peel in the midst of a step: the places below place i need what is asked after it, the others what was asked before
abbrev pub Raising : Step → ℕ → List ℕ → Peel → Type 0
Raising a i w s = Peeling a.scope.extent.order a.scope.extent.size (raised (need_of a.scope) (need_of (next_of a)) i) w s

-- the same with so many places of a side more in the queue, of as many that were left of the side
pub record RaisedBy (a : Step) (first i : ℕ) (w : List ℕ) (s : Peel) (count : ℕ) : Type 0 where
  pub peeling : Raising a i w (pushed_by a.scope.extent.order s first count)
  pub few : count ≤ side_left a.scope.extent.order s first

-- a degree is enough before a step for what the first place of a side needs, and not after it
abbrev pub outgrown : Step → ℕ → ℕ → Bool
outgrown a first degree = leb (need_of a.scope first) degree && ltb degree (need_of (next_of a) first)

-- that of no place from one number on and before another is
abbrev pub Quiet : Step → ℕ → ℕ → ℕ → List ℕ → Type 0
Quiet a first from to w = (p : ℕ) → from ≤ p → p < to → outgrown a first (degree_of a.scope.extent.order a.scope.extent.size w p) ≡ false
