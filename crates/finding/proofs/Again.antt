-- What the finding call has written is a finding as the comparison takes it, and another one of the same file, A and B is equal to it.
use Prim.Native.Nat.{ℕ}
use mathlib.Core.Bool.{Bool, true}
use mathlib.Core.List.{List}
use mathlib.Core.Path.{◌≡◌, sym, ap, ◌∙◌}
use native.Mathlib.Omega.{arith}
use Rattle.std.specs.Prelude.{Result, Ok}
use Rattle.graph.proofs.Quiet.{outcome-unique}
use Rattle.network.specs.declared.Refusal.{Refusal}
use Rattle.network.specs.Accepted.{Accepted}
use Rattle.network.proofs.Answers.{call-ok, call-passed}
use Rattle.network.proofs.Groups.{group-long, group-written}
use Rattle.cores.proofs.WayIn.{core-entry, entry-none}
use Rattle.finding.specs.Compared.{Fitting}
use Rattle.finding.specs.Findings.{FindingTold}
use Rattle.finding.specs.Equality.{Found, Equal, FoundBy, EqualCall, FoundAlike}
use Rattle.finding.proofs.Equality.{none-refused}

module _ {f a b : List ℕ} {p : Found} (d : FoundBy f a b p) where
  -- the file was accepted, and what is promised of an accepted call holds of the finding
  told : Accepted f × FindingTold f a b d.s p.s d.t p.t d.w d.w' d.ring
  told = let (j, h) = call-ok d.call.call in ((entry-none _ f a b _ _ _ (core-entry f a b _ _ _ ∙ j)).0, h)

  -- so the comparison takes it
  fits : Fitting p.n p.s p.t
  fits =
      let (accepted, h) = told in
      let n = d.n in
      let g = h.groups in
      rw n
      record {
        most = accepted.sound.header.order-most;
        s_long = group-long _ _ g.sources;
        t_long = group-long _ _ g.targets;
        s_group = group-written _ _ g.sources;
        t_group = group-written _ _ g.targets;
      }

-- two of the same file, A and B are equal, since the outcome is one and no other
pub found-alike : FoundAlike
found-alike f a b p q d e = (equal, answered)
  where
    equal : Equal p q
    equal =
        let (accepted, h) = told d in
        let (x, y, sources, targets) = outcome-unique accepted.sound.closed h.outcome.inside (told e).1.outcome.inside in
        record {
          x = d.x ∙ x ∙ sym e.x;
          y = d.y ∙ y ∙ sym e.y;
          people = record { n = d.n ∙ sym e.n; sources = λ u l. sources u (omega (arith, d.n)); targets = λ u l. targets u (omega (arith, d.n)) };
        }

    answered : (answer : Result Bool Refusal) → EqualCall p q answer → answer ≡ Ok true
    answered answer c = let (v, i, h) = call-passed (none-refused p q (fits d) (fits e)) c in i ∙ ap Ok (h.1 equal)
