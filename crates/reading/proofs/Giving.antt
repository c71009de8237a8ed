-- What a reader gave, from one read to the next.
use Rattle.std.proofs.Common.{ℕ, ◌+◌, ◌≤◌, ◌≡◌, List, ◌++◌, length, take, arith, length-append, ◌∙◌, sym, ap}
use Rattle.std.proofs.lemmas.List.{take-append-le}
use Rattle.std.proofs.Math.Seq.{take-append-add, take_at, length-take-le}
use Rattle.std.proofs.KnownBytes.{Consumes-trans, Consumes-kept}
use Rattle.std.specs.Io.KnownBytes.{Consumes, Keeps}
use Rattle.std.specs.declared.option.Option.{Option}

-- k bytes stand at the start of the buffer, and the reader gave them
pub record Given (before after : Option (List ℕ)) (k : ℕ) (buffer : List ℕ) : Type 0 where
  pub within : k ≤ length buffer
  pub given : Consumes before after (take k buffer)

module _ {a b : Option (List ℕ)} {d : ℕ} {buffer : List ℕ} (g : Given a b d buffer) where
  -- the bytes given so far are as many
  so-far : length (take d buffer) ≡ d
  so-far = length-take-le d buffer g.within

  -- a read that gives nothing leaves what stands there
  pub given_again : {c : Option (List ℕ)} (rest : List ℕ) → Keeps b c → Given a c d (take d buffer ++ rest)
  given_again {c} rest k =
      record {
        within = omega (arith, so-far, length-append (take d buffer) rest);
        given = rw (take_at (take d buffer) rest d so-far) (Consumes-kept a b c _ g.given k);
      }

  -- and one that gives bytes, which stand after it, adds them
  pub given_more : {c : Option (List ℕ)} (n : ℕ) (got rest : List ℕ) → n ≤ length got → Consumes b c (take n got) → Given a c (d + n) (take d buffer ++ (got ++ rest))
  given_more {c} n got rest l k =
      record {
        within = omega (arith, so-far, length-append (take d buffer) (got ++ rest), length-append got rest);
        given = rw joined (Consumes-trans a b c _ _ g.given k);
      }
    where
      joined : take (d + n) (take d buffer ++ (got ++ rest)) ≡ take d buffer ++ take n got
      joined =
          ap (λ i. take (i + n) (take d buffer ++ (got ++ rest))) (sym so-far)
          ∙ take-append-add (take d buffer) (got ++ rest) n
          ∙ ap (take d buffer ++◌) (take-append-le n got rest l)
