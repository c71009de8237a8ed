-- The refusals of calls: how a refused call is told, and which of two refusals is that of a call.
use Prim.Native.Nat.{ℕ}
use mathlib.Core.Bool.{false≢true}
use mathlib.Core.List.{List}
use mathlib.Core.Path.{◌≡◌, refl, sym, ◌∙◌}
use native.Mathlib.Omega.{arith}
use Rattle.std.specs.Prelude.{Option, None, Some, Result, Ok, Err, IsErr, IfErr, IfOk}
use Rattle.std.specs.Result.{result_err}
use Rattle.std.proofs.lemmas.Option.{none-some}
use Rattle.network.specs.declared.Refusal.{Refusal}
use Rattle.network.specs.File.{or_else}
use Rattle.network.specs.Calls.{Call, refused, accepted}

-- a call that answers the refusal, and has left its tables, is refused by it
pub call_kept : {Value : Type 0} {refusal : Option Refusal} {q : Refusal} {before after : List (List ℕ)} {done : Value → Type 0} → refusal ≡ Some q → after ≡ before
    → Call refusal before after done (Err q)
call_kept e k = refused _ e refl k

-- most often because it never had them in hand
pub call-refused : {Value : Type 0} {refusal : Option Refusal} {q : Refusal} {before : List (List ℕ)} {done : Value → Type 0} → refusal ≡ Some q → Call refusal before before done (Err q)
call-refused e = call_kept e refl

-- as where a test is not passed, and what it tells is handed on
pub call-told : {Value : Type 0} {refusal : Option Refusal} {before : List (List ℕ)} {done : Value → Type 0} (answer : Result Value Refusal) → IsErr answer
    → IfErr answer (λ q. refusal ≡ Some q) → Call refusal before before done answer
call-told (Ok v) e h = absurd (false≢true e)
call-told (Err q) e h = call-refused h

-- as where another call was refused, has left the tables, and its answer is handed on
pub call-handed : {Value : Type 0} {refusal : Option Refusal} {q : Refusal} {before after : List (List ℕ)} {done : Value → Type 0} (answer : Result Value Refusal) → IsErr answer
    → IfErr answer (λ p. p ≡ q) → refusal ≡ Some q → after ≡ before → Call refusal before after done answer
call-handed (Ok v) e h i k = absurd (false≢true e)
call-handed (Err p) e h i k = rw h (call_kept i k)

-- a call that has done one thing where it is accepted has done what follows from that
pub call-done : {Value : Type 0} {refusal refusal' : Option Refusal} {before after : List (List ℕ)} {done done' : Value → Type 0} {answer : Result Value Refusal} → refusal ≡ refusal'
    → ((v : Value) → refusal ≡ None → done v → done' v) → Call refusal before after done answer → Call refusal' before after done' answer
call-done e h c = rw (← e) (elim c [ refused q n i k ↦ refused q n i k | accepted v n i d ↦ accepted v n i (h v n d) ])

-- a call that answers a refusal is refused by it, and has changed nothing
pub call-err : {Value : Type 0} {refusal : Option Refusal} {q : Refusal} {before after : List (List ℕ)} {done : Value → Type 0} → Call refusal before after done (Err q)
    → (refusal ≡ Some q) × (after ≡ before)
call-err {q = q} c = elim c [
  | refused p n i k ↦ let x : p ≡ q = cc in (rw x at n, k)
  | accepted v n i d ↦ absurd (let x : ◌≡◌ {A = ℕ} 0 1 = cc in omega arith)
]

-- and one that answers values is not refused, and has done its work
pub call-ok : {Value : Type 0} {refusal : Option Refusal} {before after : List (List ℕ)} {done : Value → Type 0} {v : Value} → Call refusal before after done (Ok v)
    → (refusal ≡ None) × done v
call-ok {v = v} c = elim c [
  | refused q n i k ↦ absurd (let x : ◌≡◌ {A = ℕ} 0 1 = cc in omega arith)
  | accepted u n i d ↦ let x : u ≡ v = cc in (n, rw x at d)
]

-- which one without a refusal has
pub call-passed : {Value : Type 0} {refusal : Option Refusal} {before after : List (List ℕ)} {done : Value → Type 0} {answer : Result Value Refusal} → refusal ≡ None
    → Call refusal before after done answer → (v : Value) × (answer ≡ Ok v) × done v
call-passed e c = elim c [ refused q n i k ↦ absurd (none-some q (sym e ∙ n)) | accepted v n i d ↦ (v, i, d) ]

-- an earlier refusal is that of the call,
pub or_else-first : {r : Option Refusal} (s : Option Refusal) {q : Refusal} → r ≡ Some q → or_else r s ≡ Some q
or_else-first s e = rw e

-- and where there is none the later one is
pub or_else-second : {r : Option Refusal} (s : Option Refusal) → r ≡ None → or_else r s ≡ s
or_else-second s e = rw e

-- what is told of an earlier refusal is told of that of the call
pub or_else-told : {Value : Type 0} (r s : Option Refusal) (answer : Result Value Refusal) → IfErr answer (λ q. r ≡ Some q) → IfErr answer (λ q. or_else r s ≡ Some q)
or_else-told r s (Ok v) h = h
or_else-told r s (Err q) h = or_else-first s h

-- of a test that tells each refusal and passes no other input the error is the refusal, where there is one
pub err-told : {Value : Type 0} {r : Option Refusal} {done : Value → Type 0} (answer : Result Value Refusal) → IfErr answer (λ q. r ≡ Some q) → IfOk answer done → ((v : Value) → done v → r ≡ None)
    → result_err answer ≡ r
err-told (Ok v) h k n = sym (n v k)
err-told (Err q) h k n = sym h
