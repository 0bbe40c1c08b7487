-- A refusal that goes on with a place: what the code makes of it by `map_err`. Assumes nothing.
use mathlib.Core.Path.{◌≡◌, refl}
use mathlib.Core.Bool.{Bool, true, false}
use Prim.Native.Nat.{ℕ}
use Rattle.std.specs.Prelude.{Result, Ok, Err}
use Rattle.std.specs.Result.{MatchResult, IsErrAnd}
use Rattle.verdict.specs.declared.Refusal.{Refusal}
use Rattle.verdict.specs.declared.Fault.{Fault}
use Rattle.verdict.specs.Verdict.Verdict.{Fine, Against}
use Rattle.verdict.specs.Tests.{held}
use Rattle.verdict.specs.Refusals.{number, said}

-- a test was made, and its refusal got a place
pub record Faulted (place : ℕ) (r : Result (Unit {0}) Refusal) (m : Result (Unit {0}) Fault) : Type 0 where
  pub ok : m ≡ Ok tt → said r ≡ Fine
  pub err : (f : Fault) → m ≡ Err f → (said r ≡ Against (number f.why)) × (f.place ≡ place)

pub faulted : (place : ℕ) {Made : Refusal → Fault → Type 0} {m : Result (Unit {0}) Fault} (r : Result (Unit {0}) Refusal)
    → MatchResult r (λ x. m ≡ Ok x) (λ e. IsErrAnd m (Made e)) → ((why : Refusal) (fault : Fault) → Made why fault → fault ≡ record { why = why; place = place })
    → Faulted place r m
faulted place (Ok done) h made = record { ok = λ e. refl; err = λ f e. absurd (cc) }
faulted place {m = Ok x} (Err why) h made = absurd h
faulted place {m = Err f} (Err why) h made =
    record { ok = λ e. absurd (cc); err = λ g e. let q : f ≡ g = cc in let p = made why f h in rw (← q, p) (refl, refl) }

-- a test whose refusal has its place at once
pub need_held : {b : Bool} (why : Fault) {u : Unit {0}} → Ok u ≡ held b why → b ≡ true
unfolding held
need_held {b = true} why e = refl
need_held {b = false} why e = absurd (cc)

pub need_failed : {b : Bool} {why f : Fault} → Err f ≡ held b why → (b ≡ false) × (f ≡ why)
unfolding held
need_failed {b = true} e = absurd (cc)
need_failed {b = false} e = (refl, cc)
