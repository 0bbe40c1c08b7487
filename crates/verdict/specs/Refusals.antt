-- The refusals that the code names, by the scope's numbers (§7).
--   number why     the number of a refusal
--   said result    what a test said that answers by a Result
--   TestsEach Tells values result
--                  each of the values was tested in turn, where `Tells v r` holds of what a test of v may answer
use Rattle.std.specs.Prelude.{ℕ, ◌≡◌, Result, Ok, Err, List, map}
use Rattle.verdict.specs.declared.Refusal.{Refusal}
use Rattle.verdict.specs.declared.Refusal.TheVariants.{BadSize, BadTable, BadSet, BadRoom, NoRoom, BadLetter, BadList, Cut, Padded, Tail, TooBig, Syntax, TooMany, TooDeep}
use Rattle.verdict.specs.Verdict.{Verdict}
use Rattle.verdict.specs.Verdict.Verdict.{Fine, Against}
use Rattle.verdict.specs.Tests.{in_order}

abbrev pub number : Refusal → ℕ
number BadSize = 10
number BadTable = 11
number BadSet = 12
number BadRoom = 13
number NoRoom = 14
number BadLetter = 15
number BadList = 16
number Cut = 20
number Padded = 21
number Tail = 22
number TooBig = 23
number Syntax = 30
number TooMany = 31
number TooDeep = 32

abbrev pub said : Result (Unit {0}) Refusal → Verdict
said (Ok done) = Fine
said (Err why) = Against (number why)

pub record TestsEach {A : Type 0} (Tells : A → Result (Unit {0}) Refusal → Type 0) (values : List A) (result : Result (Unit {0}) Refusal) : Type 0 where
  pub each : (test : A → Verdict) → ((v : A) (r : Result (Unit {0}) Refusal) → Tells v r → said r ≡ test v) → said result ≡ in_order (map test values)
