-- `cap_prints_the_same`: taking in at most 20,513 bytes never changes what is printed. Assumes nothing.
use mathlib.Core.List.{List}
use Prim.Native.Nat.{ℕ}
use lib.ListN.{take}
use Rattle.numbers.specs.Numbers.{AreBytes}
use Rattle.asking.proofs.Capped.{cap_asks_the_same, cap_refuses_the_same}
use Rattle.report.specs.Report.{Prints}
use Rattle.report.specs.Report.Prints.{refuses, answers}

pub cap_prints_the_same : {room : ℕ} {s text : List ℕ} → AreBytes s → Prints room (take 20513 s) text → Prints room s text
cap_prints_the_same are (refuses r) = refuses (cap_refuses_the_same are r)
cap_prints_the_same are (answers a w) = answers (cap_asks_the_same are a) w
