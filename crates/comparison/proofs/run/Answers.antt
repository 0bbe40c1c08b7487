-- `comparison::run` makes the walk: one candidate after another, until an end.
use Rattle.std.proofs.Common.{arith}
use Rattle.comparison.proofs.Dealing.{same_here, same_then}
use Rattle.comparison.proofs.Running.{walking_first, walking_ready, walking_on, walked_same, walked_different, walked_full, count_small, count_within}
use Rattle.comparison.proofs.run.Goals as goal

pub loop-examined-init : goal.loop-examined-init
loop-examined-init c = record { walking = walking_first c.requires; same_tables = same_here }

pub overflow_mul-question : goal.overflow_mul-question
overflow_mul-question c = omega (arith, count_small c.loop-examined.invariant.walking)

pub overflow_add-question : goal.overflow_add-question
overflow_add-question c = omega (arith, count_small c.loop-examined.invariant.walking)

pub deal-dealt-requires : goal.deal-dealt-requires
deal-dealt-requires c = walking_ready c.loop-examined.invariant.walking c.loop-examined-test.true

pub overflow_add-examined : goal.overflow_add-examined
overflow_add-examined c = omega (arith, count_small c.loop-examined.invariant.walking)

pub loop-examined-smaller : goal.loop-examined-smaller
loop-examined-smaller c = omega (arith, count_within c.loop-examined.invariant.walking)

pub loop-examined-preserved : goal.loop-examined-preserved
loop-examined-preserved c = record {
  walking = walking_on c.loop-examined.invariant.walking c.deal-dealt.ensures.dealt_with c.in-On.is;
  same_tables = same_then c.loop-examined.invariant.same_tables c.deal-dealt.ensures.same_tables;
}

pub returns-in-Different : goal.returns-in-Different
returns-in-Different c = record {
  compared = walked_different c.loop-examined.invariant.walking c.deal-dealt.ensures.dealt_with c.in-Different.is;
  same_tables = same_then c.loop-examined.invariant.same_tables c.deal-dealt.ensures.same_tables;
}

pub returns-in-Full : goal.returns-in-Full
returns-in-Full c = record {
  compared = walked_full c.loop-examined.invariant.walking c.deal-dealt.ensures.dealt_with c.in-Full.is;
  same_tables = same_then c.loop-examined.invariant.same_tables c.deal-dealt.ensures.same_tables;
}

pub returns : goal.returns
returns c = record {
  compared = walked_same c.loop-examined.invariant.walking c.loop-examined-test.false;
  same_tables = c.loop-examined.invariant.same_tables;
}
