use Rattle.std.proofs.Common.{◌≡◌, ◌+◌, ◌∷◌, length, arith}
use Rattle.tt_roster.specs.Lists.{Ascends}
use Rattle.tt_roster.proofs.ListLemmas.{Ascends-lower}
use Rattle.tt_explain.specs.Pairs.{conflict_between}
use Rattle.tt_explain.proofs.PairLemmas.{times_more}
use Rattle.tt_explain.proofs.pairs.count_pairs_with.Goals as goal

pub loop-other-preserved : goal.loop-other-preserved
loop-other-preserved c =
    let s = c.args.state.now in
    let other = c.in-Some.other in
    let was = c.loop-other.invariant in
    let next : c.loop-other.other-iterator ≡ other ∷ c.next.new.self = c.in-Some.ensures.steps in
    let up : Ascends 0 (length c.loop-other.counts) (other ∷ c.next.new.self) = rw next at was.ascends in
    record {
      counted = λ x. omega (arith, c.count_pair.ensures x, times_more (conflict_between s.problem s.present) c.args.class x c.loop-other.other-iterator c.next.new.self other next, was.counted x);
      ascends = rw c.count_pair.auto.counts (Ascends-lower (other + 1) 0 (length c.loop-other.counts) c.next.new.self up.2 (omega arith));
    }
