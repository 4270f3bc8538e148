use Rattle.std.proofs.Common.{◌≡◌, ℕ, ◌+◌, length}
use Rattle.std.specs.Prelude.{slice_index}
use Rattle.tt_roster.specs.Lists.{Ascends}
use Rattle.tt_verify.specs.Pairs.{pairs_with}
use Rattle.tt_explain.specs.Pairs.{conflict_between, times_in}
use Rattle.tt_explain.proofs.pairs.count_pairs_with.Given as goal

abbrev pub invariant-loop-other : goal.invariant-loop-other
invariant-loop-other l =
    let related = conflict_between l.state.problem l.state.present in
    record {
      counted : (x : ℕ) → slice_index l.counts x + times_in x (pairs_with related l.class l.other-iterator) ≡ slice_index l.initial.counts x + times_in x (pairs_with related l.class l.fn.later);
      ascends : Ascends 0 (length l.counts) l.other-iterator;
    }
