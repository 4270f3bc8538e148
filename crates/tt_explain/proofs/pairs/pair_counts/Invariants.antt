use Rattle.std.proofs.Common.{◌≡◌, ℕ, ◌+◌, ◌-◌, length, sum_by}
use Rattle.std.specs.Prelude.{slice_index}
use Rattle.std.specs.List.{range_with_len}
use Rattle.tt_explain.specs.Explain.{pair_count}
use Rattle.tt_explain.specs.Pairs.{pairs_of}
use Rattle.tt_explain.proofs.pairs.pair_counts.Given as goal

abbrev pub invariant-loop-student : goal.invariant-loop-student
invariant-loop-student l =
    let p = l.state.problem in
    let s = l.state.present in
    record {
      counted : (class : ℕ) → slice_index l.counts.items class + sum_by (pairs_of p s class) (range_with_len l.student (length p.students - l.student)) ≡ pair_count p s class;
      whole : length l.counts.items ≡ length p.classes;
    }
