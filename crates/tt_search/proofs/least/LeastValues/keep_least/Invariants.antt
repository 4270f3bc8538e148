use Rattle.std.proofs.Common.{◌≡◌, ◌≤◌, length, take, drop}
use Rattle.std.specs.Prelude.{vec_capacity}
use Rattle.tt_search.specs.LeastNow.{AreKept, total_numbers, values_of}
use Rattle.tt_search.proofs.least.LeastValues.keep_least.Given as goal

abbrev pub invariant-loop-place : goal.invariant-loop-place
invariant-loop-place l =
    let start = l.fn.state in
    let whole = l.fn.self.values.items in
    record {
      same : l.state ≡ start;
      room : vec_capacity l.self.values ≡ vec_capacity l.fn.self.values;
      len : length l.self.values.items ≡ length whole;
      few : l.kept.count ≤ l.place;
      rest : drop l.place l.self.values.items ≡ drop l.place whole;
      least : AreKept (total_numbers start.problem start.present l.class) (take l.place (values_of whole)) (values_of l.self.values.items) l.kept;
    }
