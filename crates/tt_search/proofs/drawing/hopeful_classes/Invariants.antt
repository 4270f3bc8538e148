use Rattle.std.proofs.Common.{◌≡◌, map}
use Rattle.std.specs.List.{range_with_len}
use Rattle.tt_search.specs.Turns.{has_open_value}
use Rattle.tt_search.proofs.drawing.hopeful_classes.Given as goal

abbrev pub invariant-loop-class : goal.invariant-loop-class
invariant-loop-class l = l.flags.items ≡ map (has_open_value l.state.problem l.state.present.closures) (range_with_len 0 l.class)
