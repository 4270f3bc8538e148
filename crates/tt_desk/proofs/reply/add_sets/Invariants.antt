use Rattle.std.proofs.Common.{◌≡◌, ◌++◌, drop}
use Rattle.std.specs.List.{flat_map}
use Rattle.tt_desk.specs.Desk.{set_line}
use Rattle.tt_desk.proofs.reply.add_sets.Given as goal

abbrev pub invariant-loop-step : goal.invariant-loop-step
invariant-loop-step l = l.reply ++ flat_map (set_line l.problem) (drop l.step-index l.moves) ≡ l.fn.reply ++ flat_map (set_line l.problem) l.moves
