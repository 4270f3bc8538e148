use Rattle.std.proofs.Common.{◌≡◌, map, take}
use Rattle.std.specs.List.{filter, flat_map}
use Rattle.tt_deluge.specs.StudentRounds.{is_choice}
use Rattle.tt_deluge.specs.Views.{class_of, target_of}
use Rattle.tt_deluge.proofs.targets.Targets.new.Given as goal

abbrev pub invariant-loop-target : goal.invariant-loop-target
invariant-loop-target l = record {
  classes : l.targets.classes.items ≡ flat_map class_of (take l.target-index l.target-items);
  choices : map target_of l.targets.choices.items ≡ filter (is_choice l.state.problem) (take l.target-index l.target-items);
}
