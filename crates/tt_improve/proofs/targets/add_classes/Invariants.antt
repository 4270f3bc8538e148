use Rattle.std.proofs.Common.{◌≡◌, ◌++◌, ◌-◌, length, map}
use Rattle.std.specs.List.{filter, range_with_len}
use Rattle.tt_improve.specs.declared.targets.Target.TheVariants.{Class}
use Rattle.tt_state.specs.Snapshots.{may_lock}
use Rattle.tt_improve.specs.Targets.{movable_classes}
use Rattle.tt_improve.proofs.targets.add_classes.Given as goal

abbrev pub invariant-loop-class : goal.invariant-loop-class
invariant-loop-class l =
    l.targets.items ++ map (λ class. Class class) (filter (may_lock l.state.present) (range_with_len l.class (length l.state.problem.classes - l.class)))
    ≡ l.initial.targets.items ++ map (λ class. Class class) (movable_classes l.state.problem l.state.present)
