use Rattle.std.proofs.Common.{◌≡◌, drop}
use Rattle.tt_struct.specs.Configs.{first_config}
use Rattle.tt_struct.proofs.first_config.Given as goal

abbrev pub invariant-loop-class : goal.invariant-loop-class
invariant-loop-class l = first_config l.problem l.course (drop l.class-index l.classes) ≡ first_config l.problem l.course l.classes
