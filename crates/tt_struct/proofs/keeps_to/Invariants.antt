use Rattle.std.proofs.Common.{◌≡◌, drop}
use Rattle.std.specs.List.{list_all}
use Rattle.tt_struct.specs.Configs.{keeps_to}
use Rattle.tt_struct.proofs.keeps_to.Given as goal

abbrev pub invariant-loop-class : goal.invariant-loop-class
invariant-loop-class l = list_all (keeps_to l.problem l.course l.config) (drop l.class-index l.classes) ≡ list_all (keeps_to l.problem l.course l.config) l.classes
