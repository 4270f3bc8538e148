-- Contract. What the law of what is written asks for.
use Rattle.std.specs.Prelude.{◌≤◌, ⊤}
use Rattle.tt_problem.specs.declared.kinds.Parameters.{Parameters}
use Rattle.tt_problem.specs.declared.kinds.Parameters.TheVariants.{Plain, One, Two}

-- each parameter is at most 65,535
abbrev pub AreShort : Parameters → Type 0
AreShort Plain = ⊤
AreShort (One n) = n ≤ 65535
AreShort (Two m n) = (m ≤ 65535) × (n ≤ 65535)
