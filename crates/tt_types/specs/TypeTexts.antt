-- Theorem. The distribution types as they are printed: without spaces, and numbers without leading zeros.
use Rattle.std.specs.Prelude.{ℕ, List, [], ◌++◌, codes}
use Rattle.tt_problem.specs.declared.kinds.Parameters.{Parameters}
use Rattle.tt_problem.specs.declared.kinds.Parameters.TheVariants.{Plain, One, Two}
use Rattle.tt_problem.specs.declared.parts.DistKind.{DistKind}
use Rattle.tt_problem.specs.Kinds.{naming_of}
use Rattle.tt_text.specs.Fields.{field}

-- parameters in parentheses
unfoldable pub parameters_text : Parameters → List ℕ
parameters_text Plain = []
parameters_text (One n) = field (codes "(") n ++ codes ")"
parameters_text (Two m n) = field (codes "(") m ++ field (codes ",") n ++ codes ")"

-- a type: its name, and its parameters in parentheses
unfoldable pub type_text : DistKind → List ℕ
type_text kind = (naming_of kind).name ++ parameters_text (naming_of kind).parameters
