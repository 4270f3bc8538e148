-- Theorem. What the tables are read with.
use Rattle.std.specs.Prelude.{ℕ, ◌≤◌, List, Option, length, IfSome}
use Rattle.tt_problem.specs.Valid.{IsValidTerm}
use Rattle.tt_fields.specs.declared.references.Known.{Known}
use Rattle.tt_fields.specs.List.{known_of, IsFew}
use Rattle.tt_tree.specs.declared.context as code

-- the size of the term, and the ids among which references are looked up, where they are looked up
pub record Context : Type 0 where
  pub nr_days : ℕ
  pub nr_weeks : ℕ
  pub rooms : Option (List ℕ)
  pub classes : Option (List ℕ)

-- what the code reads with
abbrev pub context_of : code.Context.Context → Context
context_of c = record { nr_days = c.nr_days; nr_weeks = c.nr_weeks; rooms = known_of c.rooms; classes = known_of c.classes }

-- the term is valid, and there are fewer ids than a place can number
pub record IsContext (c : code.Context.Context) : Type 0 where
  pub term : IsValidTerm c.nr_days c.nr_weeks
  pub rooms : IsFew c.rooms
  pub classes : IsFew c.classes

-- no more than n ids are known
pub record HasIds (k : Known) (n : ℕ) : Type 0 where
  pub most : IfSome k.ids (λ ids. length ids.now.keys ≤ n)
