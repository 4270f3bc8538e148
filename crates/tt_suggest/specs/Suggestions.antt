-- Theorem. Suggestions, and the best of them.
use Rattle.std.specs.Prelude.{ℕ, List, [], ◌∷◌, Option, map}
use Rattle.tt_base.specs.Lists.{first_least}
use Rattle.tt_problem.specs.declared.parts.Parts.{Parts}
use Rattle.tt_published.specs.Timetable.{Timetable}
use Rattle.tt_published.specs.Published.{moved_in}
use Rattle.tt_state.specs.Snapshots.{Snapshot, totals_in}
use Rattle.tt_suggest.specs.declared.suggestion.Suggestion.{Suggestion}
use Rattle.tt_suggest.specs.declared.suggestion.Suggested.{Suggested}
use Rattle.tt_suggest.specs.Tree.{Node, leaves_of, root_of, tries_of}

-- the suggestion of a node: the placements that led to it, the total there, and how many published classes are moved
abbrev pub suggestion_of : Parts → Option Timetable → Node → Suggestion
suggestion_of p published node = record {
  moves = node.path;
  total = (totals_in p node.snapshot).total;
  moved = moved_in p published node.snapshot.plan;
}

-- the numbers by which a suggestion is chosen: the total, and how many published classes are moved
abbrev pub suggestion_rank : Suggestion → List ℕ
suggestion_rank x = x.total ∷ x.moved ∷ []

-- How many values are tried for a class by at most so many placements, and the first suggestion that has the least rank, in the
-- order of a depth-first walk.
abbrev pub suggested : Parts → Option Timetable → (depth : ℕ) → Snapshot → (class : ℕ) → Suggested
suggested p published depth s class = record {
  tried = tries_of p depth (root_of s class);
  best = first_least suggestion_rank (map (suggestion_of p published) (leaves_of p depth (root_of s class)));
}
