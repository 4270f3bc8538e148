-- Contract. What the text of a plan, which needn't place all, says to a reader.
use Rattle.std.specs.Prelude.{ℕ, List, Option, None, map, filter, is_some, slice_index_or}
use Rattle.tt_bits.specs.declared.times.Value.{Value}
use Rattle.tt_problem.specs.declared.parts.Parts.{Parts}
use Rattle.tt_published.specs.Published.{timetable_of}
use Rattle.tt_published.specs.Timetable.{Timetable}

-- the placed classes of each list
abbrev pub drafted_lists : List (Option Value) → List (List ℕ) → List (List ℕ)
drafted_lists plan lists = map (filter (λ class. is_some (slice_index_or plan class None))) lists

-- what the text says: each placed class with what is published of its spot, and each student with the placed classes of his list
abbrev pub drafted_of : Parts → List (Option Value) → List (List ℕ) → Timetable
drafted_of p plan lists = timetable_of p plan (drafted_lists plan lists)
