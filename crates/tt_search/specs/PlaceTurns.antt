-- Theorem. Turns that learn which classes are hard: a class weighs more each time that it is taken out.
use Rattle.std.specs.Prelude.{ℕ, ◌+◌, not, nat_eq, List, [], ◌∷◌, ◌++◌, Option, Some, None, count_by, map}
use Rattle.std.specs.List.{filter, list_any, sum_by}
use Rattle.std.specs.Option.{option_map}
use Rattle.rand_core.specs.Stream.{Stream, next_u32}
use Rattle.tt_bits.specs.declared.times.Value.{Value}
use Rattle.tt_problem.specs.declared.parts.Parts.{Parts}
use Rattle.tt_state.specs.Snapshots.{Snapshot}
use Rattle.tt_state.specs.Values.{conflict_set_of, total_with}
use Rattle.tt_state.specs.Forced.{forced}
use Rattle.tt_base.specs.Lists.{is_less}
use Rattle.tt_draw.specs.Draws.{drawn, random_words}
use Rattle.tt_search.specs.Searched.{onward, way_end}
use Rattle.tt_search.specs.Turns.{available_values, candidates}

-- a moment on the way: a snapshot, and the classes that the turns so far took out, as often as they did
pub record PlaceMoment : Type 0 where
  pub snapshot : Snapshot
  pub outs : List ℕ

-- what the conflict set of a value weighs: each of its classes 1, and how often it was taken out
abbrev pub set_weight : Parts → PlaceMoment → (class : ℕ) → Value → ℕ
set_weight p m class v = sum_by (λ other. 1 + count_by (nat_eq other) m.outs) (conflict_set_of p m.snapshot class v)

-- the numbers by which a value is chosen: what its conflict set weighs, and the total with the class there
unfoldable pub burden_of : Parts → PlaceMoment → (class : ℕ) → Value → List ℕ
burden_of p m class v = set_weight p m class v ∷ total_with p m.snapshot class v ∷ []

-- the items of a list that are least by their numbers: none of the list comes before them
abbrev pub all_least : {A : Type 0} → (A → List ℕ) → List A → List A
all_least numbers xs = filter (λ x. not (list_any (λ y. is_less numbers y x) xs)) xs

-- the available values of a class that are least, in the order of its domain
unfoldable pub least_values : Parts → PlaceMoment → (class : ℕ) → List Value
least_values p m class = all_least (burden_of p m class) (available_values p m.snapshot class)

-- the moment after a class is forced to a value, if there is one: its conflict set is taken out
abbrev pub after_forcing : Parts → PlaceMoment → (class : ℕ) → Option Value → PlaceMoment
after_forcing p m class None = m
after_forcing p m class (Some v) = record { snapshot = forced p m.snapshot class v; outs = conflict_set_of p m.snapshot class v ++ m.outs }

-- the next two words, and those after them
abbrev pub two_words : Stream → (ℕ × ℕ) × Stream
two_words random = let next = next_u32 random in ((next.0, (next_u32 next.1).0), (next_u32 next.1).1)

-- the moment after a turn with two random words, one for the class and one for the value; none where there is no candidate
unfoldable pub place_turn : Parts → ℕ × ℕ → PlaceMoment → Option PlaceMoment
place_turn p (class_word, value_word) m =
    option_map (λ class. after_forcing p m class (drawn value_word (least_values p m class))) (drawn class_word (candidates p m.snapshot))

-- the moments after each of at most so many turns, two words a turn
abbrev pub after_places : Parts → (turns seed : ℕ) → Snapshot → List PlaceMoment
after_places p turns seed s = onward two_words (place_turn p) turns (random_words seed) (record { snapshot = s; outs = [] })

-- the way: the present snapshot, and those after each turn
abbrev pub place_way : Parts → (turns seed : ℕ) → Snapshot → List Snapshot
place_way p turns seed s = s ∷ map (λ m. m.snapshot) (after_places p turns seed s)

-- where so many turns end, at the first of the way that is least by unplaced classes, hard conflicts and total, as a search; and how
-- many are made
abbrev pub all_placed : Parts → (turns seed : ℕ) → Snapshot → Snapshot × ℕ
all_placed p turns seed s = way_end p None s (map (λ m. m.snapshot) (after_places p turns seed s))
