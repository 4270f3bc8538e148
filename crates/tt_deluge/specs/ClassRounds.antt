-- Theorem. A round on a class: another value for it, or an exchange with the one class in its way.
use Rattle.std.specs.Prelude.{ℕ, Bool, false, not, ◌&&◌, ◌||◌, ◌==◌, nat_eq, nat_lt, List, [], ◌∷◌, ◌++◌, Option, Some, None, drop, take, length, slice_get, if◌then◌else◌}
use Rattle.std.specs.List.{find}
use Rattle.std.specs.Option.{is_some, option_and_then, option_eq, option_map, option_map_or, option_or}
use Rattle.rand_core.specs.Stream.{Stream}
use Rattle.tt_bits.specs.declared.times.Spot.{Spot}
use Rattle.tt_bits.specs.declared.times.Time.{Time}
use Rattle.tt_bits.specs.declared.times.Value.{Value}
use Rattle.tt_bits.specs.Sets.{day_set, week_set}
use Rattle.tt_problem.specs.declared.parts.Parts.{Parts}
use Rattle.tt_plan.specs.Domain.{domain_of, spot_at_value}
use Rattle.tt_state.specs.Snapshots.{Snapshot, is_locked_in, value_in, with_value}
use Rattle.tt_state.specs.Values.{blocked_of, conflict_set_of, is_value}
use Rattle.tt_improve.specs.Classes.{is_free}
use Rattle.tt_improve.specs.Targets.{movable_classes}
use Rattle.tt_deluge.specs.Draws.{by_draw, draw_next}

-- the class has this value
abbrev pub has_value : Snapshot → (class : ℕ) → Value → Bool
has_value s class v = is_value (value_in s class) v

-- the values of a class from the one at a place on, and then those before it
abbrev pub values_from : Parts → (class place : ℕ) → List Value
values_from p class place = drop place (domain_of p class) ++ take place (domain_of p class)

-- the first of these that is free and isn't the present one
unfoldable pub next_free : Parts → Snapshot → (class place : ℕ) → Option Value
next_free p s class place = find (λ v. is_free p s class v && not (has_value s class v)) (values_from p class place)

-- days, weeks and start are the same
abbrev pub begin_alike : Time → Time → Bool
begin_alike a b = (day_set a.days == day_set b.days) && (week_set a.weeks == week_set b.weeks) && (a.start == b.start)

-- the value has the days, the weeks and the start of a time, and this room or none
abbrev pub stands_at : Parts → (class : ℕ) → Time → (room : Option ℕ) → Value → Bool
stands_at p class t room v = option_map_or (λ x. begin_alike x.time t && option_eq nat_eq x.room room) (spot_at_value p class v) false

-- the first value of a class with the days, the weeks and the start of a time, and this room or none
abbrev pub value_at_time : Parts → (class : ℕ) → Time → (room : Option ℕ) → Option Value
value_at_time p class t room = find (stands_at p class t room) (domain_of p class)

-- the spot that a class has
abbrev pub spot_in : Parts → Snapshot → (class : ℕ) → Option Spot
spot_in p s class = option_and_then (spot_at_value p class) (value_in s class)

-- the value by which the other class of an exchange comes to the time of the class: with the room of the class, or else with its own
unfoldable pub exchange_value : Parts → Snapshot → (class other : ℕ) → Option Value
exchange_value p s class other =
    option_and_then (λ at. let to = value_at_time p other at.time in
    option_and_then (λ had. option_or (to at.room) (to had.room)) (spot_in p s other)) (spot_in p s class)

-- the snapshot after an exchange, none where the other value is the one that the other class has, where the value is not free without
-- the other class, or where the other value is not free once the class has its own
abbrev pub exchanged : Parts → Snapshot → (class : ℕ) → Value → (other : ℕ) → (to : Value) → Option Snapshot
exchanged p s class v other to =
    let half = with_value (with_value s other None) class (Some v) in
    if not (has_value s other to) && is_free p (with_value s other None) class v && is_free p half other to
    then Some (with_value half other (Some to)) else None

-- the snapshot with a class at a value that isn't blocked, by the conflict set: where it is empty, or one class that isn't locked, in an exchange with it
abbrev pub moved_by_conflict_set : Parts → Snapshot → (class : ℕ) → Value → (conflicts : List ℕ) → Option Snapshot
moved_by_conflict_set p s class v [] = Some (with_value s class (Some v))
moved_by_conflict_set p s class v (other ∷ []) =
    if is_locked_in s other then None else option_and_then (exchanged p s class v other) (exchange_value p s class other)
moved_by_conflict_set p s class v (other ∷ more ∷ others) = None

-- the snapshot with a class at a value or in an exchange, none where it has the value, or where the value is blocked
unfoldable pub moved_to_value : Parts → Snapshot → (class : ℕ) → Value → Option Snapshot
moved_to_value p s class v =
    if has_value s class v || is_some (blocked_of p s.closures class v) then None else moved_by_conflict_set p s class v (conflict_set_of p s class v)

-- the change of a class by a kind below 32 and a place in its domain: kinds 0 and 1 walk on to the next free value
unfoldable pub class_change : Parts → Snapshot → (kind class place : ℕ) → Option Snapshot
class_change p s kind class place =
    if nat_lt kind 2 then option_map (λ v. with_value s class (Some v)) (next_free p s class place)
    else option_and_then (moved_to_value p s class) (slice_get (domain_of p class) place)

-- what a round on a placed class that isn't locked finds: the next word draws the class, and the one after it a place in its domain
unfoldable pub class_round : Parts → Snapshot → (kind : ℕ) → Stream → Option Snapshot × Stream
class_round p s kind random = by_draw (movable_classes p s) (λ class rest.
    let place = draw_next (length (domain_of p class)) rest in
    (class_change p s kind class place.0, place.1)) random
