-- One more part after those that were read.
use Rattle.std.proofs.Common.{◌≡◌, ℕ, ◌<◌, ◌≤◌, List, [], ◌∷◌, ◌++◌, length, map, Result, Ok, refl, sym, ap, subst, ◌∙◌, ◌+◌, arith, codes}
use Rattle.std.proofs.lemmas.List.{map-append}
use Rattle.std.specs.Prelude.{All, nat_eq}
use Rattle.std.specs.List.{IsDistinct}
use Rattle.std.proofs.lemmas.List.Elements.{All-push}
use Rattle.tt_bits.specs.declared.times.Time.{Time}
use Rattle.tt_travel.specs.Table.{Table}
use Rattle.tt_problem.specs.declared.parts.Span.{Span}
use Rattle.tt_problem.specs.declared.parts.RoomPart.{RoomPart}
use Rattle.tt_problem.specs.declared.parts.ClassPart.{ClassPart}
use Rattle.tt_problem.specs.declared.parts.CoursePart.{CoursePart}
use Rattle.tt_problem.specs.Spans.{CoversFrom, Covers}
use Rattle.tt_problem.specs.Valid.{IsValidRoom, room_ids, class_ids, course_ids}
use Rattle.tt_base.specs.Chain.{◌>>=◌}
use Rattle.tt_fields.specs.Answer.{Field, Fault}
use Rattle.tt_fields.specs.Kinds.{a_number, an_object, a_list, required, or_else, new_id, each, each_as}
use Rattle.tt_fields.proofs.Chain.{then}
use Rattle.tt_tree.specs.declared.context as context
use Rattle.tt_tree.specs.declared.rooms as rooms
use Rattle.tt_tree.specs.declared.courses as courses
use Rattle.tt_tree.specs.Context.{Context}
use Rattle.tt_tree.specs.Read.{IsTravelAmong, IsRooms, IsClassAmong, AreClasses, IsConfigs, IsCourses}
use Rattle.tt_tree.specs.Tables.{a_travel_entry, a_closed_time, Rooms, a_room}

-- no ids differ
pub none_distinct : IsDistinct nat_eq []
unfolding IsDistinct
none_distinct = tt

-- ---- rooms

-- the rooms before, and one more of which all but the unavailable times was read
abbrev pub closed_room : ℕ → List RoomPart → Table → List Time → Result Rooms Fault
closed_room id rooms travel closed = Ok (record { rooms = rooms ++ record { id = id; closed = closed } ∷ []; travel = travel })

-- what is left of a room after its travel
abbrev pub room_rest : Context → ℕ → List RoomPart → Table → Field → Result Rooms Fault
room_rest c id rooms travel p = or_else [] (a_list 0 1000) (codes "unavailable") p >>= λ unavailable. each_as (a_closed_time c) unavailable >>= closed_room id rooms travel

pub room_is : (c : Context) (s : Rooms) (ids more : List ℕ) (from id : ℕ) (p : Field) (now : Table) (entries : List Field)
    → an_object p ≡ Ok p → required (a_number 0 4294967295) (codes "id") p ≡ Ok id → new_id id ids p ≡ Ok more
    → or_else [] (a_list 0 4000) (codes "travel") p ≡ Ok entries → each (a_travel_entry c from) entries s.travel ≡ Ok now
    → ids ≡ room_ids s.rooms → length s.rooms ≡ from → a_room c p s ≡ room_rest c id s.rooms now p
unfolding a_room
room_is c s ids more from id p now entries object number new travels read same count =
    then (an_object p) p _ _ object
    (then (required (a_number 0 4294967295) (codes "id") p) id _ _ number
    (then (new_id id (room_ids s.rooms) p) more _ _ (ap (λ (k : List ℕ). new_id id k p) (sym same) ∙ new)
    (then (or_else [] (a_list 0 4000) (codes "travel") p) entries _ _ travels
    (then (each (a_travel_entry c (length s.rooms)) entries s.travel) now _ _ (ap (λ (n : ℕ). each (a_travel_entry c n) entries s.travel) count ∙ read)
    refl))))

pub rooms_push : (c : context.Context.Context) (count : ℕ) (s t : rooms.Rooms.Rooms) (r : RoomPart) → IsRooms c count s → t.rooms.items ≡ s.rooms.items ++ r ∷ []
    → t.ids.keys ≡ s.ids.keys ++ r.id ∷ [] → IsDistinct nat_eq t.ids.keys → IsTravelAmong c count t.travel → IsValidRoom c.nr_days c.nr_weeks r → IsRooms c count t
rooms_push c count s t r so_far pushed added distinct travel good = record {
  travel = travel;
  ids = added ∙ ap (λ (l : List ℕ). l ++ r.id ∷ []) so_far.ids ∙ sym (map-append (λ (x : RoomPart). x.id) s.rooms.items (r ∷ [])) ∙ ap (λ (l : List RoomPart). room_ids l) (sym pushed);
  distinct = distinct;
  valid = subst (All (IsValidRoom c.nr_days c.nr_weeks)) (sym pushed) (All-push (IsValidRoom c.nr_days c.nr_weeks) s.rooms.items r so_far.valid good);
}

-- ---- classes

pub classes_push : (c : context.Context.Context) (s t : courses.Classes.Classes) (x : ClassPart) → AreClasses c s → t.classes.items ≡ s.classes.items ++ x ∷ []
    → t.ids.keys ≡ s.ids.keys ++ x.id ∷ [] → IsDistinct nat_eq t.ids.keys → IsClassAmong c x → AreClasses c t
classes_push c s t x so_far pushed added distinct good = record {
  each = subst (All (IsClassAmong c)) (sym pushed) (All-push (IsClassAmong c) s.classes.items x so_far.each good);
  ids = added ∙ ap (λ (l : List ℕ). l ++ x.id ∷ []) so_far.ids ∙ sym (map-append (λ (y : ClassPart). y.id) s.classes.items (x ∷ [])) ∙ ap (λ (l : List ClassPart). class_ids l) (sym pushed);
  distinct = distinct;
}

-- ---- spans

-- one more span, which begins where the others end
covers_push : (spans : List Span) (first from end : ℕ) → CoversFrom first spans from → from < end → CoversFrom first (spans ++ record { first = from; after = end } ∷ []) end
covers_push [] first from end h lt = (sym h, lt, refl)
covers_push (s ∷ spans) first from end h lt = (h.0, h.1, covers_push spans s.after from end h.2 lt)

-- the spans cover the places up to the end of one more
pub covers_more : (spans more : List Span) (from end : ℕ) → Covers spans from → from < end → more ≡ spans ++ record { first = from; after = end } ∷ [] → Covers more end
covers_more spans more from end h lt is = subst (λ (l : List Span). Covers l end) (sym is) (covers_push spans 0 from end h lt)

covers_few : (spans : List Span) (first after : ℕ) → CoversFrom first spans after → first + length spans ≤ after
covers_few [] first after h = let e : first ≡ after = h in omega (arith, e)
covers_few (s ∷ spans) first after h = omega (arith, h.0, h.1, covers_few spans s.after after h.2)

-- there are no more spans than places
pub spans_few : (spans : List Span) (count : ℕ) → Covers spans count → length spans ≤ count
spans_few spans count h = omega (arith, covers_few spans 0 count h)

-- ---- courses

pub courses_push : (c : context.Context.Context) (s t : courses.Courses.Courses) (x : CoursePart) → IsCourses c s → t.courses.items ≡ s.courses.items ++ x ∷ []
    → t.ids.keys ≡ s.ids.keys ++ x.id ∷ [] → IsDistinct nat_eq t.ids.keys → IsConfigs c t.configs
    → x.configs ≡ record { first = length s.configs.spans.items; after = length t.configs.spans.items } → length s.configs.spans.items < length t.configs.spans.items → IsCourses c t
courses_push c s t x so_far pushed added distinct configs is more = record {
  configs = configs;
  courses = subst (λ (l : List Span). Covers l (length t.configs.spans.items))
      (sym (ap (λ (l : List CoursePart). map (λ (y : CoursePart). y.configs) l) pushed ∙ map-append (λ (y : CoursePart). y.configs) s.courses.items (x ∷ [])
      ∙ ap (λ (z : Span). map (λ (y : CoursePart). y.configs) s.courses.items ++ z ∷ []) is))
      (covers_push (map (λ (y : CoursePart). y.configs) s.courses.items) 0 (length s.configs.spans.items) (length t.configs.spans.items) so_far.courses more);
  ids = added ∙ ap (λ (l : List ℕ). l ++ x.id ∷ []) so_far.ids ∙ sym (map-append (λ (y : CoursePart). y.id) s.courses.items (x ∷ [])) ∙ ap (λ (l : List CoursePart). course_ids l) (sym pushed);
  distinct = distinct;
}
