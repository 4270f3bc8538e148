-- Rooms and courses that are read with ids known are read with none known too, with the same ids.
use Rattle.std.proofs.Common.{◌≡◌, ℕ, ◌-◌, List, [], length, Bool, true, false, None, refl, sym, ap, ◌∙◌, codes}
use Rattle.std.proofs.lemmas.List.{length-map}
use Rattle.tt_travel.specs.Table.{Table, no_travel}
use Rattle.tt_problem.specs.declared.parts.RoomPart.{RoomPart}
use Rattle.tt_problem.specs.declared.parts.ClassPart.{ClassPart}
use Rattle.tt_problem.specs.declared.parts.CoursePart.{CoursePart}
use Rattle.tt_problem.specs.Valid.{room_ids, class_ids, course_ids}
use Rattle.tt_fields.specs.Answer.{Field}
use Rattle.tt_fields.specs.Kinds.{a_number, a_truth, an_object, a_list, a_reference, place_of, required, or_else, optional, new_id, each, each_as}
use Rattle.tt_fields.proofs.Alike.{Alike, Any, equal_alike, then_alike, after_alike, same_alike, required_alike, optional_alike, place_alike, reference_alike, each_alike, each_as_alike, ids_push}
use Rattle.tt_tree.specs.Context.{Context}
use Rattle.tt_tree.specs.Tables.{time_in, a_time_choice, a_closed_time, a_travel_entry, Rooms, a_room, rooms_in, a_room_choice, rooms_where, rooms_of, a_class, Subparts, a_subpart, no_limit, Configs, a_config, Courses, a_course, no_courses, courses_in}

-- the same term, with no ids known
abbrev pub unknown : Context → Context
unknown c = record { nr_days = c.nr_days; nr_weeks = c.nr_weeks; rooms = None; classes = None }

-- ---- times

time_same : (c : Context) (o : Field) → time_in c o ≡ time_in (unknown c) o
unfolding time_in
time_same c o = refl

time_alike : (c : Context) (p : Field) → Alike Any (a_time_choice c p) (a_time_choice (unknown c) p)
unfolding a_time_choice
time_alike c p =
    after_alike Any (an_object p) _ _ (λ o.
    same_alike Any (time_in c o) (time_in (unknown c) o) _ _ (time_same c o) (λ time.
    after_alike Any (required (a_number 0 1000000) (codes "penalty") o) _ _ (λ penalty. tt)))

closed_alike : (c : Context) (p : Field) → Alike Any (a_closed_time c p) (a_closed_time (unknown c) p)
unfolding a_closed_time
closed_alike c p =
    after_alike Any (an_object p) _ _ (λ o. equal_alike (time_in c o) (time_in (unknown c) o) (time_same c o))

-- ---- rooms

-- the rooms have the same ids
abbrev pub SameRooms : Rooms → Rooms → Type 0
SameRooms s t = room_ids s.rooms ≡ room_ids t.rooms

entry_alike : (c : Context) (from other : ℕ) (p : Field) (s t : Table) → Alike Any (a_travel_entry c from p s) (a_travel_entry (unknown c) other p t)
unfolding a_travel_entry
entry_alike c from other p s t =
    after_alike Any (an_object p) _ _ (λ o.
    then_alike Any Any (required (a_reference c.rooms) (codes "room") o) (required (a_reference None) (codes "room") o) _ _
    (required_alike Any (a_reference c.rooms) (a_reference None) (reference_alike c.rooms) (codes "room") o) (λ to place k.
    after_alike Any (required (a_number 0 65535) (codes "value") o) _ _ (λ slots. tt)))

room_alike : (c : Context) (p : Field) (s t : Rooms) → SameRooms s t → Alike SameRooms (a_room c p s) (a_room (unknown c) p t)
unfolding a_room
room_alike c p s t same =
    after_alike SameRooms (an_object p) _ _ (λ o.
    after_alike SameRooms (required (a_number 0 4294967295) (codes "id") o) _ _ (λ id.
    same_alike SameRooms (new_id id (room_ids s.rooms) o) (new_id id (room_ids t.rooms) o) _ _ (ap (λ (l : List ℕ). new_id id l o) same) (λ ids.
    after_alike SameRooms (or_else [] (a_list 0 4000) (codes "travel") o) _ _ (λ entries.
    then_alike Any SameRooms (each (a_travel_entry c (length s.rooms)) entries s.travel) (each (a_travel_entry (unknown c) (length t.rooms)) entries t.travel) _ _
    (each_alike Any (a_travel_entry c (length s.rooms)) (a_travel_entry (unknown c) (length t.rooms)) (λ q x y k. entry_alike c (length s.rooms) (length t.rooms) q x y) entries s.travel t.travel tt) (λ travel others k.
    after_alike SameRooms (or_else [] (a_list 0 1000) (codes "unavailable") o) _ _ (λ unavailable.
    then_alike Any SameRooms (each_as (a_closed_time c) unavailable) (each_as (a_closed_time (unknown c)) unavailable) _ _
    (each_as_alike (a_closed_time c) (a_closed_time (unknown c)) (closed_alike c) unavailable) (λ closed times l.
    ids_push (λ (x : RoomPart). x.id) s.rooms t.rooms (record { id = id; closed = closed }) (record { id = id; closed = times }) same refl)))))))

pub rooms_alike : (c : Context) (items : List Field) → Alike SameRooms (rooms_in c items) (rooms_in (unknown c) items)
unfolding rooms_in
rooms_alike c items =
    let none : Rooms = record { rooms = []; travel = no_travel (length items) } in
    each_alike SameRooms (a_room c) (a_room (unknown c)) (room_alike c) items none none refl

-- ---- classes

-- the classes have the same ids
abbrev SameClasses : List ClassPart → List ClassPart → Type 0
SameClasses s t = class_ids s ≡ class_ids t

choice_alike : (c : Context) (p : Field) → Alike Any (a_room_choice c p) (a_room_choice (unknown c) p)
unfolding a_room_choice
choice_alike c p =
    after_alike Any (an_object p) _ _ (λ o.
    then_alike Any Any (required (place_of c.rooms) (codes "id") o) (required (place_of None) (codes "id") o) _ _
    (required_alike Any (place_of c.rooms) (place_of None) (place_alike c.rooms) (codes "id") o) (λ room place k.
    after_alike Any (required (a_number 0 1000000) (codes "penalty") o) _ _ (λ penalty. tt)))

where_alike : (room : Bool) (c : Context) (o : Field) → Alike Any (rooms_where room c o) (rooms_where room (unknown c) o)
where_alike false c o = tt
where_alike true c o =
    after_alike Any (or_else [] (a_list 0 1000) (codes "rooms") o) (each_as (a_room_choice c)) (each_as (a_room_choice (unknown c))) (λ items.
    each_as_alike (a_room_choice c) (a_room_choice (unknown c)) (choice_alike c) items)

choices_alike : (c : Context) (o : Field) → Alike Any (rooms_of c o) (rooms_of (unknown c) o)
unfolding rooms_of
choices_alike c o = after_alike Any (or_else true a_truth (codes "room") o) _ _ (λ room. where_alike room c o)

class_alike : (c : Context) (p : Field) (s t : List ClassPart) → SameClasses s t → Alike SameClasses (a_class c p s) (a_class (unknown c) p t)
unfolding a_class
class_alike c p s t same =
    after_alike SameClasses (an_object p) _ _ (λ o.
    after_alike SameClasses (required (a_number 0 4294967295) (codes "id") o) _ _ (λ id.
    same_alike SameClasses (new_id id (class_ids s) o) (new_id id (class_ids t) o) _ _ (ap (λ (l : List ℕ). new_id id l o) same) (λ ids.
    after_alike SameClasses (optional (a_number 0 4294967295) (codes "limit") o) _ _ (λ limit.
    then_alike Any SameClasses (optional (a_reference c.classes) (codes "parent") o) (optional (a_reference None) (codes "parent") o) _ _
    (optional_alike (a_reference c.classes) (a_reference None) (reference_alike c.classes) (codes "parent") o) (λ parent place k.
    then_alike Any SameClasses (rooms_of c o) (rooms_of (unknown c) o) _ _ (choices_alike c o) (λ rooms choices l.
    after_alike SameClasses (required (a_list 1 1000) (codes "times") o) _ _ (λ items.
    then_alike Any SameClasses (each_as (a_time_choice c) items) (each_as (a_time_choice (unknown c)) items) _ _
    (each_as_alike (a_time_choice c) (a_time_choice (unknown c)) (time_alike c) items) (λ times others m.
    ids_push (λ (x : ClassPart). x.id) s t (record { id = id; limit = limit; parent = parent; times = times; rooms = rooms })
    (record { id = id; limit = limit; parent = place; times = others; rooms = choices }) same refl))))))))

-- ---- subparts, configurations and courses

abbrev SameSubparts : Subparts → Subparts → Type 0
SameSubparts s t = SameClasses s.classes t.classes

same_length : (s t : List ClassPart) → SameClasses s t → length s ≡ length t
same_length s t same = sym (length-map s (λ (x : ClassPart). x.id)) ∙ ap (λ (l : List ℕ). length l) same ∙ length-map t (λ (x : ClassPart). x.id)

subpart_alike : (c : Context) (p : Field) (s t : Subparts) → SameSubparts s t → Alike SameSubparts (a_subpart c p s) (a_subpart (unknown c) p t)
unfolding a_subpart
subpart_alike c p s t same =
    after_alike SameSubparts (an_object p) _ _ (λ o.
    same_alike SameSubparts (required (a_list 1 (20000 - length s.classes)) (codes "classes") o) (required (a_list 1 (20000 - length t.classes)) (codes "classes") o) _ _
    (ap (λ (n : ℕ). required (a_list 1 (20000 - n)) (codes "classes") o) (same_length s.classes t.classes same)) (λ items.
    then_alike SameClasses SameSubparts (each (a_class c) items s.classes) (each (a_class (unknown c)) items t.classes) _ _
    (each_alike SameClasses (a_class c) (a_class (unknown c)) (class_alike c) items s.classes t.classes same) (λ classes others k. k)))

abbrev SameConfigs : Configs → Configs → Type 0
SameConfigs s t = SameSubparts s.subparts t.subparts

config_alike : (c : Context) (p : Field) (s t : Configs) → SameConfigs s t → Alike SameConfigs (a_config c p s) (a_config (unknown c) p t)
unfolding a_config
config_alike c p s t same =
    after_alike SameConfigs (an_object p) _ _ (λ o.
    after_alike SameConfigs (required (a_list 1 no_limit) (codes "subparts") o) _ _ (λ items.
    then_alike SameSubparts SameConfigs (each (a_subpart c) items s.subparts) (each (a_subpart (unknown c)) items t.subparts) _ _
    (each_alike SameSubparts (a_subpart c) (a_subpart (unknown c)) (subpart_alike c) items s.subparts t.subparts same) (λ subparts others k. k)))

-- the courses and their classes have the same ids
pub record SameCourses (s t : Courses) : Type 0 where
  pub courses : course_ids s.courses ≡ course_ids t.courses
  pub classes : class_ids s.configs.subparts.classes ≡ class_ids t.configs.subparts.classes

course_alike : (c : Context) (p : Field) (s t : Courses) → SameCourses s t → Alike SameCourses (a_course c p s) (a_course (unknown c) p t)
unfolding a_course
course_alike c p s t same =
    after_alike SameCourses (an_object p) _ _ (λ o.
    after_alike SameCourses (required (a_number 0 4294967295) (codes "id") o) _ _ (λ id.
    same_alike SameCourses (new_id id (course_ids s.courses) o) (new_id id (course_ids t.courses) o) _ _ (ap (λ (l : List ℕ). new_id id l o) same.courses) (λ ids.
    after_alike SameCourses (required (a_list 1 no_limit) (codes "configs") o) _ _ (λ items.
    then_alike SameConfigs SameCourses (each (a_config c) items s.configs) (each (a_config (unknown c)) items t.configs) _ _
    (each_alike SameConfigs (a_config c) (a_config (unknown c)) (config_alike c) items s.configs t.configs same.classes) (λ configs others k.
    record { courses = ids_push (λ (x : CoursePart). x.id) s.courses t.courses _ _ same.courses refl; classes = k })))))

pub courses_alike : (c : Context) (items : List Field) → Alike SameCourses (courses_in c items) (courses_in (unknown c) items)
unfolding courses_in
courses_alike c items = each_alike SameCourses (a_course c) (a_course (unknown c)) (course_alike c) items no_courses no_courses (record { courses = refl; classes = refl })
