-- What is read with the right ids known is what the passes read.
use Rattle.std.proofs.Common.{◌≡◌, ℕ, List, [], Some, None, Result, Ok, Err, refl, sym, ap, subst, ◌∙◌, codes}
use Rattle.std.proofs.lemmas.Result.{IfOk-at_ok}
use Rattle.tt_base.specs.Limits.{most_rooms}
use Rattle.tt_problem.specs.declared.parts.Weights.{Weights}
use Rattle.tt_problem.specs.declared.parts.Rule.{Rule}
use Rattle.tt_problem.specs.declared.parts.StudentPart.{StudentPart}
use Rattle.tt_problem.specs.declared.parts.Parts.{Parts}
use Rattle.tt_problem.specs.Valid.{room_ids, course_ids, class_ids}
use Rattle.tt_base.specs.Chain.{◌>>=◌}
use Rattle.tt_fields.specs.Answer.{Field, Fault}
use Rattle.tt_fields.specs.Kinds.{an_object, a_list, required, or_else}
use Rattle.tt_fields.specs.List.{items_of}
use Rattle.tt_fields.proofs.Alike.{Alike, Any, read_too}
use Rattle.tt_fields.proofs.Chain.{then, after}
use Rattle.tt_tree.specs.Context.{Context}
use Rattle.tt_tree.specs.Tables.{Rooms, Courses, rooms_in, courses_in}
use Rattle.tt_tree.proofs.Unknown.{unknown, SameRooms, SameCourses, rooms_alike, courses_alike}
use Rattle.tt_tree.proofs.Whole.{classes_whole}
use Rattle.tt_lists.specs.Tables.{rules_in, students_in}
use Rattle.tt_lists.proofs.Unknown.{rules_alike, students_alike}
use Rattle.tt_read.specs.declared.passes as passes
use Rattle.tt_read.specs.declared.term.Term.{Term}
use Rattle.tt_read.specs.Read.{shape_read, HasLists, HasIdsOf, HasAllClasses, IsLinked, ArePartsOf}
use Rattle.tt_read.specs.Tables.{term_of, weights_of, term_context, room_list_of, course_list_of, checked_list, Shape, file_shape, shape_context, parts_with, linked_of, summed, parts_of}

-- the value that is read where the other is
also : {A B : Type 0} (P : A → B → Type 0) (r : Result A Fault) (other : Result B Fault) (x : A) → Alike P r other → r ≡ Ok x → (y : B) × (other ≡ Ok y) × P x y
also P r other x h is = read_too P x other (subst (λ (q : Result _ Fault). Alike P q other) is h)

-- ---- what the lists of a shape are read as, each reference looked up

-- the parts are those of what the lists are read as
pub record Links (s : Shape) (p : Parts) : Type 0 where
  pub rooms : Rooms
  pub tree : Courses
  pub rules : List Rule
  pub students : List StudentPart
  pub rooms_are : rooms_in (shape_context s) s.rooms.items ≡ Ok rooms
  pub tree_is : courses_in (shape_context s) s.courses.items ≡ Ok tree
  pub rules_are : rules_in s.term.version (Some s.courses.class_ids) s.distributions ≡ Ok rules
  pub students_are : students_in (Some s.courses.ids) s.students ≡ Ok students
  pub parts : p ≡ parts_with s rooms tree rules students

links : (s : Shape) (p : Parts) → linked_of s ≡ Ok p → Links s p
unfolding linked_of
links s p is = IfOk-at_ok (Links s) is
    (after (Links s) (rooms_in (shape_context s) s.rooms.items) _ (λ rooms a.
    after (Links s) (courses_in (shape_context s) s.courses.items) _ (λ tree b.
    after (Links s) (rules_in s.term.version (Some s.courses.class_ids) s.distributions) _ (λ rules d.
    after (Links s) (students_in (Some s.courses.ids) s.students) _ (λ students e.
    record { rooms = rooms; tree = tree; rules = rules; students = students; rooms_are = a; tree_is = b; rules_are = d; students_are = e; parts = refl })))))

-- ---- the first pass finds the same

rooms_found : (term : Term) (o : Field) (items : List Field) (ids : List ℕ) (rooms : Rooms) → or_else [] (a_list 0 most_rooms) (codes "rooms") o ≡ Ok items
    → rooms_in (term_context term) items ≡ Ok rooms → room_ids rooms.rooms ≡ ids → room_list_of term o ≡ Ok (record { items = items; ids = ids })
unfolding room_list_of
rooms_found term o items ids rooms found read same =
    then (or_else [] (a_list 0 most_rooms) (codes "rooms") o) items _ _ found
    (then (rooms_in (term_context term) items) rooms _ _ read (ap (λ (l : List ℕ). Ok (record { items = items; ids = l })) same))

courses_found : (term : Term) (o : Field) (items : List Field) (ids classes : List ℕ) (tree : Courses) → required (a_list 0 20000) (codes "courses") o ≡ Ok items
    → courses_in (term_context term) items ≡ Ok tree → course_ids tree.courses ≡ ids → class_ids tree.configs.subparts.classes ≡ classes
    → course_list_of term o ≡ Ok (record { items = items; ids = ids; class_ids = classes })
unfolding course_list_of
courses_found term o items ids classes tree found read same also_same =
    then (required (a_list 0 20000) (codes "courses") o) items _ _ found
    (then (courses_in (term_context term) items) tree _ _ read
    (ap (λ (l : List ℕ). Ok (record { items = items; ids = l; class_ids = class_ids tree.configs.subparts.classes })) same
    ∙ ap (λ (l : List ℕ). Ok (record { items = items; ids = ids; class_ids = l })) also_same))

list_found : {A : Type 0} (most : ℕ) (read : List Field → Result A Fault) (key : List ℕ) (o : Field) (items : List Field) (x : A) → or_else [] (a_list 0 most) key o ≡ Ok items
    → read items ≡ Ok x → checked_list most read key o ≡ Ok items
unfolding checked_list
list_found most read key o items x found is =
    then (or_else [] (a_list 0 most) key o) items _ _ found (then (read items) x _ _ is refl)

-- what the whole value has before its lists
weights_found : {A : Type 0} (o : Field) (weights : Weights) (f : Weights → Result A Fault) (out : Result A Fault) → (required an_object (codes "optimization") o >>= weights_of) ≡ Ok weights
    → f weights ≡ out → (required an_object (codes "optimization") o >>= λ optimization. weights_of optimization >>= f) ≡ out
weights_found o weights f out is rest = by_case (required an_object (codes "optimization") o) is
  where
    by_case : (r : Result Field Fault) → (r >>= weights_of) ≡ Ok weights → (r >>= λ optimization. weights_of optimization >>= f) ≡ out
    by_case (Ok x) e = then (weights_of x) weights f out e rest
    by_case (Err x) e = absurd (cc)

pub shape_found : (o : Field) (s : Shape) (p : Parts) → HasLists o s → linked_of s ≡ Ok p → HasIdsOf s p → file_shape o ≡ Ok s
unfolding file_shape
shape_found o s p lists linked ids =
    let l : Links s p = links s p linked in
    let c : Context = shape_context s in
    let rooms = also SameRooms (rooms_in c s.rooms.items) (rooms_in (unknown c) s.rooms.items) l.rooms (rooms_alike c s.rooms.items) l.rooms_are in
    let tree = also SameCourses (courses_in c s.courses.items) (courses_in (unknown c) s.courses.items) l.tree (courses_alike c s.courses.items) l.tree_is in
    let rules = also Any (rules_in s.term.version (Some s.courses.class_ids) s.distributions) (rules_in s.term.version None s.distributions) l.rules
    (rules_alike s.term.version (Some s.courses.class_ids) s.distributions) l.rules_are in
    let students = also Any (students_in (Some s.courses.ids) s.students) (students_in None s.students) l.students (students_alike (Some s.courses.ids) s.students) l.students_are in
    let room_ids_are : room_ids rooms.0.rooms ≡ s.rooms.ids = sym rooms.2 ∙ ap (λ (q : Parts). room_ids q.rooms) (sym l.parts) ∙ ids.rooms in
    let course_ids_are : course_ids tree.0.courses ≡ s.courses.ids = sym tree.2.courses ∙ ap (λ (q : Parts). course_ids q.courses) (sym l.parts) ∙ ids.courses in
    let class_ids_are : class_ids tree.0.configs.subparts.classes ≡ s.courses.class_ids = sym tree.2.classes ∙ ap (λ (q : Parts). class_ids q.classes) (sym l.parts) ∙ ids.classes in
    then (an_object o) o _ _ lists.object
    (then (term_of o) s.term _ _ lists.term
    (weights_found o s.weights _ _ lists.weights
    (then (room_list_of s.term o) s.rooms _ _ (rooms_found s.term o s.rooms.items s.rooms.ids rooms.0 lists.rooms rooms.1 room_ids_are)
    (then (course_list_of s.term o) s.courses _ _ (courses_found s.term o s.courses.items s.courses.ids s.courses.class_ids tree.0 lists.courses tree.1 course_ids_are class_ids_are)
    (then (checked_list 20000 (rules_in s.term.version None) (codes "distributions") o) s.distributions _ _ (list_found 20000 (rules_in s.term.version None) (codes "distributions") o s.distributions rules.0 lists.distributions rules.1)
    (then (checked_list 100000 (students_in None) (codes "students") o) s.students _ _ (list_found 100000 (students_in None) (codes "students") o s.students students.0 lists.students students.1)
    refl))))))

-- ---- what reading at once cites

-- the courses have as many classes as there are ids
all_classes : (s : passes.Shape.Shape) (p : Parts) → linked_of (shape_read s) ≡ Ok p → HasIdsOf (shape_read s) p → HasAllClasses s
all_classes s p linked ids =
    let l : Links (shape_read s) p = links (shape_read s) p linked in
    classes_whole (shape_context (shape_read s)) (items_of s.courses.items) l.tree s.courses.class_ids.keys l.tree_is (sym ids.classes ∙ ap (λ (q : Parts). class_ids q.classes) l.parts)

-- so the parts are linked
pub all_linked : (s : passes.Shape.Shape) (p : Parts) → ArePartsOf s p → IsLinked p
all_linked s p parts = parts.linked (all_classes s p parts.read parts.ids)

-- the parts are those of the whole value
pub parts_are : (o : Field) (s : passes.Shape.Shape) (p : Parts) → HasLists o (shape_read s) → ArePartsOf s p → summed o p ≡ Ok p → parts_of o ≡ Ok p
unfolding parts_of
parts_are o s p lists parts sums =
    then (file_shape o) (shape_read s) _ _ (shape_found o (shape_read s) p lists parts.read parts.ids)
    (then (linked_of (shape_read s)) p _ _ parts.read sums)
