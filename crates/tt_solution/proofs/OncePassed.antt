-- What is read with the ids of classes and students known is read with none known too.
use Rattle.std.proofs.Common.{◌≡◌, ℕ, List, [], None, Result, Ok, refl, sym, ap, subst, codes}
use Rattle.tt_problem.specs.declared.parts.Parts.{Parts}
use Rattle.tt_fields.specs.declared.answer.FileFault.{FileFault}
use Rattle.tt_fields.specs.Answer.{Field, Fault, Fails}
use Rattle.tt_fields.specs.Kinds.{a_number, an_object, a_list, a_reference, place_of, required, or_else, new_id, each_as}
use Rattle.tt_fields.proofs.Alike.{Alike, Any, read_too, then_alike, after_alike, same_alike, required_alike, place_alike, reference_alike, each_alike, each_as_alike}
use Rattle.tt_fields.proofs.Chain.{then, fails_on}
use Rattle.tt_solution.specs.Tables.{AssignmentContext, Assignments, meeting_in, an_assignment, no_assignments, assignments_in, context_without_ids, context_with_ids, timetable_with, timetable_in}

-- the same with nothing looked up
abbrev unknown : AssignmentContext → AssignmentContext
unknown c = record { nr_days = c.nr_days; nr_weeks = c.nr_weeks; classes = None; students = None }

-- the classes that were read have the same ids
abbrev SameIds : Assignments → Assignments → Type 0
SameIds s t = s.ids ≡ t.ids

meeting_same : (c : AssignmentContext) (o : Field) → meeting_in c o ≡ meeting_in (unknown c) o
unfolding meeting_in
meeting_same c o = refl

assignment_alike : (c : AssignmentContext) (p : Field) (s t : Assignments) → SameIds s t → Alike SameIds (an_assignment c p s) (an_assignment (unknown c) p t)
unfolding an_assignment
assignment_alike c p s t same =
    after_alike SameIds (an_object p) _ _ (λ o.
    after_alike SameIds (required (a_number 0 4294967295) (codes "id") o) _ _ (λ id.
    same_alike SameIds (new_id id s.ids o) (new_id id t.ids o) _ _ (ap (λ (l : List ℕ). new_id id l o) same) (λ ids.
    then_alike Any SameIds (required (place_of c.classes) (codes "id") o) (required (place_of None) (codes "id") o) _ _ (required_alike Any (place_of c.classes) (place_of None) (place_alike c.classes) (codes "id") o) (λ class zero any.
    same_alike SameIds (meeting_in c o) (meeting_in (unknown c) o) _ _ (meeting_same c o) (λ meeting.
    after_alike SameIds (or_else [] (a_list 0 100000) (codes "students") o) _ _ (λ items.
    then_alike Any SameIds (each_as (a_reference c.students) items) (each_as (a_reference None) items) _ _ (each_as_alike (a_reference c.students) (a_reference None) (reference_alike c.students) items) (λ students zeros any.
    refl)))))))

all_alike : (c : AssignmentContext) (p : Field) → Alike SameIds (assignments_in c p) (assignments_in (unknown c) p)
unfolding assignments_in
all_alike c p =
    after_alike SameIds (an_object p) _ _ (λ o.
    after_alike SameIds (required (a_list 0 20000) (codes "classes") o) _ _ (λ items.
    each_alike SameIds (an_assignment c) (an_assignment (unknown c)) (assignment_alike c) items no_assignments no_assignments refl))

-- where the second pass finds no fault, the first finds none
pub linked_timetable : (p : Parts) (o : Field) (listed : Assignments) → assignments_in (context_with_ids p) o ≡ Ok listed → timetable_in p o ≡ Ok (timetable_with p listed.assignments)
unfolding timetable_in
linked_timetable p o listed is =
    let shape = read_too SameIds listed (assignments_in (context_without_ids p) o) (subst (λ (r : Result Assignments Fault). Alike SameIds r (assignments_in (context_without_ids p) o)) is (all_alike (context_with_ids p) o)) in
    then (assignments_in (context_without_ids p) o) shape.0 _ _ shape.1 (then (assignments_in (context_with_ids p) o) listed _ _ is refl)

-- where the first finds none, a fault of the second is the file's
pub linked_fault : (p : Parts) (o : Field) (shape : Assignments) (e : FileFault) → assignments_in (context_without_ids p) o ≡ Ok shape → Fails e (assignments_in (context_with_ids p) o) → Fails e (timetable_in p o)
unfolding timetable_in
linked_fault p o shape e is fails =
    subst (Fails e) (sym (then (assignments_in (context_without_ids p) o) shape _ _ is refl)) (fails_on e (assignments_in (context_with_ids p) o) _ fails)

-- a fault of the first is the file's
pub shape_fault : (p : Parts) (o : Field) (e : FileFault) → Fails e (assignments_in (context_without_ids p) o) → Fails e (timetable_in p o)
unfolding timetable_in
shape_fault p o e fails = fails_on e (assignments_in (context_without_ids p) o) _ fails
