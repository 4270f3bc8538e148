-- Distributions and students that are read with ids known are read with none known too.
use Rattle.std.proofs.Common.{◌≡◌, ℕ, List, [], false, Option, None, refl, ap, codes}
use Rattle.tt_base.specs.Limits.{most_members}
use Rattle.tt_problem.specs.declared.parts.StudentPart.{StudentPart}
use Rattle.tt_problem.specs.Valid.{student_ids}
use Rattle.tt_fields.specs.Answer.{Field}
use Rattle.tt_fields.specs.Kinds.{a_number, a_truth, an_object, a_list, a_reference, required, or_else, new_id}
use Rattle.tt_fields.proofs.Alike.{Alike, Any, any_alike, then_alike, after_alike, same_alike, reference_alike, each_alike, each_as_alike, ids_push}
use Rattle.tt_lists.specs.Tables.{a_type, penalty_unless, a_place, places_in, a_rule, rules_in, a_student, students_in}

member_alike : (ids : Option (List ℕ)) (p : Field) (s t : List ℕ) → Alike Any (a_place ids p s) (a_place None p t)
unfolding a_place
member_alike ids p s t = then_alike Any Any (a_reference ids p) (a_reference None p) _ _ (reference_alike ids p) (λ x y k. tt)

places_alike : (ids : Option (List ℕ)) (items : List Field) → Alike Any (places_in ids items) (places_in None items)
places_alike ids items = each_alike Any (a_place ids) (a_place None) (λ p s t k. member_alike ids p s t) items [] [] tt

rule_alike : (version : ℕ) (ids : Option (List ℕ)) (p : Field) → Alike Any (a_rule version ids p) (a_rule version None p)
unfolding a_rule
rule_alike version ids p =
    after_alike Any (an_object p) _ _ (λ o.
    after_alike Any (required (a_type version) (codes "type") o) _ _ (λ kind.
    after_alike Any (or_else false a_truth (codes "required") o) _ _ (λ is_required.
    after_alike Any (penalty_unless is_required o) _ _ (λ penalty.
    after_alike Any (required (a_list 0 most_members) (codes "classes") o) _ _ (λ items.
    then_alike Any Any (places_in ids items) (places_in None items) _ _ (places_alike ids items) (λ x y k. tt))))))

pub rules_alike : (version : ℕ) (ids : Option (List ℕ)) (items : List Field) → Alike Any (rules_in version ids items) (rules_in version None items)
rules_alike version ids items = each_as_alike (a_rule version ids) (a_rule version None) (rule_alike version ids) items

-- the students have the same ids
abbrev SameStudents : List StudentPart → List StudentPart → Type 0
SameStudents s t = student_ids s ≡ student_ids t

student_alike : (ids : Option (List ℕ)) (p : Field) (s t : List StudentPart) → SameStudents s t → Alike SameStudents (a_student ids p s) (a_student None p t)
unfolding a_student
student_alike ids p s t same =
    after_alike SameStudents (an_object p) _ _ (λ o.
    after_alike SameStudents (required (a_number 0 4294967295) (codes "id") o) _ _ (λ id.
    same_alike SameStudents (new_id id (student_ids s) o) (new_id id (student_ids t) o) _ _ (ap (λ (l : List ℕ). new_id id l o) same) (λ more.
    after_alike SameStudents (required (a_list 0 40) (codes "courses") o) _ _ (λ items.
    then_alike Any SameStudents (places_in ids items) (places_in None items) _ _ (places_alike ids items) (λ x y k.
    ids_push (λ (z : StudentPart). z.id) s t (record { id = id; courses = x }) (record { id = id; courses = y }) same refl)))))

pub students_alike : (ids : Option (List ℕ)) (items : List Field) → Alike Any (students_in ids items) (students_in None items)
students_alike ids items =
    any_alike SameStudents (students_in ids items) (students_in None items) (each_alike SameStudents (a_student ids) (a_student None) (student_alike ids) items [] [] refl)
