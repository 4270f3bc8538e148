-- The classes found for a student, course after course, are a valid enrolment with seats.
use Rattle.std.proofs.Common.{◌≡◌, ℕ, ◌+◌, ◌<◌, Bool, true, false, List, [], ◌∷◌, ◌++◌, Option, Some, None, map, length, arith, refl, sym, ap, ◌∙◌, append_assoc, append-nil, nat_eq}
use Rattle.std.proofs.Math.Bool.{and-true}
use Rattle.std.specs.Prelude.{◌&&◌, ◌||◌, IfSome, slice_get, fold}
use Rattle.std.specs.List.{list_all, AllByRecursion, IsDistinct}
use Rattle.std.specs.Option.{option_map, option_map_or}
use Rattle.std.proofs.lemmas.Bool.Decides.{nat_tests}
use Rattle.std.proofs.lemmas.List.Elements.{recursion_from_All, All-from_recursion}
use Rattle.std.proofs.lemmas.List.Folds.{list_all-append, list_any-append}
use Rattle.std.proofs.lemmas.Map.Keys.{IsDistinct-head, IsDistinct-tail}
use Rattle.std.proofs.lemmas.Option.{none-some}
use Rattle.tt_base.specs.Lists.{is_listed}
use Rattle.tt_problem.specs.declared.parts.Span.{Span}
use Rattle.tt_problem.specs.declared.parts.StudentPart.{StudentPart}
use Rattle.tt_problem.specs.declared.parts.Parts.{Parts}
use Rattle.tt_problem.specs.Places.{course_of}
use Rattle.tt_problem.specs.Valid.{IsValid, IsValidStudent}
use Rattle.tt_struct.specs.Enrolments.{count_in, takes, is_of_courses, has_parent, is_enrolment_of}
use Rattle.tt_state.specs.Seats.{has_seat}
use Rattle.tt_state.specs.Snapshots.{Snapshot}
use Rattle.tt_choice.specs.Choices.{choices_at}
use Rattle.tt_choice.specs.Least.{Situation, is_allowed, least_choice}
use Rattle.tt_choice.specs.Situations.{situation_of}
use Rattle.tt_choice.proofs.ParentLemmas.{has_parent_in, parents_kept, allowed_parents, allowed_seats}
use Rattle.tt_enrol.specs.Students.{with_course, classes_found}
use Rattle.tt_enrol.specs.Steps.{taken_in}
use Rattle.tt_choice.specs.Seating.{MayGet}
use Rattle.tt_choice.proofs.CountLemmas.{count_of-append}
use Rattle.tt_enrol.proofs.EnrolledLemmas.{none_stays}
use Rattle.tt_choice.proofs.LeastLemmas.{IsAllowed, least_is}
use Rattle.tt_choice.proofs.Order.{all-append}
use Rattle.tt_choice.proofs.SeatingLemmas.{all_seats}
use Rattle.tt_choice.proofs.ValidLemmas.{IsChoice, IsTaken, are_choices, takes_at, same_takes, listed_of, takes_more, of_more, of_last, once_more}

both : (x y : Bool) → x ≡ true → y ≡ true → (x && y) ≡ true
both x y h k = rw (h, k) refl

-- none of the courses to come is done, and none stands twice
abbrev AreNew : (done rest : List ℕ) → Type 0
AreNew done [] = Unit {0}
AreNew done (k ∷ rest) = (is_listed k done ≡ false) × AreNew (done ++ k ∷ []) rest

new_more : (done : List ℕ) (k : ℕ) (rest : List ℕ) → AllByRecursion (λ j. is_listed j done ≡ false) rest → AllByRecursion (λ j. nat_eq k j ≡ false) rest → AllByRecursion (λ j. is_listed j (done ++ k ∷ []) ≡ false) rest
new_more done k [] h d = tt
new_more done k (j ∷ rest) h d = (list_any-append (nat_eq j) done (k ∷ []) ∙ none (is_listed j done) h.0 d.0, new_more done k rest h.1 d.1)
  where
    none : (b : Bool) → b ≡ false → nat_eq k j ≡ false → (b || (nat_eq j k || false)) ≡ false
    none b e f = grind (arith, nat_tests)

are_new : (done rest : List ℕ) → AllByRecursion (λ j. is_listed j done ≡ false) rest → IsDistinct nat_eq rest → AreNew done rest
are_new done [] h d = tt
are_new done (k ∷ rest) h d = (h.0, are_new (done ++ k ∷ []) rest (new_more done k rest h.1 (IsDistinct-head nat_eq k rest d)) (IsDistinct-tail nat_eq k rest d))

-- one course more
module _ (p : Parts) (valid : IsValid p) (at : List ℕ → Situation) (has : ℕ → Bool)
    (judged : (already choice : List ℕ) → is_allowed (at already) choice ≡ list_all (λ c. has c && has_parent_in p already choice c) choice) where
  taken_more : (done already choice : List ℕ) (place : ℕ) → place < length p.courses → AllByRecursion (λ k. k < length p.courses) done → is_listed place done ≡ false
      → IsTaken p has done already → IsAllowed (IsChoice p place) (at already) choice → IsTaken p has (done ++ place ∷ []) (already ++ choice)
  taken_more done already choice place within before new h one =
      let tests : list_all (λ c. has c && has_parent_in p already choice c) choice ≡ true = sym (judged already choice) ∙ one.allowed in
      let is = one.is in
      let here = takes_at p (already ++ choice) place within in
      let sum : (t : Span) → count_in (already ++ choice) t ≡ count_in choice t + count_in already t = λ t. omega (arith, count_of-append already choice t) in
      let own = same_takes p valid (already ++ choice) choice already place within sum (listed_of p done already place h.of new) in
      let last : takes p (already ++ choice) place ≡ true = here ∙ own ∙ is.takes in
      record {
        below = all-append (λ c. c < length p.classes) already choice h.below is.below;
        of = all-append (λ c. option_map_or (λ course. is_listed course (done ++ place ∷ [])) (course_of p c) false ≡ true) already choice (of_more p done place already h.of) (of_last p done place choice is.of);
        takes = list_all-append (takes p (already ++ choice)) done (place ∷ []) ∙ both (list_all (takes p (already ++ choice)) done) (takes p (already ++ choice) place && true)
            (takes_more p valid already choice place is.of done before new h.takes) (both (takes p (already ++ choice) place) true last refl);
        once = once_more p done place already choice h.of new is.of h.once is.once;
        parents = list_all-append (has_parent p (already ++ choice)) already choice ∙ both (list_all (has_parent p (already ++ choice)) already) (list_all (has_parent p (already ++ choice)) choice)
            (parents_kept p already choice already h.parents) (allowed_parents p has already choice choice is.below tests);
        seats = list_all-append has already choice ∙ both (list_all has already) (list_all has choice) h.seats (allowed_seats p has already choice choice tests);
      }

  taken_all : (done rest already list : List ℕ) → AllByRecursion (λ k. k < length p.courses) done → AllByRecursion (λ k. k < length p.courses) rest → AreNew done rest → IsTaken p has done already
      → Some list ≡ fold (with_course at) (Some already) (map (choices_at p) rest) → IsTaken p has (done ++ rest) list
  taken_all done [] already list before within new h e = let same : list ≡ already = cc e in rw (same, append-nil done) h
  taken_all done (k ∷ rest) already list before within new h e =
      step (least_choice (at already) (choices_at p k)) refl (least_is (IsChoice p k) (at already) (choices_at p k) (are_choices p k valid within.0))
      (λ choice one more. rw (append_assoc done (k ∷ []) rest) at (taken_all (done ++ k ∷ []) rest (already ++ choice) list (all-append (λ j. j < length p.courses) done (k ∷ []) before (within.0, tt)) within.1 new.1 (taken_more done already choice k within.0 before new.0 h one) more))
      e
    where
      step : (o : Option (List ℕ)) → least_choice (at already) (choices_at p k) ≡ o → IfSome o (IsAllowed (IsChoice p k) (at already))
          → ((choice : List ℕ) → IsAllowed (IsChoice p k) (at already) choice → Some list ≡ fold (with_course at) (Some (already ++ choice)) (map (choices_at p) rest) → IsTaken p has (done ++ k ∷ rest) list)
          → Some list ≡ fold (with_course at) (option_map (λ choice. already ++ choice) o) (map (choices_at p) rest) → IsTaken p has (done ++ k ∷ rest) list
      step None is one go e = absurd (none-some list (sym (e ∙ none_stays at (map (choices_at p) rest))))
      step (Some choice) is one go e = go choice one e

all_new : (rest : List ℕ) → AllByRecursion (λ j. is_listed j [] ≡ false) rest
all_new [] = tt
all_new (j ∷ rest) = (refl, all_new rest)

all_of : (f : ℕ → Bool) (list : List ℕ) → AllByRecursion (λ c. f c ≡ true) list → list_all f list ≡ true
all_of f [] h = refl
all_of f (c ∷ list) h = both (f c) (list_all f list) h.0 (all_of f list h.1)

is_enrolment_is : (p : Parts) (part : StudentPart) (has : ℕ → Bool) (list : List ℕ) → IsTaken p has part.courses list → is_enrolment_of p part list ≡ true
unfolding is_enrolment_of is_of_courses
is_enrolment_is p part has list h =
    rw (h.once, all_of (λ c. option_map_or (λ course. is_listed course part.courses) (course_of p c) false) list h.of, h.takes, h.parents) refl

pub found_valid : (p : Parts) (s : Snapshot) (student : ℕ) (part : StudentPart) (list : List ℕ) → IsValid p → slice_get p.students student ≡ Some part → IsValidStudent p part → classes_found p s student ≡ Some list
    → MayGet p s.lists student list
unfolding classes_found
found_valid p s student part list valid is student_valid e =
    let at = situation_of p s student [] in
    let has = has_seat p s.lists student in
    let courses : Some list ≡ fold (with_course at) (Some []) (map (choices_at p) part.courses) = sym e ∙ ap (λ (o : Option StudentPart). taken_in at (map (choices_at p) (option_map_or (λ x. x.courses) o []))) is in
    let within = recursion_from_All (λ place. place < length p.courses) part.courses student_valid.courses in
    let none : IsTaken p has [] [] = record { below = tt; of = tt; takes = refl; once = refl; parents = refl; seats = refl } in
    let all = taken_all p valid at has (λ already choice. and-true (list_all (λ c. has c && has_parent_in p already choice c) choice)) [] part.courses [] list tt within (are_new [] part.courses (all_new part.courses) student_valid.distinct) none courses in
    record {
      below = All-from_recursion (λ c. c < length p.classes) list all.below;
      enrolment = ap (λ (o : Option StudentPart). option_map_or (λ x. is_enrolment_of p x list) o false) is ∙ is_enrolment_is p part has list all;
      seats = all_seats p s.lists student list all.seats;
    }
