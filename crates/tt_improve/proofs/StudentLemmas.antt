-- A student whose classes of a course are replaced by a choice that adds fewer pairs.
use Rattle.std.proofs.Common.{◌≡◌, ℕ, suc, ◌+◌, ◌*◌, ◌<◌, ◌≤◌, Bool, true, false, cond, List, [], ◌∷◌, ◌++◌, Option, Some, None, length, get_or, count_by, sum_by, take, subst, refl, sym, ap, ◌∙◌, arith, nat_eq, nat_lt, mul-le-mul_left, length-append}
use Rattle.std.specs.Prelude.{◌&&◌, ◌||◌, not, IfSome, slice_get, slice_set, option_and_then}
use Rattle.std.specs.List.{list_all, filter, AllByRecursion}
use Rattle.std.specs.Option.{option_map, option_map_or}
use Rattle.std.proofs.lemmas.Bool.{and_parts, eqb-true, eq-eqb}
use Rattle.std.proofs.lemmas.Bool.Decides.{nat_tests}
use Rattle.std.proofs.lemmas.List.Elements.{All-from_recursion, recursion_from_All}
use Rattle.std.proofs.lemmas.List.Folds.{list_all-append}
use Rattle.std.proofs.lemmas.List.Sums.{sum_by-cons, sum_by-set}
use Rattle.std.proofs.lemmas.Option.{slice_get-get_or, slice_get_within, get_or_from_slice_get}
use Rattle.tt_base.specs.Among.{pairs_among}
use Rattle.tt_base.specs.Lists.{is_listed, first_least}
use Rattle.tt_bits.specs.declared.times.Spot.{Spot}
use Rattle.tt_bits.specs.declared.times.Value.{Value}
use Rattle.tt_bits.specs.Spots.{spot_at}
use Rattle.tt_travel.specs.Table.{Table, IsRoomOf, IsTravel}
use Rattle.tt_problem.specs.declared.parts.ClassPart.{ClassPart}
use Rattle.tt_problem.specs.declared.parts.RoomChoice.{RoomChoice}
use Rattle.tt_problem.specs.declared.parts.StudentPart.{StudentPart}
use Rattle.tt_problem.specs.declared.parts.TimeChoice.{TimeChoice}
use Rattle.tt_problem.specs.declared.parts.Parts.{Parts}
use Rattle.tt_problem.specs.Valid.{IsValid, IsValidClass, IsValidChoice}
use Rattle.tt_plan.specs.Domain.{spot_at_value, spot_for, spots_of, value_room}
use Rattle.tt_struct.specs.Enrolments.{is_enrolment, is_enrolment_of, takes}
use Rattle.tt_roster.specs.Conflicts.{are_in_conflict, conflicts_in, in_conflict, student_conflicts}
use Rattle.tt_roster.specs.Lists.{Ascends, list_of}
use Rattle.tt_roster.proofs.TimeLemmas.{in_conflict-sym, in_conflict-none}
use Rattle.tt_score.proofs.PlanLemmas.{spot_in}
use Rattle.tt_state.specs.Seats.{count_with, has_seat, limit_of, may_have, others_with}
use Rattle.tt_state.specs.Snapshots.{Snapshot, classes_in_order, list_in, with_list}
use Rattle.tt_state.specs.Sound.{IsSound}
use Rattle.tt_state.proofs.SeatLemmas.{length-ordered, few_ascending}
use Rattle.tt_choice.specs.Choices.{choices_at}
use Rattle.tt_choice.specs.Least.{Situation, choice_numbers, is_allowed, least_choice, pairs_added}
use Rattle.tt_choice.specs.Seating.{MayGet}
use Rattle.tt_choice.proofs.LeastLemmas.{IsAllowed, least_is}
use Rattle.tt_choice.proofs.Order.{all-append, all-weaken}
use Rattle.tt_choice.proofs.SeatingLemmas.{all_seats}
use Rattle.tt_choice.proofs.ValidLemmas.{IsChoice, are_choices, takes_at}
use Rattle.tt_improve.specs.Classes.{total_of}
use Rattle.tt_improve.specs.Courses.{at_fewer, beside, is_of_course, least_replacement, may_replace, own_of, replaced_by, rest_of}
use Rattle.tt_improve.specs.Changed.{changed_student}
use Rattle.tt_improve.specs.Targets.{seated_courses}
use Rattle.tt_improve.specs.Standing.{IsNoWorse, IsSeatedIn}
use Rattle.tt_improve.proofs.TargetLemmas.{changed-student_courses, changed-student_targets}
use Rattle.tt_improve.proofs.PairOrder.{count-with, pairs-with, pairs-joined, pairs-parted}
use Rattle.tt_improve.proofs.ReplaceLemmas.{IsEnrolled, all_kept, below_kept, choice_some, enrolled_is, may_is}

-- the rooms of the spots of a plan are rooms of the travel
room_in : (p : Parts) (c : ℕ) (part : ClassPart) (v : Value) → IsValid p → slice_get p.classes c ≡ Some part → (o : Option RoomChoice) → slice_get part.rooms v.room ≡ o → IsRoomOf p.travel (option_map (λ r. r.room) o)
room_in p c part v valid is None there = tt
room_in p c part v valid is (Some r) there =
    let one : IsValidClass p (get_or p.classes c part) = valid.classes c part (slice_get_within p.classes c part is) in
    let own : IsValidClass p part = rw (get_or_from_slice_get p.classes c part part is) at one in
    let choice : IsValidChoice p (get_or part.rooms v.room r) = own.rooms v.room r (slice_get_within part.rooms v.room r there) in
    let mine : IsValidChoice p r = rw (get_or_from_slice_get part.rooms v.room r r there) at choice in
    omega (arith, mine.room, valid.travel_rooms)

rooms_are : (p : Parts) (plan : List (Option Value)) → IsValid p → (c : ℕ) → IfSome (spot_at (spots_of p plan) c) (λ y. IsRoomOf p.travel y.room)
unfolding spot_at_value
rooms_are p plan valid c = rw (spot_in p plan c) (of_value (get_or plan c None))
  where
    of_time : (part : ClassPart) (v : Value) → slice_get p.classes c ≡ Some part → (t : Option TimeChoice) → IfSome (option_map (λ (time : TimeChoice). record { time = time.time; room = value_room part v }) t) (λ (y : Spot). IsRoomOf p.travel y.room)
    of_time part v is None = tt
    of_time part v is (Some time) = room_in p c part v valid is (slice_get part.rooms v.room) refl

    of_part : (v : Value) (o : Option ClassPart) → slice_get p.classes c ≡ o → IfSome (option_and_then (λ part. spot_for part v) o) (λ (y : Spot). IsRoomOf p.travel y.room)
    of_part v None is = tt
    of_part v (Some part) is = of_time part v is (slice_get part.times v.time)

    of_value : (o : Option Value) → IfSome (option_and_then (spot_at_value p c) o) (λ (y : Spot). IsRoomOf p.travel y.room)
    of_value None = tt
    of_value (Some v) = of_part v (slice_get p.classes c) refl

-- conflicts go both ways
turned_by : (t : Table) (a b : Option Spot) → IsTravel t → IfSome a (λ y. IsRoomOf t y.room) → IfSome b (λ y. IsRoomOf t y.room) → are_in_conflict t a b ≡ are_in_conflict t b a
turned_by t None b sound first second = sym (in_conflict-none t b)
turned_by t (Some x) b sound first second = in_conflict-sym t x b sound first second

conflict_turned : (p : Parts) (plan : List (Option Value)) → IsValid p → (a b : ℕ) → in_conflict p.travel (spots_of p plan) a b ≡ in_conflict p.travel (spots_of p plan) b a
conflict_turned p plan valid a b = turned_by p.travel (spot_at (spots_of p plan) a) (spot_at (spots_of p plan) b) valid.travel (rooms_are p plan valid a) (rooms_are p plan valid b)

-- the order of a list does not tell
count_ordered : (g : ℕ → Bool) (list : List ℕ) → count_by g (classes_in_order list) ≡ count_by g list
count_ordered g [] = refl
count_ordered g (c ∷ list) = omega (arith, count-with g c (classes_in_order list), count_ordered g list, sum_by-cons (λ (d : ℕ). cond (g d) 1 0) c list)

pairs_ordered : (f : ℕ → ℕ → Bool) → ((a b : ℕ) → f a b ≡ f b a) → (list : List ℕ) → pairs_among f (classes_in_order list) ≡ pairs_among f list
pairs_ordered f turned [] = refl
pairs_ordered f turned (c ∷ list) = omega (arith, pairs-with f turned c (classes_in_order list), count_ordered (f c) list, pairs_ordered f turned list)

-- the pairs of the list, once a choice stands in the place of the own classes
pairs_replaced : (f : ℕ → ℕ → Bool) (turned : (a b : ℕ) → f a b ≡ f b a) (test : ℕ → Bool) (list choice : List ℕ)
    → pairs_among f (classes_in_order (filter (λ d. not (test d)) list ++ choice)) + (sum_by (λ c. count_by (f c) (filter (λ d. not (test d)) list)) (filter test list) + pairs_among f (filter test list))
    ≡ pairs_among f list + (sum_by (λ c. count_by (f c) (filter (λ d. not (test d)) list)) choice + pairs_among f choice)
pairs_replaced f turned test list choice =
    omega (arith, pairs_ordered f turned (filter (λ d. not (test d)) list ++ choice), pairs-joined f turned (filter (λ d. not (test d)) list) choice, pairs-parted f turned test list)

-- where a choice adds fewer pairs than the own classes, the list has fewer
fewer_in : (f : ℕ → ℕ → Bool) (turned : (a b : ℕ) → f a b ≡ f b a) (test : ℕ → Bool) (list choice : List ℕ)
    → sum_by (λ c. count_by (f c) (filter (λ d. not (test d)) list)) choice + pairs_among f choice < sum_by (λ c. count_by (f c) (filter (λ d. not (test d)) list)) (filter test list) + pairs_among f (filter test list)
    → pairs_among f (classes_in_order (filter (λ d. not (test d)) list ++ choice)) < pairs_among f list
fewer_in f turned test list choice less = omega (arith, less, pairs_replaced f turned test list choice)

-- an equation, with a weight
pub weighed : (w x y a b : ℕ) → x + a ≡ y + b → w * x + w * a ≡ w * y + w * b
weighed w x y a b e = omega (arith, ap (λ (n : ℕ). w * n) e)

no_student : StudentPart
no_student = record { id = 0; courses = [] }

ascends_below : (from after : ℕ) (list : List ℕ) → Ascends from after list → AllByRecursion (λ c. c < after) list
ascends_below from after [] up = tt
ascends_below from after (c ∷ list) up = (up.1, ascends_below (c + 1) after list up.2)

-- the classes of a student are of the problem, and few
pub list_below_at : (p : Parts) (s : Snapshot) (student : ℕ) (xs : List ℕ) → IsSound p s → student < length p.students → xs ≡ list_in s student → AllByRecursion (λ c. c < length p.classes) xs
list_below_at p s student xs sound within is =
    rw is (ascends_below 0 (length p.classes) (list_in s student) (sound.lists.ordered student [] (omega (arith, within, sound.lists.whole))))

few_kept : (f : ℕ → Bool) (xs : List ℕ) → length (filter f xs) ≤ length xs
few_kept f [] = omega arith
few_kept f (x ∷ xs) = by (f x) (few_kept f xs)
  where
    by : (b : Bool) → length (filter f xs) ≤ length xs → length (cond b (x ∷ filter f xs) (filter f xs)) ≤ suc (length xs)
    by true few = omega arith
    by false few = omega arith

pub few_in : (p : Parts) (s : Snapshot) (student : ℕ) (f : ℕ → Bool) (xs : List ℕ) → IsValid p → IsSound p s → student < length p.students → xs ≡ filter f (list_in s student) → length xs ≤ 20000
few_in p s student f xs valid sound within is =
    let few = few_ascending (length p.classes) (list_in s student) (sound.lists.ordered student [] (omega (arith, within, sound.lists.whole))) in
    omega (arith, few, few_kept f (list_in s student), valid.few_classes, ap length is)

of_listed : (P : ℕ → Type 0) (k : ℕ) (xs : List ℕ) → AllByRecursion P xs → is_listed k xs ≡ true → P k
of_listed P k [] all e = absurd (cc e)
of_listed P k (x ∷ xs) all e = by (nat_eq k x) refl e (of_listed P k xs all.1)
  where
    by : (b : Bool) → nat_eq k x ≡ b → (b || is_listed k xs) ≡ true → (is_listed k xs ≡ true → P k) → P k
    by true same f rest = let equal : k ≡ x = eqb-true k x same in rw equal all.0
    by false other f rest = rest f

listed_in : (f : ℕ → Bool) (k : ℕ) (xs : List ℕ) → list_all f xs ≡ true → is_listed k xs ≡ true → f k ≡ true
listed_in f k [] all e = absurd (cc e)
listed_in f k (x ∷ xs) all e = let parts = and_parts (f x) (list_all f xs) all in by (nat_eq k x) refl e parts.0 (listed_in f k xs parts.1)
  where
    by : (b : Bool) → nat_eq k x ≡ b → (b || is_listed k xs) ≡ true → f x ≡ true → (is_listed k xs ≡ true → f k ≡ true) → f k ≡ true
    by true same e here rest = let equal : k ≡ x = eqb-true k x same in rw equal here
    by false other e here rest = rest e

all_listed : (f : ℕ → Bool) (xs : List ℕ) → ((c : ℕ) → is_listed c xs ≡ true → f c ≡ true) → list_all f xs ≡ true
all_listed f [] h = refl
all_listed f (x ∷ xs) h = rw (h x (own x (is_listed x xs)), all_listed f xs (λ c e. h c (later (nat_eq c x) (is_listed c xs) e))) refl
  where
    own : (x : ℕ) (b : Bool) → (nat_eq x x || b) ≡ true
    own x b = rw (eq-eqb x x refl) refl

    later : (a b : Bool) → b ≡ true → (a || b) ≡ true
    later true b e = refl
    later false b e = e

may_some : (p : Parts) (student : ℕ) (list : List ℕ) → 0 < length list → may_have p student list ≡ true → is_enrolment p student list ≡ true
may_some p student [] some e = absurd (omega arith)
may_some p student (c ∷ list) some e = e

filter_same : {A : Type 0} (f g : A → Bool) (xs : List A) → AllByRecursion (λ x. f x ≡ g x) xs → filter f xs ≡ filter g xs
filter_same f g [] h = refl
filter_same f g (x ∷ xs) h = rw (h.0, filter_same f g xs h.1) refl

-- a student has a seat in each class that he has
seat_kept : (p : Parts) (lists : List (List ℕ)) (student class : ℕ) → student < length lists → IfSome (limit_of p class) (λ limit. count_with lists class ≤ limit) → is_listed class (list_of lists student) ≡ true → has_seat p lists student class ≡ true
unfolding has_seat
seat_kept p lists student class within limits listed = by (limit_of p class) limits
  where
    fewer : (n limit : ℕ) → n < limit → nat_lt n limit ≡ true
    fewer n limit lt = grind (arith, nat_tests)

    by : (o : Option ℕ) → IfSome o (λ limit. count_with lists class ≤ limit) → option_map_or (nat_lt (others_with lists student class)) o true ≡ true
    by None h = refl
    by (Some limit) h =
        let has : List ℕ → ℕ = λ list. cond (is_listed class list) 1 0 in
        let less = sum_by-set has lists student [] [] within in
        let mine : has (list_of lists student) ≡ 1 = ap {B = ℕ} (λ (b : Bool). cond b 1 0) listed in
        fewer (others_with lists student class) limit (omega (arith, less, mine, h))

module _ (p : Parts) (s : Snapshot) (student course : ℕ) (valid : IsValid p) (sound : IsSound p s) (target : IsSeatedIn p s student course) where
  abbrev list : List ℕ
  list = list_in s student

  abbrev rest : List ℕ
  rest = rest_of p course (list_in s student)

  abbrev own : List ℕ
  own = own_of p course (list_in s student)

  abbrev sit : Situation
  sit = beside p s student (rest_of p course (list_in s student))

  part : StudentPart
  part = get_or p.students student no_student

  part_is : slice_get p.students student ≡ Some (get_or p.students student no_student)
  part_is = slice_get-get_or p.students student no_student target.within

  courses_below : AllByRecursion (λ k. k < length p.courses) (get_or p.students student no_student).courses
  courses_below = recursion_from_All (λ k. k < length p.courses) (get_or p.students student no_student).courses (valid.students student no_student target.within).courses

  mine : is_listed course (get_or p.students student no_student).courses ≡ true
  mine = rw part_is at target.listed

  pub within_courses : course < length p.courses
  within_courses = of_listed (λ k. k < length p.courses) course (get_or p.students student no_student).courses courses_below mine

  within_lists : student < length s.lists
  within_lists = omega (arith, target.within, sound.lists.whole)

  list_below : AllByRecursion (λ c. c < length p.classes) (list_in s student)
  list_below = ascends_below 0 (length p.classes) (list_in s student) (sound.lists.ordered student [] within_lists)

  enrolled : IsEnrolled p (get_or p.students student no_student) (list_in s student)
  enrolled =
      let is = may_some p student (list_in s student) target.some (sound.lists.enrolled student) in
      enrolled_is p (get_or p.students student no_student) (list_in s student) (rw part_is at is)

  -- a choice may replace the own classes exactly where it is allowed beside the rest
  may_same : (choice : List ℕ) → IsChoice p course choice → may_replace p s student rest choice ≡ is_allowed sit choice
  may_same choice is =
      ap (λ (o : Option StudentPart). option_map_or (λ x. is_enrolment_of p x (rest_of p course (list_in s student) ++ choice)) o false && list_all (has_seat p s.lists student) choice) part_is
      ∙ may_is p valid (get_or p.students student no_student) course within_courses courses_below mine (list_in s student) list_below enrolled choice is sit refl refl refl

  pub replacement_is : least_replacement p s student course rest ≡ least_choice sit (choices_at p course)
  unfolding least_replacement
  replacement_is =
      ap (first_least (choice_numbers sit)) (filter_same (may_replace p s student rest) (is_allowed sit) (choices_at p course)
      (all-weaken (IsChoice p course) (λ choice. may_replace p s student rest choice ≡ is_allowed sit choice) may_same (choices_at p course) (are_choices p course valid within_courses)))

  pub chosen_is : (choice : List ℕ) → least_choice sit (choices_at p course) ≡ Some choice → IsAllowed (IsChoice p course) sit choice
  chosen_is choice is = rw is at (least_is (IsChoice p course) sit (choices_at p course) (are_choices p course valid within_courses))

  -- the student has a seat in each class of the list
  has_seats : list_all (has_seat p s.lists student) (list_in s student) ≡ true
  has_seats = all_listed (has_seat p s.lists student) (list_in s student) (λ c e. seat_kept p s.lists student c within_lists (sound.lists.limits c) e)

  -- and so in each of the rest
  pub rest_seats : list_all (has_seat p s.lists student) (rest_of p course (list_in s student)) ≡ true
  rest_seats = all_kept (λ (c : ℕ). not (is_of_course p course c)) (has_seat p s.lists student) (list_in s student) has_seats

  -- the classes of the rest are of the problem
  pub rest_below : AllByRecursion (λ c. c < length p.classes) (rest_of p course (list_in s student))
  rest_below = below_kept (λ (c : ℕ). not (is_of_course p course c)) (length p.classes) (list_in s student) list_below

  -- a valid enrolment of the student has a class
  pub enrolled_some : (xs : List ℕ) → is_enrolment p student xs ≡ true → 0 < length xs
  enrolled_some [] is =
      let none = enrolled_is p (get_or p.students student no_student) [] (rw part_is at is) in
      let course_taken = listed_in (takes p []) course (get_or p.students student no_student).courses none.takes mine in
      choice_some p course [] valid (record { below = tt; takes = sym (takes_at p [] course within_courses) ∙ course_taken; once = refl; of = tt })
  enrolled_some (c ∷ xs) is = omega arith

  -- the total, once a choice stands in the place of the own classes: the pairs that it adds, in place of those that they add
  pub replaced_total : (choice : List ℕ) → total_of p (with_list s student (classes_in_order (rest_of p course (list_in s student) ++ choice))) + p.weights.student * pairs_added sit own ≡ total_of p s + p.weights.student * pairs_added sit choice
  replaced_total choice =
      let spots = spots_of p s.plan in
      let new = classes_in_order (rest ++ choice) in
      let pairs = pairs_replaced (in_conflict p.travel spots) (conflict_turned p s.plan valid) (is_of_course p course) (list_in s student) choice in
      let change = sum_by-set (conflicts_in p.travel spots) s.lists student new [] within_lists in
      let all : student_conflicts p.travel spots (slice_set s.lists student new) + pairs_added sit own ≡ student_conflicts p.travel spots s.lists + pairs_added sit choice = omega (arith, change, pairs) in
      omega (arith, weighed p.weights.student (student_conflicts p.travel spots (slice_set s.lists student new)) (student_conflicts p.travel spots s.lists) (pairs_added sit own) (pairs_added sit choice) all)

  -- and the targets stay
  pub replaced_courses : (choice : List ℕ) → is_enrolment p student (rest_of p course (list_in s student) ++ choice) ≡ true
      → seated_courses p (with_list s student (classes_in_order (rest_of p course (list_in s student) ++ choice))) ≡ seated_courses p s
  replaced_courses choice is =
      let some = enrolled_some (rest ++ choice) is in
      changed-student_courses p s student (classes_in_order (rest ++ choice)) within_lists target.some (omega (arith, some, length-ordered (rest ++ choice)))

  -- the student may get the rest with the choice
  pub may_get : (choice : List ℕ) → IsAllowed (IsChoice p course) sit choice → MayGet p s.lists student (rest_of p course (list_in s student) ++ choice)
  may_get choice one =
      let may : may_replace p s student rest choice ≡ true = may_same choice one.is ∙ one.allowed in
      let parts = and_parts (is_enrolment p student (rest ++ choice)) (list_all (has_seat p s.lists student) choice) may in
      record {
        below = All-from_recursion (λ c. c < length p.classes) (rest ++ choice) (all-append (λ c. c < length p.classes) rest choice rest_below one.is.below);
        enrolment = parts.0;
        seats = all_seats p s.lists student (rest ++ choice) (list_all-append (has_seat p s.lists student) rest choice ∙ both (list_all (has_seat p s.lists student) rest) (list_all (has_seat p s.lists student) choice) rest_seats parts.1);
      }
    where
      both : (x y : Bool) → x ≡ true → y ≡ true → (x && y) ≡ true
      both x y h k = rw (h, k) refl

  -- and the snapshot is then no worse, where the choice adds fewer pairs
  pub fewer_no_worse : (choice : List ℕ) → IsAllowed (IsChoice p course) sit choice → pairs_added sit choice < pairs_added sit own → IsNoWorse p s (with_list s student (classes_in_order (rest_of p course (list_in s student) ++ choice)))
  fewer_no_worse choice one less =
      let spots = spots_of p s.plan in
      let new = classes_in_order (rest ++ choice) in
      let some : 0 < length choice = choice_some p course choice valid one.is in
      let long : 0 < length new = omega (arith, length-ordered (rest ++ choice), length-append rest choice) in
      let fewer : conflicts_in p.travel spots new < conflicts_in p.travel spots (list_in s student) =
      fewer_in (in_conflict p.travel spots) (conflict_turned p s.plan valid) (is_of_course p course) (list_in s student) choice less in
      let change = sum_by-set (conflicts_in p.travel spots) s.lists student new [] within_lists in
      let falls : student_conflicts p.travel spots (slice_set s.lists student new) ≤ student_conflicts p.travel spots s.lists = omega (arith, change, fewer) in
      let weighs = mul-le-mul_left p.weights.student falls in
      record {
        total = omega (arith, weighs);
        hard = omega arith;
        statistics = refl;
        closures = refl;
        targets = changed-student_targets p s student new within_lists target.some long;
        locked = λ class is. (refl, is);
      }

-- what a round on a course comes to
pub none_fewer : (p : Parts) (s : Snapshot) (student course : ℕ) (rest own : List ℕ) → pairs_added (beside p s student rest) own ≡ 0 → replaced_by p s student course rest own ≡ None
none_fewer p s student course rest own none = by (least_replacement p s student course rest)
  where
    never : (n m : ℕ) → m ≡ 0 → nat_lt n m ≡ false
    never n m e = grind (arith, nat_tests)

    by : (o : Option (List ℕ)) → option_and_then (at_fewer p s student rest own) o ≡ None
    by None = refl
    by (Some choice) = rw (never (pairs_added (beside p s student rest) choice) (pairs_added (beside p s student rest) own) none) refl

pub no_replacement : (p : Parts) (s : Snapshot) (student course : ℕ) (rest own : List ℕ) → least_replacement p s student course rest ≡ None → replaced_by p s student course rest own ≡ None
no_replacement p s student course rest own none = rw none refl

pub replacement : (p : Parts) (s : Snapshot) (student course : ℕ) (rest own choice : List ℕ) (b : Bool) → least_replacement p s student course rest ≡ Some choice
    → nat_lt (pairs_added (beside p s student rest) choice) (pairs_added (beside p s student rest) own) ≡ b → replaced_by p s student course rest own ≡ cond b (Some (with_list s student (classes_in_order (rest ++ choice)))) None
replacement p s student course rest own choice b is fewer = rw (is, fewer) refl

-- the choice that is found at the front of a buffer, and what it leads to
pub found_less : (p : Parts) (s : Snapshot) (student course : ℕ) (rest own best : List ℕ) (size : ℕ) → least_replacement p s student course rest ≡ Some (take size best)
    → pairs_added (beside p s student rest) (take size best) < pairs_added (beside p s student rest) own → replaced_by p s student course rest own ≡ Some (with_list s student (classes_in_order (rest ++ take size best)))
found_less p s student course rest own best size is less =
    let fewer : nat_lt (pairs_added (beside p s student rest) (take size best)) (pairs_added (beside p s student rest) own) ≡ true = grind (arith, nat_tests) in
    replacement p s student course rest own (take size best) true is fewer

pub found_more : (p : Parts) (s : Snapshot) (student course : ℕ) (rest own best : List ℕ) (size : ℕ) → least_replacement p s student course rest ≡ Some (take size best)
    → pairs_added (beside p s student rest) own ≤ pairs_added (beside p s student rest) (take size best) → replaced_by p s student course rest own ≡ None
found_more p s student course rest own best size is more =
    let fewer : nat_lt (pairs_added (beside p s student rest) (take size best)) (pairs_added (beside p s student rest) own) ≡ false = grind (arith, nat_tests) in
    replacement p s student course rest own (take size best) false is fewer

-- the same facts, where the rest of the list and the own classes are named
module _ (p : Parts) (s : Snapshot) (student course : ℕ) (valid : IsValid p) (sound : IsSound p s) (target : IsSeatedIn p s student course) (rest own : List ℕ) (r : rest ≡ rest_of p course (list_in s student)) (o : own ≡ own_of p course (list_in s student)) where
  pub replaces : (found : Option (List ℕ)) → least_choice (beside p s student rest) (choices_at p course) ≡ found → least_replacement p s student course rest ≡ found
  replaces found at =
      subst (λ (l : List ℕ). least_replacement p s student course l ≡ least_choice (beside p s student l) (choices_at p course)) (sym r) (replacement_is p s student course valid sound target) ∙ at

  pub may_get_at : (choice : List ℕ) → least_choice (beside p s student rest) (choices_at p course) ≡ Some choice → MayGet p s.lists student (rest ++ choice)
  may_get_at choice at =
      subst (λ (l : List ℕ). least_choice (beside p s student l) (choices_at p course) ≡ Some choice → MayGet p s.lists student (l ++ choice)) (sym r)
      (λ here. may_get p s student course valid sound target choice (chosen_is p s student course valid sound target choice here)) at

  pub no_worse_at : (choice : List ℕ) → least_choice (beside p s student rest) (choices_at p course) ≡ Some choice → pairs_added (beside p s student rest) choice < pairs_added (beside p s student rest) own
      → IsNoWorse p s (with_list s student (classes_in_order (rest ++ choice)))
  no_worse_at choice at less =
      let mine : pairs_added (beside p s student rest) choice < pairs_added (beside p s student rest) (own_of p course (list_in s student)) = subst (λ (l : List ℕ). pairs_added (beside p s student rest) choice < pairs_added (beside p s student rest) l) o less in
      subst (λ (l : List ℕ). least_choice (beside p s student l) (choices_at p course) ≡ Some choice → pairs_added (beside p s student l) choice < pairs_added (beside p s student l) (own_of p course (list_in s student))
      → IsNoWorse p s (with_list s student (classes_in_order (l ++ choice)))) (sym r)
      (λ here fewer. fewer_no_worse p s student course valid sound target choice (chosen_is p s student course valid sound target choice here) fewer) at mine

-- a round on a course, where the rest and the own classes are named
pub changed_of : (p : Parts) (s : Snapshot) (student course : ℕ) (others had : List ℕ) (found : Option Snapshot) → others ≡ rest_of p course (list_in s student) → had ≡ own_of p course (list_in s student) → replaced_by p s student course others had ≡ found
    → changed_student p s student course ≡ found
unfolding changed_student
changed_of p s student course others had found r o e =
    ap (λ (l : List ℕ). replaced_by p s student course l (own_of p course (list_in s student))) (sym r) ∙ ap (replaced_by p s student course others) (sym o) ∙ e
