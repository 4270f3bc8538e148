-- What is noted of a change, and what is known of the targets after it.
use Rattle.std.proofs.Common.{◌≡◌, ◌≢◌, ℕ, zero, suc, ◌+◌, ◌<◌, ◌≤◌, Bool, true, false, cond, List, [], ◌∷◌, Option, Some, None, length, get_or, refl, sym, ap, ◌∙◌, arith, nat_eq, inl, inr}
use Rattle.std.specs.Prelude.{◌||◌, max, slice_get, slice_index, slice_set}
use Rattle.std.specs.Option.{option_map_or}
use Rattle.std.proofs.lemmas.Bool.{cases_eq, eq-eqb, ne_eqb}
use Rattle.std.proofs.lemmas.List.{get_or-set_same, get_or-set_other}
use Rattle.tt_base.specs.Lists.{is_listed}
use Rattle.tt_pool.proofs.PlaceLemmas.{places-each}
use Rattle.tt_problem.specs.declared.parts.Parts.{Parts}
use Rattle.tt_problem.specs.Places.{course_of}
use Rattle.tt_problem.specs.Valid.{IsValid}
use Rattle.tt_roster.specs.Lists.{students_of}
use Rattle.tt_state.specs.Snapshots.{Snapshot, list_in}
use Rattle.tt_state.specs.Sound.{IsSound}
use Rattle.tt_improve.specs.declared.targets.Target.{Target}
use Rattle.tt_improve.specs.declared.targets.Target.TheVariants.{Class, Course}
use Rattle.tt_improve.specs.declared.targets.Targets.{Targets}
use Rattle.tt_improve.specs.declared.touched.Touched.{Touched}
use Rattle.tt_improve.specs.Courses.{is_of_course}
use Rattle.tt_improve.specs.Idle.{KnowsIdle, stages_in, targets_in}
use Rattle.tt_improve.specs.Rounds.{changed_by}
use Rattle.tt_improve.specs.Targets.{targets_of}
use Rattle.tt_improve.specs.Touched.{IsNoted, have_in_common, last_of, stage_of}
use Rattle.tt_improve.proofs.StaysLemmas.{stays_best}
use Rattle.tt_improve.proofs.TableLemmas.{stages_whole}
use Rattle.tt_improve.proofs.TargetLemmas.{drawn-of}

-- where the later of two stages is early, both are
both_early : (m n stage : ℕ) → max m n < stage → (m < stage) × (n < stage)
both_early m n stage early = (omega (arith, early), omega (arith, early))

-- a stage that isn't the one that was noted is as it was, and stands at another place
set_early : (xs : List ℕ) (i stage k : ℕ) → i < length xs → get_or (slice_set xs i stage) k 0 < stage → (k ≢ i) × (get_or (slice_set xs i stage) k 0 ≡ get_or xs k 0)
set_early xs i stage k within early =
    let apart : k ≢ i = λ same. omega (arith, early, ap (λ (n : ℕ). get_or (slice_set xs i stage) n 0) same, get_or-set_same xs i stage 0 within) in
    (apart, get_or-set_other xs i k stage 0 apart)

each_early : (b : Bool) (now stage had : ℕ) → now ≡ cond b stage had → now < stage → (b ≡ false) × (now ≡ had)
each_early true now stage had is early = absurd (omega (arith, is, early))
each_early false now stage had is early = (refl, is)

-- the number that is read at a place
pub read_is : (xs : List ℕ) (i read : ℕ) → i < length xs → read ≡ get_or xs i read → read ≡ slice_index xs i
read_is [] i read lt is = absurd (omega (arith, lt))
read_is (x ∷ xs) zero read lt is = is
read_is (x ∷ xs) (suc i) read lt is = read_is xs i read (omega (arith, lt)) is

-- a stage is noted at one place more
pub note_one : (table : List ℕ) (i stage : ℕ) (left : List ℕ) (k : ℕ) → i < length table → cond (is_listed k left) stage (slice_index (slice_set table i stage) k) ≡ cond (is_listed k (i ∷ left)) stage (slice_index table k)
note_one table i stage left k within =
    elim (cases_eq k i) [
      | inl same ↦ rw (same, eq-eqb i i refl, get_or-set_same table i stage 0 within) (cond_both (is_listed i left) stage)
      | inr apart ↦ rw (ne_eqb k i apart, get_or-set_other table i k stage 0 apart) refl
    ]
  where
    cond_both : (b : Bool) (n : ℕ) → cond b n n ≡ n
    cond_both true n = refl
    cond_both false n = refl

-- what is known of a target that a change left out
record IsLeft (p : Parts) (s : Snapshot) (old new : Touched) (target other : Target) : Type 0 where
  apart : have_in_common p s target other ≡ false
  same : last_of p new other ≡ last_of p old other

all_left : (p : Parts) (s : Snapshot) (old new : Touched) (target : Target) (stage : ℕ) → ((other : Target) → last_of p new other < stage → IsLeft p s old new target other) → IsNoted p s old new target stage
all_left p s old new target stage left = record { apart = λ other early. (left other early).apart; same = λ other early. (left other early).same }

neither : (a b : Bool) → a ≡ false → b ≡ false → (a || b) ≡ false
neither a b h k = rw (h, k) refl

-- a class got another value
pub class_noted : (p : Parts) (s : Snapshot) (old new : Touched) (c course stage : ℕ) → course_of p c ≡ Some course → course < length old.courses.items → new.any_class ≡ stage → new.courses.items ≡ slice_set old.courses.items course stage
    → ((student : ℕ) → slice_index new.students.items student ≡ cond (is_listed student (students_of s.lists c)) stage (slice_index old.students.items student)) → IsNoted p s old new (Class c) stage
class_noted p s old new c course stage is within any_class courses students = all_left p s old new (Class c) stage left
  where
    left : (other : Target) → last_of p new other < stage → IsLeft p s old new (Class c) other
    left (Class d) early = absurd (omega (arith, (both_early _ _ stage early).0, any_class))
    left (Course student k) early =
        let parts = both_early (slice_index new.students.items student) (stage_of new k) stage early in
        let one = each_early (is_listed student (students_of s.lists c)) (slice_index new.students.items student) stage (slice_index old.students.items student) (students student) parts.0 in
        let two = set_early old.courses.items course stage k within (rw courses at parts.1) in
        let other : is_of_course p k c ≡ false = ap (λ (o : Option ℕ). option_map_or (nat_eq k) o false) is ∙ ne_eqb k course two.0 in
        let unlisted : is_listed c (list_in s student) ≡ false = sym (places-each (is_listed c) [] student s.lists refl) ∙ one.0 in
        let at : stage_of new k ≡ stage_of old k = ap (λ (xs : List ℕ). get_or xs k 0) courses ∙ two.1 in
        record { apart = neither (is_listed c (list_in s student)) (is_of_course p k c) unlisted other; same = rw (one.1, at) refl }

-- a student got other classes of a course
pub student_noted : (p : Parts) (s : Snapshot) (old new : Touched) (student course stage : ℕ) → student < length old.students.items → course < length old.courses.items → new.any_class ≡ old.any_class
    → new.students.items ≡ slice_set old.students.items student stage → new.courses.items ≡ slice_set old.courses.items course stage
    → ((class : ℕ) → slice_index new.classes.items class ≡ cond (is_listed class (list_in s student)) stage (slice_index old.classes.items class)) → IsNoted p s old new (Course student course) stage
student_noted p s old new student course stage within inside any_class students courses classes = all_left p s old new (Course student course) stage left
  where
    course_left : (c : ℕ) (o : Option ℕ) → course_of p c ≡ o → option_map_or (stage_of new) o 0 < stage → (is_of_course p course c ≡ false) × (option_map_or (stage_of new) o 0 ≡ option_map_or (stage_of old) o 0)
    course_left c None is early = (ap (λ (o : Option ℕ). option_map_or (nat_eq course) o false) is, refl)
    course_left c (Some k) is early =
        let two = set_early old.courses.items course stage k inside (rw courses at early) in
        (ap (λ (o : Option ℕ). option_map_or (nat_eq course) o false) is ∙ ne_eqb course k (λ same. two.0 (sym same)), ap (λ (xs : List ℕ). get_or xs k 0) courses ∙ two.1)

    left : (other : Target) → last_of p new other < stage → IsLeft p s old new (Course student course) other
    left (Class c) early =
        let all = both_early new.any_class (max (slice_index new.classes.items c) (option_map_or (stage_of new) (course_of p c) 0)) stage early in
        let parts = both_early (slice_index new.classes.items c) (option_map_or (stage_of new) (course_of p c) 0) stage all.1 in
        let one = each_early (is_listed c (list_in s student)) (slice_index new.classes.items c) stage (slice_index old.classes.items c) (classes c) parts.0 in
        let two = course_left c (course_of p c) refl parts.1 in
        record { apart = neither (is_listed c (list_in s student)) (is_of_course p course c) one.0 two.0; same = rw (any_class, one.1, two.1) refl }
    left (Course other k) early =
        let parts = both_early (slice_index new.students.items other) (stage_of new k) stage early in
        let one = set_early old.students.items student stage other within (rw students at parts.0) in
        let two = set_early old.courses.items course stage k inside (rw courses at parts.1) in
        record {
          apart = neither (nat_eq student other) (nat_eq course k) (ne_eqb student other (λ same. one.0 (sym same))) (ne_eqb course k (λ same. two.0 (sym same)));
          same = rw (students, courses, one.1, two.1) refl;
        }

-- a target has something in common with itself
own_common : (p : Parts) (s : Snapshot) (target : Target) → have_in_common p s target target ≡ true
own_common p s (Class c) = refl
own_common p s (Course student course) = rw (eq-eqb student student refl) refl

module _ (p : Parts) (s t : Snapshot) (targets after : Targets) (old : Touched) (place stage : ℕ) (target : Target) (inside : place < length (targets_in targets)) (is : slice_get (targets_in targets) place ≡ Some target)
    (same : targets_in after ≡ targets_in targets) (stages : stages_in after ≡ slice_set (stages_in targets) place stage) (known : KnowsIdle p s targets old stage) where
  within : place < length (stages_in targets)
  within = omega (arith, inside, stages_whole targets)

  stage_here : slice_index (stages_in after) place ≡ stage
  stage_here = ap (λ (xs : List ℕ). get_or xs place 0) stages ∙ get_or-set_same (stages_in targets) place stage 0 within

  stage_there : (k : ℕ) → k ≢ place → slice_index (stages_in after) k ≡ slice_index (stages_in targets) k
  stage_there k apart = ap (λ (xs : List ℕ). get_or xs k 0) stages ∙ get_or-set_other (stages_in targets) place k stage 0 apart

  no_later : (k : ℕ) → slice_index (stages_in after) k ≤ stage
  no_later k =
      elim (cases_eq k place) [
        | inl here ↦ rw here (omega (arith, stage_here))
        | inr there ↦ omega (arith, stage_there k there, known.no_later k)
      ]

  target_here : (other : Target) → slice_get (targets_in targets) place ≡ Some other → other ≡ target
  target_here other at = let found : Some other ≡ Some target = sym at ∙ is in cc found

  -- a round that changed something
  pub idle_changed : (new : Touched) → IsValid p → IsSound p s → targets_in targets ≡ targets_of p s → IsNoted p t old new target stage → changed_by p s target ≡ Some t → KnowsIdle p t after new (stage + 1)
  idle_changed new valid sound all noted changes = record {
    no_later = λ k. omega (arith, no_later k);
    idle = λ k other at early. elim (cases_eq k place) [
      | inl here ↦
          let apart = noted.apart other (omega (arith, early, no_later k)) in
          let mine : have_in_common p t target target ≡ false = rw (target_here other (rw (same, here) at at)) at apart in
          absurd (let no : true ≡ false = sym (own_common p t target) ∙ mine in cc no)
      | inr there ↦
          let first : last_of p new other < stage = omega (arith, early, no_later k) in
          let there_is : slice_get (targets_in targets) k ≡ Some other = rw same at at in
          let before = known.idle k other there_is (omega (arith, early, stage_there k there, noted.same other first)) in
          stays_best p s t target other valid sound (drawn-of p s (targets_in targets) place target (sym all) is) (drawn-of p s (targets_in targets) k other (sym all) there_is) changes (noted.apart other first) before
    ];
  }
