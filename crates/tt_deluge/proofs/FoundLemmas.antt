-- What a round finds, by what its words draw_next.
use Rattle.std.proofs.Common.{◌≡◌, ℕ, ◌%◌, ◌<◌, Bool, true, false, cond, List, [], ◌∷◌, ◌++◌, Option, Some, None, length, map, refl, sym, ap, ◌∙◌, arith}
use Rattle.std.specs.Prelude.{◌&&◌, ◌||◌, ◌==◌, not, is_some, slice_get, if◌then◌else◌, option_map}
use Rattle.std.specs.List.{AllByRecursion, filter}
use Rattle.std.proofs.lemmas.Option.{slice_get-map}
use Rattle.rand_core.specs.Stream.{Stream, next_u32}
use Rattle.tt_problem.specs.declared.parts.Parts.{Parts}
use Rattle.tt_plan.specs.Domain.{domain_of}
use Rattle.tt_plan.proofs.DomainLaws.{IsOfDomain_iff}
use Rattle.tt_score.specs.Plans.{IsPlanOf}
use Rattle.tt_bits.specs.declared.times.Value.{Value}
use Rattle.tt_state.specs.Snapshots.{Snapshot, value_in}
use Rattle.tt_improve.specs.Targets.{movable_classes, seated_courses}
use Rattle.tt_improve.specs.Standing.{IsMovable, IsTargetOf, IsSeatedIn}
use Rattle.tt_improve.specs.declared.targets.Target.{Target}
use Rattle.tt_improve.specs.declared.targets.Target.TheVariants.{Class, Course}
use Rattle.tt_improve.proofs.TargetLemmas.{at_place, targets_are}
use Rattle.tt_deluge.specs.ClassRounds.{class_change, class_round}
use Rattle.tt_deluge.specs.Deluged.{found_by}
use Rattle.tt_deluge.specs.Draws.{by_draw, draw_next}
use Rattle.tt_deluge.specs.StudentRounds.{choice_drawn, choices_in, is_choice}
use Rattle.tt_deluge.specs.Pieces.{student_round, class_drawn, Targets, are_none, found_of_kind, has_no_item, is_on_class, by_item, targets_at}
use Rattle.tt_deluge.proofs.ChangeLemmas.{movable-parts}

front-all : {A : Type 0} (P : A → Type 0) (xs ys : List A) → AllByRecursion P (xs ++ ys) → AllByRecursion P xs × AllByRecursion P ys
front-all P [] ys all = (tt, all)
front-all P (x ∷ xs) ys all = let rest = front-all P xs ys all.1 in ((all.0, rest.0), rest.1)

filter-all : {A : Type 0} (P : A → Type 0) (f : A → Bool) (xs : List A) → AllByRecursion P xs → AllByRecursion P (filter f xs)
filter-all P f [] all = tt
filter-all {A = A} P f (x ∷ xs) all = by (f x) (filter-all P f xs all.1)
  where
    by : (b : Bool) → AllByRecursion P (filter f xs) → AllByRecursion P (cond b (x ∷ filter f xs) (filter f xs))
    by true rest = (all.0, rest)
    by false rest = rest

-- a class that is drawn is one of the snapshot
pub drawn-movable : (p : Parts) (s : Snapshot) (classes : List ℕ) (at class : ℕ) → classes ≡ movable_classes p s → slice_get classes at ≡ Some class → IsMovable p s class
drawn-movable p s classes at class same is =
    let all = (front-all (IsTargetOf p s) (map (λ class. Class class) (movable_classes p s)) (seated_courses p s) (targets_are p s)).0 in
    let there : slice_get (map (λ class. Class class) (movable_classes p s)) at ≡ Some (Class class) =
    slice_get-map (λ class. Class class) (movable_classes p s) at ∙ ap (λ (xs : List ℕ). option_map (λ class. Class class) (slice_get xs at)) (sym same) ∙ ap (option_map (λ class. Class class)) is in
    at_place (IsTargetOf p s) (map (λ class. Class class) (movable_classes p s)) at (Class class) all there

-- and so is a course of a student
pub drawn-seated : (p : Parts) (s : Snapshot) (choices : List Target) (at student course : ℕ) → choices ≡ choices_in p s → slice_get choices at ≡ Some (Course student course) → IsSeatedIn p s student course
unfolding choices_in
drawn-seated p s choices at student course same is =
    let seated = (front-all (IsTargetOf p s) (map (λ class. Class class) (movable_classes p s)) (seated_courses p s) (targets_are p s)).1 in
    let all = filter-all (IsTargetOf p s) (is_choice p) (seated_courses p s) seated in
    at_place (IsTargetOf p s) (filter (is_choice p) (seated_courses p s)) at (Course student course) all (ap (λ (xs : List Target). slice_get xs at) (sym same) ∙ is)

-- a placed class has a value
some_place : (xs : List Value) (v : Value) → (k : ℕ) → k < length xs → 0 < length xs
some_place xs v k lt = omega arith

pub domain-some : (p : Parts) (s : Snapshot) (class : ℕ) → IsPlanOf p s.plan → IsMovable p s class → 0 < length (domain_of p class)
domain-some p s class plan target = by (value_in s class) refl (movable-parts s class target.free).0
  where
    by : (o : Option Value) → value_in s class ≡ o → is_some o ≡ true → 0 < length (domain_of p class)
    by None is placed = absurd (cc placed)
    by (Some v) is placed =
        let has = (IsOfDomain_iff p class v).0 (plan.domain class v is) in
        omega (arith, has.1)

-- a round on a class, by what two words draw_next
pub class-round-is : (p : Parts) (classes : List ℕ) (s : Snapshot) (kind : ℕ) (random one two : Stream) (at class place : ℕ) → classes ≡ movable_classes p s → (at, one) ≡ draw_next (length classes) random → slice_get classes at ≡ Some class → (place, two) ≡ draw_next (length (domain_of p class)) one
    → class_round p s kind random ≡ (class_change p s kind class place, two)
unfolding class_round
class-round-is p classes s kind random one two at class place are first is second =
    let at_is : at ≡ (draw_next (length classes) random).0 = ap (λ d. d.0) first in
    let one_is : one ≡ (next_u32 random).1 = ap (λ d. d.1) first in
    let there : slice_get classes (draw_next (length classes) random).0 ≡ Some class = ap (slice_get classes) (sym at_is) ∙ is in
    ap (λ (xs : List ℕ). by_draw xs (class_drawn p s kind) random) (sym are)
    ∙ ap (by_item (class_drawn p s kind) random) there
    ∙ ap (class_drawn p s kind class) (sym one_is)
    ∙ ap (λ (d : ℕ × Stream). (class_change p s kind class d.0, d.1)) (sym second)

-- a round on a student
pub student-round-is : (p : Parts) (choices : List Target) (s : Snapshot) (random one : Stream) (at count : ℕ) (target : Target) → choices ≡ choices_in p s → count ≡ length choices → (at, one) ≡ draw_next count random → slice_get choices at ≡ Some target
    → student_round p s random ≡ choice_drawn p s target one
unfolding student_round
student-round-is p choices s random one at count target are long first is =
    let drawn = first ∙ ap (λ (n : ℕ). draw_next n random) long in
    let at_is : at ≡ (draw_next (length choices) random).0 = ap (λ d. d.0) drawn in
    let one_is : one ≡ (next_u32 random).1 = ap (λ d. d.1) drawn in
    let there : slice_get choices (draw_next (length choices) random).0 ≡ Some target = ap (slice_get choices) (sym at_is) ∙ is in
    ap (λ (xs : List Target). by_draw xs (choice_drawn p s) random) (sym are)
    ∙ ap (by_item (choice_drawn p s) random) there ∙ ap (choice_drawn p s target) (sym one_is)

-- a round by its kind
pub found-of : (p : Parts) (s : Snapshot) (random one : Stream) (kind : ℕ) → (kind, one) ≡ draw_next 32 random → found_by p s random ≡ found_of_kind p s kind one
unfolding found_by student_round
found-of p s random one kind drawn = ap (λ (d : ℕ × Stream). found_of_kind p s d.0 d.1) (sym drawn)

pub found-class : (p : Parts) (o : Targets) (s : Snapshot) (random one : Stream) (kind : ℕ) → o ≡ targets_at p s → (kind, one) ≡ draw_next 32 random → is_on_class o kind ≡ true → found_by p s random ≡ class_round p s kind one
found-class p o s random one kind are drawn is =
    found-of p s random one kind drawn
    ∙ ap (λ (b : Bool). if b then class_round p s kind one else student_round p s one) (ap (λ (t : Targets). is_on_class t kind) (sym are) ∙ is)

pub found-student : (p : Parts) (o : Targets) (s : Snapshot) (random one : Stream) (kind : ℕ) → o ≡ targets_at p s → (kind, one) ≡ draw_next 32 random → is_on_class o kind ≡ false → found_by p s random ≡ student_round p s one
found-student p o s random one kind are drawn is =
    found-of p s random one kind drawn
    ∙ ap (λ (b : Bool). if b then class_round p s kind one else student_round p s one) (ap (λ (t : Targets). is_on_class t kind) (sym are) ∙ is)

-- where there is something to change, a round on a class has a class, and one on a student a student
some-items : {A : Type 0} (xs : List A) → has_no_item xs ≡ false → 0 < length xs
some-items [] e = absurd (cc e)
some-items (x ∷ xs) e = omega arith

pub some-class : (o : Targets) (kind : ℕ) → are_none o ≡ false → is_on_class o kind ≡ true → 0 < length o.classes
some-class o kind some is = some-items o.classes (by (has_no_item o.classes) (has_no_item o.choices) (kind % 2 == 1) some is)
  where
    by : (a b k : Bool) → (a && b) ≡ false → (b || (not a && k)) ≡ true → a ≡ false
    by true true k e f = absurd (cc e)
    by true false k e f = absurd (cc f)
    by false b k e f = refl

pub some-choice : (o : Targets) (kind : ℕ) → are_none o ≡ false → is_on_class o kind ≡ false → 0 < length o.choices
some-choice o kind some is = some-items o.choices (by (has_no_item o.classes) (has_no_item o.choices) (kind % 2 == 1) some is)
  where
    by : (a b k : Bool) → (a && b) ≡ false → (b || (not a && k)) ≡ false → b ≡ false
    by a true k e f = absurd (cc f)
    by a false k e f = refl
