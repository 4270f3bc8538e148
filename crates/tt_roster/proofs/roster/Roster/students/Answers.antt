use Rattle.std.proofs.Common.{◌≡◌, ◌∙◌, ℕ, List, [], ◌∷◌, Ok, inl, inr, length, map, ap, sym, refl, arith}
use Rattle.std.specs.List.Sorted.{IsPermutation}
use Rattle.std.proofs.lemmas.Bool.{cases_lt}
use Rattle.std.proofs.lemmas.Iterator.{items_from_collect}
use Rattle.std.proofs.lemmas.Iterator.Consumers.{YieldsList-from_first}
use Rattle.std.proofs.lemmas.List.{get_or_past}
use Rattle.std.proofs.lemmas.List.Sorted.{IsNonDecreasingBy-from_sort}
use Rattle.tt_pool.specs.Pools.{list_at}
use Rattle.tt_pool.proofs.PlaceLemmas.{length-places}
use Rattle.tt_base.specs.Lists.{is_listed}
use Rattle.tt_roster.specs.Lists.{students_of}
use Rattle.tt_roster.specs.Seen.{classes_in}
use Rattle.tt_roster.proofs.StudentLemmas.{length-students, students-in_order}
use Rattle.tt_roster.proofs.roster.Roster.students.Goals as goal

pub returns-then-count-eq0-clause-students : goal.returns-then-count-eq0-clause-students
returns-then-count-eq0-clause-students c =
    let none : length (students_of c.args.self.now.seats c.args.class) ≡ 0 = length-places (is_listed c.args.class) 0 c.args.self.now.seats ∙ sym c.count.ensures ∙ c.if-count-eq0.true in
    c.new.ensures.items ∙ empty (students_of c.args.self.now.seats c.args.class) none
  where
    empty : (xs : List ℕ) → length xs ≡ 0 → [] ≡ xs
    empty [] is = refl
    empty (x ∷ xs) is = absurd (omega (arith, is))

pub items-requires : goal.items-requires
items-requires c =
    let s = c.self.inside in
    let count = rw (← c.self.view_is) at c.count.ensures in
    elim (cases_lt c.args.class (length s.attendees.lists)) [
      | inl within ↦ within
      | inr past ↦
          let none : length (list_at s.attendees c.args.class) ≡ 0 = ap length (get_or_past s.attendees.lists c.args.class [] past) in
          absurd (c.if-count-eq0.false (count ∙ sym (length-students (list_at s.attendees c.args.class) (map classes_in s.rows.items) c.args.class (c.self.invariant.students c.args.class)) ∙ none))
    ]

pub returns-clause-students : goal.returns-clause-students
returns-clause-students c =
    let s = c.self.inside in
    let list = list_at s.attendees c.args.class in
    let listed : c.in_ok-students.students.items ≡ list =
    items_from_collect {E = Unit {0}} (Ok c.in_ok-students.students) c.in_ok-students.ensures.ran (YieldsList-from_first (λ x. x) (λ (items : List ℕ). items) list c.items.ensures.items) in
    let moved : IsPermutation list c.sort_unstable.new.self.items = rw listed at c.sort_unstable.ensures.permutation in
    rw (← c.self.view_is) (students-in_order list c.sort_unstable.new.self.items (map classes_in s.rows.items) c.args.class (c.self.invariant.students c.args.class) moved
    (IsNonDecreasingBy-from_sort (λ x. x) c.sort_unstable.new.self.items c.sort_unstable.ensures.sorted))
