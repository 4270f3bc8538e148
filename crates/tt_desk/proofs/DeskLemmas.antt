-- The checks of commands.
use Rattle.std.proofs.Common.{◌≡◌, ℕ, suc, ◌+◌, ◌<◌, List, [], ◌∷◌, ◌++◌, Option, Result, Ok, Err, refl, sym, ap, append_assoc, subst, arith, rules, take, drop, set, length, get_or}
use Rattle.std.proofs.lemmas.Grind.{common_steps}
use Rattle.std.proofs.lemmas.List.{append-nil, take_more_set, drop-set-lt}
use Rattle.std.proofs.lemmas.List.Elements.{All-append}
use Rattle.std.proofs.Math.Seq.{drop-cons, drop-length, take-length, take-append_seam}
use Rattle.std.specs.Prelude.{All}
use Rattle.tt_problem.specs.declared.parts.Parts.{Parts}
use Rattle.std.specs.Prelude.{true, false}
use Rattle.tt_state.specs.Desk.{Desk}
use Rattle.tt_script.specs.declared.command.Command.TheVariants.{Publish}
use Rattle.tt_desk.specs.declared.refusal.Refusal.{Refusal}
use Rattle.std.specs.Prelude.{codes}
use Rattle.tt_score.specs.Totals.{totals_of}
use Rattle.tt_state.specs.Sound.{is_ready}
use Rattle.tt_published.specs.Published.{timetable_of}
use Rattle.tt_solution.specs.Text.{published_text}
use Rattle.tt_published.specs.Timetable.{Timetable}
use Rattle.tt_desk.specs.Desk.{Session, Answer, same, carried_out, known_class, known_classes, with_published, not_ready}
use Rattle.tt_base.specs.Chain.{◌>>=◌}
use Rattle.std.specs.Prelude.{OnErr, IsOk}

-- places that were found before those of some ids
abbrev pub known_after : Parts → List ℕ → List ℕ → Result (List ℕ) Refusal
known_after p found ids = known_classes p ids >>= λ places. Ok (found ++ places)

-- one more id
pub known_after-more : (p : Parts) (found : List ℕ) (id place : ℕ) (ids : List ℕ) → known_class p id ≡ Ok place → known_after p found (id ∷ ids) ≡ known_after p (found ++ place ∷ []) ids
known_after-more p found id place ids is = rw is (joined (known_classes p ids))
  where
    joined : (r : Result (List ℕ) Refusal) → ((r >>= λ places. Ok (place ∷ places)) >>= λ places. Ok (found ++ places)) ≡ (r >>= λ places. Ok ((found ++ place ∷ []) ++ places))
    joined (Ok places) = ap Ok (sym (append_assoc found (place ∷ []) places))
    joined (Err e) = refl

-- an id that is unknown
pub known_after-none : (p : Parts) (found : List ℕ) (id : ℕ) (ids : List ℕ) (why : Refusal) → known_class p id ≡ Err why → known_after p found (id ∷ ids) ≡ Err why
known_after-none p found id ids why is = rw is refl

-- none is found yet
pub known_first : (p : Parts) (ids items : List ℕ) → items ≡ ids → known_classes p ids ≡ known_after p (take 0 items) (drop 0 items)
known_first p ids items is = rw is (nothing (known_classes p ids))
  where
    nothing : (r : Result (List ℕ) Refusal) → r ≡ (r >>= λ places. Ok ([] ++ places))
    nothing (Ok places) = refl
    nothing (Err e) = refl

-- the id at this place is unknown
pub known_at_none : (p : Parts) (items : List ℕ) (i id : ℕ) (why : Refusal) → i < length items → id ≡ get_or items i 0 → known_class p id ≡ Err why → known_after p (take i items) (drop i items) ≡ Err why
known_at_none p items i id why within is none = rw (drop-cons items i 0, ← is) (known_after-none p (take i items) id (drop (suc i) items) why none)

-- the id at this place has a place, which is put there
pub known_at_more : (p : Parts) (items : List ℕ) (i id place : ℕ) → i < length items → id ≡ get_or items i 0 → known_class p id ≡ Ok place → known_after p (take i items) (drop i items) ≡ known_after p (take (i + 1) (set items i place)) (drop (i + 1) (set items i place))
known_at_more p items i id place within is some =
    let lt : i < i + 1 = omega arith in
    let one : i + 1 ≡ suc i = omega arith in
    rw (take_more_set items i place within, drop-set-lt (i + 1) items i place lt, one, drop-cons items i 0, ← is) (known_after-more p (take i items) id place (drop (suc i) items) some)

pub in_range_more : (n : ℕ) (items : List ℕ) (i place : ℕ) → i < length items → All (λ x. x < n) (take i items) → place < n → All (λ x. x < n) (take (i + 1) (set items i place))
in_range_more n items i place within all less = rw (take_more_set items i place within) (All-append (λ x. x < n) (take i items) (place ∷ []) all (All-one place less))
  where
    All-one : (x : ℕ) → x < n → All (λ y. y < n) (x ∷ [])
    All-one x less = search (rules, common_steps)

-- all are found
pub known_all : (p : Parts) (items : List ℕ) (i : ℕ) → i ≡ length items → known_after p (take i items) (drop i items) ≡ Ok items
known_all p items i is = rw (is, take-length items, drop-length items) (ap Ok (append-nil items))

-- what a vector holds after a loop over all of its items
pub all_written : (now items : List ℕ) (n : ℕ) → length now ≡ n → take n (now ++ drop (length now) items) ≡ now
all_written now items n is = rw (← is) (take-append_seam now (drop (length now) items))

pub in_range_all : (n k : ℕ) (items : List ℕ) → k ≡ length items → All (λ x. x < n) (take k items) → All (λ x. x < n) items
in_range_all n k items is all = subst (λ (xs : List ℕ). All (λ x. x < n) xs) (rw is (take-length items)) all

-- ---- a command and what becomes of it

-- a session by its desk
abbrev pub with_desk_of : Option Timetable → Desk → Session
with_desk_of t d = record { desk = d; published = t }

pub done_so : (to : Answer) (now : Session) (lines : List ℕ) (r : Result Answer Refusal) → r ≡ Ok to → now ≡ to.session → lines ≡ to.lines → r ≡ Ok (same now lines)
done_so to now lines r is session own = rw (is, session, own) refl

-- ---- `publish`

module _ (s : Session) where
  pub not_published : is_ready s.desk.problem s.desk.present ≡ false → carried_out s Publish ≡ Err (not_ready (totals_of s.desk.problem s.desk.present.closures s.desk.present.plan s.desk.present.lists))
  not_published is = rw is refl

  pub published : is_ready s.desk.problem s.desk.present ≡ true → carried_out s Publish ≡ Ok (with_published s (timetable_of s.desk.problem s.desk.present.plan s.desk.present.lists) (published_text s.desk.problem s.desk.present.plan s.desk.present.lists ++ codes "\n"))
  published is = rw is refl

-- whatever the answer is, the fact stands
pub on_err : {T E P : Type 0} (r : Result T E) → P → OnErr r P
on_err (Ok x) p = tt
on_err (Err e) p = p

-- a session is its desk and what is published
pub by_parts : (a b : Session) → a.desk ≡ b.desk → a.published ≡ b.published → a ≡ b
by_parts a b desk published = rw (← desk, ← published) refl

pub is_ok_of : {T E : Type 0} (r : Result T E) (x : T) → r ≡ Ok x → IsOk r
is_ok_of r x is = rw is refl
