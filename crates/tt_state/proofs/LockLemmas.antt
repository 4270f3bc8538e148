-- Locks that turn, and what leads back from them.
use Rattle.std.proofs.Common.{◌≡◌, ◌∙◌, ℕ, ◌+◌, ◌-◌, ◌<◌, ◌≤◌, Bool, true, false, cond, List, [], ◌∷◌, ◌++◌, None, length, take, drop, zero, suc, refl, ap, sym, subst, arith, inl, inr, append_assoc, append-nil}
use Rattle.std.specs.Prelude.{is_some, not, ◌&&◌, slice_index_or, slice_set}
use Rattle.std.specs.List.{filter, range_with_len}
use Rattle.std.proofs.lemmas.Bool.{cases_Bool, cases_eq}
use Rattle.std.proofs.lemmas.List.{drop_all, drop_more, get_or-append_right, get_or-map, get_or-set_other, get_or-set_same, length-map, length-set, length-take-le, set-get_or, set-set, set_at, take_all, take_more}
use Rattle.tt_problem.specs.declared.parts.Parts.{Parts}
use Rattle.tt_journal.specs.declared.Entry.{Entry}
use Rattle.tt_journal.specs.declared.Entry.TheVariants.{Placed, Locked, Unlocked}
use Rattle.tt_state.specs.Snapshots.{Snapshot, is_locked_in, value_in, with_lock, with_locks, with_unplaced, with_value}
use Rattle.tt_state.specs.Sound.{AreLocksOf, IsSound}
use Rattle.tt_state.specs.History.{HasStep, unplaced_by}
use Rattle.tt_state.specs.Kept.{LeadBack, counts_of}
use Rattle.tt_state.specs.Past.{HasPastOf, LeadsTo, StandsOn}
use Rattle.tt_state.specs.Turned.{all_turned, may_turn, lock_entry}
use Rattle.tt_state.proofs.PastLemmas.{past_by}
use Rattle.tt_state.proofs.StateLemmas.{placed, then}
use Rattle.tt_state.proofs.ForceLemmas.{some_within}

-- a place that is true is one of the list
pub true_within : (xs : List Bool) (d : ℕ) → slice_index_or xs d false ≡ true → d < length xs
true_within [] d is = absurd (cc is)
true_within (x ∷ xs) zero is = omega arith
true_within (x ∷ xs) (suc d) is = omega (arith, true_within xs d is)

both_true : (a b : Bool) → (a && not b) ≡ true → (a ≡ true) × (b ≡ false)
both_true true false is = (refl, refl)
both_true true true is = absurd (cc is)
both_true false b is = absurd (cc is)

-- what is known of a class whose lock may turn
pub record MayTurn (s : Snapshot) (class : ℕ) (lock : Bool) : Type 0 where
  pub within : class < length s.locks
  pub before : is_locked_in s class ≡ not lock
  pub placed : lock ≡ true → is_some (value_in s class) ≡ true

pub turns : (s : Snapshot) (class : ℕ) (lock : Bool) → length s.plan ≡ length s.locks → may_turn lock s class ≡ true → MayTurn s class lock
turns s class true same may =
    let both = both_true (is_some (value_in s class)) (is_locked_in s class) may in
    record { within = omega (arith, same, some_within s.plan class both.0); before = both.1; placed = λ lock. both.0 }
turns s class false same may = record { within = true_within s.locks class may; before = may; placed = λ lock. absurd (cc lock) }

-- a lock that turned and turns back
turned_back : (s : Snapshot) (class : ℕ) (lock : Bool) → is_locked_in s class ≡ not lock → with_lock (with_lock s class lock) class (not lock) ≡ s
turned_back s class lock before =
    ap (λ (l : List Bool). record { plan = s.plan; lists = s.lists; statistics = s.statistics; closures = s.closures; locks = l })
    (set-set s.locks class lock (not lock) ∙ ap (slice_set s.locks class) (sym before) ∙ set-get_or s.locks class false)

-- the locks with one that turned
locks_turned : (p : Parts) (s : Snapshot) (class : ℕ) (lock : Bool) → MayTurn s class lock → AreLocksOf p s.plan s.locks → AreLocksOf p s.plan (slice_set s.locks class lock)
locks_turned p s class lock may of = record {
  whole = length-set s.locks class lock ∙ of.whole;
  placed = λ d locked. elim (cases_eq d class) [
    | inl same ↦ rw same (may.placed (sym (get_or-set_same s.locks class lock false may.within) ∙ (rw same at locked)))
    | inr apart ↦ of.placed d (sym (get_or-set_other s.locks class d lock false apart) ∙ locked)
  ];
}

-- what an entry of a lock stands on, and the past that it leaves
stands_turned : (p : Parts) (t : Snapshot) (es : List Entry) (class : ℕ) (lock : Bool) → IsSound p t → class < length t.locks → LeadBack p (with_lock t class (not lock)) es → t.statistics ≡ counts_of es → HasStep es → StandsOn p t (lock_entry lock class ∷ es)
stands_turned p t es class true sound lt back counted step = record { sound = sound; back = (step, (lt, back)); counted = counted; step = step }
stands_turned p t es class false sound lt back counted step = record { sound = sound; back = (step, (lt, back)); counted = counted; step = step }

past_turned : (s t : Snapshot) (es : List Entry) (class : ℕ) (lock : Bool) → with_lock t class (not lock) ≡ s → HasPastOf s es t (lock_entry lock class ∷ es)
past_turned s t es class true back = past_by s (with_lock t class false) t es (Locked class ∷ es) back refl refl refl refl refl
past_turned s t es class false back = past_by s (with_lock t class true) t es (Unlocked class ∷ es) back refl refl refl refl refl

-- a lock turned
pub turned_one : (p : Parts) (s : Snapshot) (es : List Entry) (class : ℕ) (lock : Bool) → StandsOn p s es → may_turn lock s class ≡ true → LeadsTo p s es (with_lock s class lock) (lock_entry lock class ∷ es)
turned_one p s es class lock on may =
    let now = turns s class lock (on.sound.plan.whole ∙ sym on.sound.locks.whole) may in
    let t = with_lock s class lock in
    let back : with_lock t class (not lock) ≡ s = turned_back s class lock now.before in
    let sound : IsSound p t = record { plan = on.sound.plan; lists = on.sound.lists; statistics = on.sound.statistics; closures = on.sound.closures; locks = locks_turned p s class lock now on.sound.locks } in
    record {
      stands = stands_turned p t es class lock sound (omega (arith, now.within, length-set s.locks class lock)) (subst (λ x. LeadBack p x es) (sym back) on.back) on.counted on.step;
      past = past_turned s t es class lock back;
    }

-- a class that isn't locked stays as it is without a lock
pub without_lock : (s : Snapshot) (class : ℕ) → is_locked_in s class ≡ false → with_lock s class false ≡ s
without_lock s class free =
    ap (λ (l : List Bool). record { plan = s.plan; lists = s.lists; statistics = s.statistics; closures = s.closures; locks = l }) (ap (slice_set s.locks class) (sym free) ∙ set-get_or s.locks class false)

-- a class lost its value, and its lock where it had one
pub unplaced : (p : Parts) (s : Snapshot) (es : List Entry) (class : ℕ) → StandsOn p s es → class < length p.classes → LeadsTo p s es (with_unplaced s class) (unplaced_by s class es)
unplaced p s es class on within = elim (cases_Bool (is_locked_in s class)) [
  | inl locked ↦
      let t = with_lock s class false in
      let first : LeadsTo p s es t (Unlocked class ∷ es) = turned_one p s es class false on locked in
      let free : is_locked_in t class ≡ false = get_or-set_same s.locks class false false (true_within s.locks class locked) in
      rw locked
      (then p s t (with_unplaced s class) es (Unlocked class ∷ es) (Placed class (value_in s class) ∷ Unlocked class ∷ es) first
      (placed p t (Unlocked class ∷ es) class None first.stands (record { within = within; value = λ v is. absurd (cc is) }) (λ none. free)))
  | inr free ↦
      let same : with_unplaced s class ≡ with_value s class None = ap (λ x. with_value x class None) (without_lock s class free) in
      rw free
      (subst (λ x. LeadsTo p s es x (Placed class (value_in s class) ∷ es)) (sym same)
      (placed p s es class None on (record { within = within; value = λ v is. absurd (cc is) }) (λ none. free)))
]

-- ---- the loop over all classes

-- the locks that are to be
abbrev pub locks_to : (lock : Bool) → Snapshot → List Bool
locks_to lock s = (all_turned lock s).locks

-- a class that turns has the lock then, or has it not; any other is as it is to be
pub to_turn : (p : Parts) (s : Snapshot) (class : ℕ) (lock : Bool) → IsSound p s → may_turn lock s class ≡ true → slice_index_or (locks_to lock s) class false ≡ lock
to_turn p s class true sound may =
    let both = both_true (is_some (value_in s class)) (is_locked_in s class) may in
    get_or-map is_some s.plan class None false (some_within s.plan class both.0) ∙ both.0
to_turn p s class false sound may = get_or-map (λ locked. false) s.locks class false false (true_within s.locks class may)

pub to_stay : (p : Parts) (s : Snapshot) (class : ℕ) (lock : Bool) → IsSound p s → class < length s.locks → may_turn lock s class ≡ false → slice_index_or (locks_to lock s) class false ≡ is_locked_in s class
to_stay p s class true sound lt may =
    get_or-map is_some s.plan class None false (omega (arith, lt, sound.locks.whole, sound.plan.whole)) ∙ by_parts (is_some (value_in s class)) (is_locked_in s class) may (sound.locks.placed class)
  where
    by_parts : (a b : Bool) → (a && not b) ≡ false → (b ≡ true → a ≡ true) → a ≡ b
    by_parts true true may placed = refl
    by_parts true false may placed = absurd (cc may)
    by_parts false true may placed = placed refl
    by_parts false false may placed = refl
to_stay p s class false sound lt may = get_or-map (λ locked. false) s.locks class false false lt ∙ sym may

pub length-locks_to : (p : Parts) (s : Snapshot) (lock : Bool) → IsSound p s → length (locks_to lock s) ≡ length s.locks
length-locks_to p s true sound = length-map s.plan is_some ∙ sound.plan.whole ∙ sym sound.locks.whole
length-locks_to p s false sound = length-map s.locks (λ locked. false)

pub with_locks_to : (s : Snapshot) (lock : Bool) → with_locks s (locks_to lock s) ≡ all_turned lock s
with_locks_to s true = refl
with_locks_to s false = refl

-- the locks while they turn: those of the classes below i are as they are to be, the others as they were
abbrev pub locks_at : (lock : Bool) → Snapshot → (i : ℕ) → List Bool
locks_at lock s i = take i (locks_to lock s) ++ drop i s.locks

module _ (p : Parts) (s : Snapshot) (lock : Bool) (i : ℕ) (sound : IsSound p s) (lt : i < length s.locks) where
  front_long : length (take i (locks_to lock s)) ≡ i
  front_long = length-take-le i (locks_to lock s) (omega (arith, lt, length-locks_to p s lock sound))

  left : drop i s.locks ≡ is_locked_in s i ∷ drop (i + 1) s.locks
  left = drop_more s.locks i false lt

  front_more : take (i + 1) (locks_to lock s) ≡ take i (locks_to lock s) ++ slice_index_or (locks_to lock s) i false ∷ []
  front_more = take_more (locks_to lock s) i false (omega (arith, lt, length-locks_to p s lock sound))

  -- the class at the place is locked still, or isn't yet
  pub lock_at : slice_index_or (locks_at lock s i) i false ≡ is_locked_in s i
  lock_at = get_or-append_right (take i (locks_to lock s)) (drop i s.locks) i i false front_long (omega arith) ∙ ap (λ (l : List Bool). slice_index_or l (i - i) false) left ∙ none_more i
    where
      none_more : (i : ℕ) → slice_index_or (is_locked_in s i ∷ drop (i + 1) s.locks) (i - i) false ≡ is_locked_in s i
      none_more i = let zero_is : i - i ≡ 0 = omega arith in rw zero_is refl

  -- the next locks, where it turns, and where it stays
  pub lock_turned : may_turn lock s i ≡ true → slice_set (locks_at lock s i) i lock ≡ locks_at lock s (i + 1)
  lock_turned may =
      ap (λ (l : List Bool). slice_set (take i (locks_to lock s) ++ l) i lock) left
      ∙ set_at (take i (locks_to lock s)) (is_locked_in s i) (drop (i + 1) s.locks) lock i front_long
      ∙ sym (append_assoc (take i (locks_to lock s)) (lock ∷ []) (drop (i + 1) s.locks))
      ∙ ap (λ (b : Bool). (take i (locks_to lock s) ++ b ∷ []) ++ drop (i + 1) s.locks) (sym (to_turn p s i lock sound may))
      ∙ ap (λ (l : List Bool). l ++ drop (i + 1) s.locks) (sym front_more)

  pub lock_stays : may_turn lock s i ≡ false → locks_at lock s i ≡ locks_at lock s (i + 1)
  lock_stays may =
      ap (λ (l : List Bool). take i (locks_to lock s) ++ l) left
      ∙ sym (append_assoc (take i (locks_to lock s)) (is_locked_in s i ∷ []) (drop (i + 1) s.locks))
      ∙ ap (λ (b : Bool). (take i (locks_to lock s) ++ b ∷ []) ++ drop (i + 1) s.locks) (sym (to_stay p s i lock sound lt may))
      ∙ ap (λ (l : List Bool). l ++ drop (i + 1) s.locks) (sym front_more)

-- the locks at the end
pub locks_at_end : (p : Parts) (s : Snapshot) (lock : Bool) (i : ℕ) → IsSound p s → length s.locks ≤ i → locks_at lock s i ≡ locks_to lock s
locks_at_end p s lock i sound le =
    ap (λ (l : List Bool). take i (locks_to lock s) ++ l) (drop_all i s.locks le) ∙ append-nil (take i (locks_to lock s)) ∙ take_all i (locks_to lock s) (omega (arith, le, length-locks_to p s lock sound))

-- whether a class turns is asked of its own value and lock
pub turns_alike : (s t : Snapshot) (class : ℕ) (lock : Bool) → t.plan ≡ s.plan → is_locked_in t class ≡ is_locked_in s class → may_turn lock t class ≡ may_turn lock s class
turns_alike s t class true plan locks = rw (plan, locks) refl
turns_alike s t class false plan locks = locks

-- the classes from a place on
abbrev pub from_on : (i n : ℕ) → List ℕ
from_on i n = range_with_len i (n - i)

first_on : (i n : ℕ) → i < n → from_on i n ≡ i ∷ from_on (i + 1) n
first_on i n lt = let more : n - i ≡ suc (n - (i + 1)) = omega (arith, lt) in rw more refl

-- those of them that pass, where the first one does, and where it doesn't
pub passing_more : (test : ℕ → Bool) (i n : ℕ) → i < n → test i ≡ true → filter test (from_on i n) ≡ i ∷ filter test (from_on (i + 1) n)
passing_more test i n lt passes = ap (filter test) (first_on i n lt) ∙ ap (λ (b : Bool). cond b (i ∷ filter test (from_on (i + 1) n)) (filter test (from_on (i + 1) n))) passes

pub passing_less : (test : ℕ → Bool) (i n : ℕ) → i < n → test i ≡ false → filter test (from_on i n) ≡ filter test (from_on (i + 1) n)
passing_less test i n lt fails = ap (filter test) (first_on i n lt) ∙ ap (λ (b : Bool). cond b (i ∷ filter test (from_on (i + 1) n)) (filter test (from_on (i + 1) n))) fails
