-- Flags by class, as a class is forced to a value and as classes are looked at again.
use Rattle.std.proofs.Common.{◌≡◌, ◌≢◌, ℕ, ◌<◌, ◌≤◌, Bool, true, false, Option, Some, None, Result, Ok, Err, List, [], ◌∷◌, length, refl, ◌∙◌, ◌⊎◌, inl, inr, arith}
use Rattle.std.specs.Prelude.{OnOk, ◌||◌, nat_eq, slice_index_or, slice_set}
use Rattle.std.specs.List.{list_any}
use Rattle.std.proofs.lemmas.Bool.{eqb-false}
use Rattle.std.proofs.lemmas.Bool.Decides.{eqb_tells}
use Rattle.std.proofs.lemmas.List.{get_or-set_same, get_or-set_other}
use Rattle.tt_bits.specs.declared.times.Value.{Value}
use Rattle.tt_problem.specs.declared.parts.Parts.{Parts}
use Rattle.tt_state.specs.Snapshots.{Snapshot, value_in}
use Rattle.tt_state.specs.Values.{conflict_set_of}
use Rattle.tt_state.specs.Forced.{all_out, forced, out_of, taken_out}
use Rattle.tt_state.proofs.FitsLemmas.{forced_closures}
use Rattle.tt_search.specs.Late.{AreRightBut, KeepsOthers}

not_either : (a b : Bool) → (a || b) ≡ false → (a ≡ false) × (b ≡ false)
not_either true b neither = absurd (cc)
not_either false b neither = (refl, neither)

other_than : (a b : ℕ) → nat_eq a b ≡ false → a ≢ b
other_than a b differ same = eqb-false a b differ same

out_keeps : (class : ℕ) (v : Value) (s : Snapshot) (other : ℕ) (had : Option Value) (c : ℕ) → c ≢ other → value_in (out_of class v s other had) c ≡ value_in s c
out_keeps class v s other None c differ = refl
out_keeps class v s other (Some had) c differ = get_or-set_other s.plan other c None None differ

all_out_keeps : (class : ℕ) (v : Value) (s : Snapshot) (others : List ℕ) (c : ℕ) → list_any (nat_eq c) others ≡ false → value_in (all_out class v s others) c ≡ value_in s c
all_out_keeps class v s [] c none = refl
all_out_keeps class v s (other ∷ others) c none =
    let both = not_either (nat_eq c other) (list_any (nat_eq c) others) none in
    all_out_keeps class v (taken_out class v s other) others c both.1
    ∙ out_keeps class v s other (value_in s other) c (other_than c other both.0)

-- a class that isn't forced or taken out keeps its value
forced_keeps : (p : Parts) (s : Snapshot) (class : ℕ) (v : Value) (c : ℕ) → list_any (nat_eq c) (class ∷ conflict_set_of p s class v) ≡ false → value_in (forced p s class v) c ≡ value_in s c
unfolding forced
forced_keeps p s class v c none =
    let both = not_either (nat_eq c class) (list_any (nat_eq c) (conflict_set_of p s class v)) none in
    get_or-set_other (all_out class v s (conflict_set_of p s class v)).plan class c (Some v) None (other_than c class both.0)
    ∙ all_out_keeps class v s (conflict_set_of p s class v) c both.1

pub forced_others : (p : Parts) (s : Snapshot) (class : ℕ) (v : Value) → KeepsOthers s (forced p s class v) (class ∷ conflict_set_of p s class v)
forced_others p s class v = record { closures = forced_closures p s class v; values = forced_keeps p s class v }

-- where nothing changes, all keep theirs
pub same_others : (s : Snapshot) (late : List ℕ) → KeepsOthers s s late
same_others s late = record { closures = refl; values = λ class none. refl }

-- what follows from two facts that hold where there is no error
pub on_ok_both : {X E A B C : Type 0} (r : Result X E) → (A → B → C) → OnOk r A → OnOk r B → OnOk r C
on_ok_both (Ok x) f a b = f a b
on_ok_both (Err e) f a b = tt

neither_by : (c class : ℕ) (late : List ℕ) → ((nat_eq c class ≡ true) × (c ≡ class)) ⊎ ((nat_eq c class ≡ false) × (c ≢ class)) → c ≢ class → list_any (nat_eq c) late ≡ false → list_any (nat_eq c) (class ∷ late) ≡ false
neither_by c class late (inl same) differ none = absurd (differ same.1)
neither_by c class late (inr other) differ none = rw other.0 none

neither : (c class : ℕ) (late : List ℕ) → c ≢ class → list_any (nat_eq c) late ≡ false → list_any (nat_eq c) (class ∷ late) ≡ false
neither c class late = neither_by c class late (eqb_tells c class)

-- a class behind the end is never late
pub never_late : (count : ℕ) (flags : List Bool) (test : ℕ → Bool) (class : ℕ) (late : List ℕ) → count ≤ class → AreRightBut count flags test (class ∷ late) → AreRightBut count flags test late
never_late count flags test class late past right = λ c within none. right c within (neither c class late (λ e. omega (arith, e, within, past)) none)

right_by : (count : ℕ) (flags : List Bool) (test : ℕ → Bool) (class : ℕ) (late : List ℕ) (c : ℕ) → length flags ≡ count → class < count → AreRightBut count flags test (class ∷ late) → c < count → list_any (nat_eq c) late ≡ false
    → ((nat_eq c class ≡ true) × (c ≡ class)) ⊎ ((nat_eq c class ≡ false) × (c ≢ class)) → slice_index_or (slice_set flags class (test class)) c false ≡ test c
right_by count flags test class late c whole place right within none (inl same) =
    rw same.1 (get_or-set_same flags class (test class) false (omega (arith, whole, place)))
right_by count flags test class late c whole place right within none (inr other) =
    get_or-set_other flags class c (test class) false other.1 ∙ right c within (neither c class late other.1 none)

-- a class whose flag is set anew isn't late any more
pub set_anew : (count : ℕ) (flags after : List Bool) (test : ℕ → Bool) (class : ℕ) (late : List ℕ) → length flags ≡ count → class < count → after ≡ slice_set flags class (test class)
    → AreRightBut count flags test (class ∷ late) → AreRightBut count after test late
set_anew count flags after test class late whole place is right = λ c within none. rw is (right_by count flags test class late c whole place right within none (eqb_tells c class))
