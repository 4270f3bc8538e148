-- Which classes are candidates, as classes are forced to values, and which of them a word draws.
use Rattle.std.proofs.Common.{◌≡◌, ◌≢◌, ℕ, zero, suc, ◌+◌, ◌-◌, ◌*◌, ◌^◌, ◌<◌, ◌≤◌, Bool, true, false, cond, Some, List, [], ◌∷◌, length, refl, ap, sym, ◌∙◌, ◌⊎◌, inl, inr, arith}
use Rattle.std.specs.Prelude.{◌/◌, ◌&&◌, ◌||◌, nat_eq, slice_get, slice_set}
use Rattle.std.specs.List.{filter, list_any, range_with_len}
use Rattle.std.specs.Option.{is_none}
use Rattle.std.proofs.lemmas.Bool.Decides.{eqb_tells}
use Rattle.tt_draw.specs.Draws.{drawn}
use Rattle.tt_flags.specs.Places.{is_set, set_places}
use Rattle.tt_problem.specs.declared.parts.Parts.{Parts}
use Rattle.tt_state.specs.Snapshots.{Snapshot}
use Rattle.tt_search.specs.declared.drawing.Candidates.{Candidates}
use Rattle.tt_search.specs.Turns.{candidates, is_candidate, has_open_value}
use Rattle.tt_search.specs.Drawing.{AreHopeful, AreCandidates}
use Rattle.tt_search.specs.Late.{KeepsOthers}
use Rattle.tt_search.proofs.LateLemmas.{never_late, set_anew}

-- once the values of some classes may have changed, these are late
pub candidates_changed : (p : Parts) (s t : Snapshot) (c : Candidates) (late : List ℕ) → KeepsOthers s t late → AreCandidates p s c [] → AreCandidates p t c late
candidates_changed p s t c late others now = record {
  kept = rw others.closures now.kept;
  right = λ k within none. rw others.closures (now.right k within refl ∙ ap (λ value. is_none value && has_open_value p s.closures k) (sym (others.values k none)));
}

-- a class that is none of the problem is passed over
pub candidates_past : (p : Parts) (s : Snapshot) (c : Candidates) (class : ℕ) (late : List ℕ) → length p.classes ≤ class → AreCandidates p s c (class ∷ late) → AreCandidates p s c late
candidates_past p s c class late past now = record {
  kept = now.kept;
  right = never_late (length p.classes) c.free (is_candidate p s) class late past now.right;
}

-- a class that is looked at again isn't late any more
pub candidates_looked_at : (p : Parts) (s : Snapshot) (c d : Candidates) (class : ℕ) (late : List ℕ) → class < length p.classes → d.free ≡ slice_set c.free class (is_candidate p s class) → AreHopeful p s.closures d
    → AreCandidates p s c (class ∷ late) → AreCandidates p s d late
candidates_looked_at p s c d class late within is kept now = record {
  kept = kept;
  right = set_anew (length p.classes) c.free d.free (is_candidate p s) class late now.kept.whole within is now.right;
}

listed_by : (k a : ℕ) (rest : Bool) → (a ≢ k → rest ≡ true) → ((nat_eq k a ≡ true) × (k ≡ a)) ⊎ ((nat_eq k a ≡ false) × (k ≢ a)) → (nat_eq k a || rest) ≡ true
listed_by k a rest more (inl same) = rw same.0 refl
listed_by k a rest more (inr other) = rw other.0 (more (λ e. other.1 (sym e)))

-- the numbers of a range are listed in it
in_range : (a n k : ℕ) → a ≤ k → k < a + n → list_any (nat_eq k) (range_with_len a n) ≡ true
in_range a zero k from below = absurd (omega arith)
in_range a (suc n) k from below = listed_by k a (list_any (nat_eq k) (range_with_len (a + 1) n)) (λ differ. in_range (a + 1) n k (omega (arith, from, differ)) (omega (arith, below))) (eqb_tells k a)

-- at first all are late
pub all_late : (p : Parts) (s : Snapshot) (c : Candidates) → AreHopeful p s.closures c → AreCandidates p s c (range_with_len 0 (length p.classes - 0))
all_late p s c kept = record {
  kept = kept;
  right = λ k within none. let yes = in_range 0 (length p.classes - 0) k (omega arith) (omega (arith, within)) in absurd (true_false (sym yes ∙ none));
}
  where
    true_false : true ≡ false → ⊥
    true_false e = cc

-- the first of a range
pub late_first : (p : Parts) (s : Snapshot) (c : Candidates) (k : ℕ) → k < length p.classes → AreCandidates p s c (range_with_len k (length p.classes - k)) → AreCandidates p s c (k ∷ range_with_len (k + 1) (length p.classes - (k + 1)))
late_first p s c k below now =
    let e : length p.classes - k ≡ suc (length p.classes - (k + 1)) = omega arith in
    rw e at now

-- at the end none is late
pub late_none : (p : Parts) (s : Snapshot) (c : Candidates) (k : ℕ) → length p.classes ≤ k → AreCandidates p s c (range_with_len k (length p.classes - k)) → AreCandidates p s c []
late_none p s c k past now =
    let e : length p.classes - k ≡ zero = omega arith in
    rw e at now

-- tests that agree on a range pass the same of it
pass_same : (f g : ℕ → Bool) (a n : ℕ) → ((k : ℕ) → a ≤ k → k < a + n → f k ≡ g k) → filter f (range_with_len a n) ≡ filter g (range_with_len a n)
pass_same f g a zero same = refl
pass_same f g a (suc n) same =
    rw (same a (omega arith) (omega arith), pass_same f g (a + 1) n (λ k from below. same k (omega arith) (omega arith))) refl

-- the flags that are set are the candidates
pub set_are_candidates : (p : Parts) (s : Snapshot) (c : Candidates) → AreCandidates p s c [] → set_places c.free ≡ candidates p s
set_are_candidates p s c now =
    rw now.kept.whole (pass_same (is_set c.free) (is_candidate p s) 0 (length p.classes) (λ k from below. now.right k (omega (arith, below)) refl))

below_more : (b : Bool) (a n k c : ℕ) (ys : List ℕ) → ((j : ℕ) → slice_get ys j ≡ Some c → c < a + suc n) → slice_get (cond b (a ∷ ys) ys) k ≡ Some c → c < a + suc n
below_more true a n zero c ys rest is = let e : a ≡ c = cc in omega arith
below_more true a n (suc k) c ys rest is = rest k is
below_more false a n k c ys rest is = rest k is

-- what is found among those of a range that pass a test is in the range
drawn_in_range : (f : ℕ → Bool) (a n k c : ℕ) → slice_get (filter f (range_with_len a n)) k ≡ Some c → c < a + n
drawn_in_range f a zero k c is = absurd (cc)
drawn_in_range f a (suc n) k c is =
    below_more (f a) a n k c (filter f (range_with_len (a + 1) n)) (λ j here. let more = drawn_in_range f (a + 1) n j c here in omega arith) is

-- the candidate that a word draws is a class of the problem
pub drawn_below : (p : Parts) (s : Snapshot) (word c : ℕ) → drawn word (candidates p s) ≡ Some c → c < length p.classes
drawn_below p s word c is =
    let more = drawn_in_range (is_candidate p s) 0 (length p.classes) (word * length (candidates p s) / 2 ^ 32) c is in omega arith
