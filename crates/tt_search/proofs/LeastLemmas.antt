-- The items of a list that are least, as an item is added, and by numbers of one kind and then by those of another.
use Rattle.std.proofs.Common.{◌≡◌, ℕ, suc, ◌<◌, Bool, true, false, cond, Option, Some, None, List, [], ◌∷◌, ◌++◌, length, refl, ap, sym, subst, ◌∙◌, arith}
use Rattle.std.specs.Prelude.{All, not, slice_get, slice_index_or}
use Rattle.std.specs.List.{best_of, filter, list_any}
use Rattle.std.specs.Option.{option_map}
use Rattle.std.proofs.lemmas.List.{append-nil, append_assoc, get_or_default}
use Rattle.std.proofs.lemmas.List.Elements.{filter-append, filter_agree}
use Rattle.std.proofs.lemmas.List.Folds.{list_any_at, list_any_none}
use Rattle.std.proofs.lemmas.List.MinMax.{IsFirstBest-from_best_of}
use Rattle.tt_base.specs.Lists.{comes_before, first_least, is_less, least_after}
use Rattle.tt_base.proofs.ListLemmas.{least_after_append}
use Rattle.tt_search.specs.LeastNow.{AreLeastBy, then_by}
use Rattle.tt_search.specs.PlaceTurns.{all_least}
use Rattle.tt_search.proofs.PriceLemmas.{front_decides, neither, order, rest_decides}

-- nothing of a list comes before its least
none_less : {A : Type 0} (numbers : A → List ℕ) (xs : List A) (y : A) → first_least numbers xs ≡ Some y → All (λ w. is_less numbers w y ≡ false) xs
none_less numbers [] y is = λ k d within. absurd (omega (arith, within))
none_less numbers (x ∷ xs) y is =
    let first = IsFirstBest-from_best_of (order numbers) x xs in
    let best : best_of (is_less numbers) x xs ≡ y = cc in
    λ k d within. rw (get_or_default (x ∷ xs) k d x within) (rw (first.2 ∙ best) at (first.1.1 k x within))

-- and what comes before the least comes before all
all_above : {A : Type 0} (numbers : A → List ℕ) (xs : List A) (y z : A) → first_least numbers xs ≡ Some y → is_less numbers z y ≡ true → All (λ w. not (is_less numbers z w) ≡ false) xs
all_above numbers xs y z is less k d within = by (is_less numbers z (slice_index_or xs k d)) refl
  where
    by : (b : Bool) → is_less numbers z (slice_index_or xs k d) ≡ b → not b ≡ false
    by true above = refl
    by false not_above = absurd (apart (sym less ∙ (order numbers).chain z (slice_index_or xs k d) y not_above (none_less numbers xs y is k d within)))
      where
        apart : true ≡ false → ⊥
        apart e = cc

-- something of a list comes before an item where the least does
any_less : {A : Type 0} (numbers : A → List ℕ) (xs : List A) (y z : A) → first_least numbers xs ≡ Some y → list_any (λ w. is_less numbers w z) xs ≡ is_less numbers y z
any_less numbers [] y z is = absurd (cc)
any_less numbers (x ∷ xs) y z is = by (is_less numbers y z) refl
  where
    by : (b : Bool) → is_less numbers y z ≡ b → list_any (λ w. is_less numbers w z) (x ∷ xs) ≡ b
    by true less =
        let first = IsFirstBest-from_best_of (order numbers) x xs in
        let best : best_of (is_less numbers) x xs ≡ y = cc in
        list_any_at (λ w. is_less numbers w z) (x ∷ xs) first.0 x first.1.0 (rw (first.2 ∙ best) less)
    by false not_less =
        list_any_none (λ w. is_less numbers w z) (x ∷ xs)
        (λ k d within. (order numbers).chain (slice_index_or (x ∷ xs) k d) y z (none_less numbers (x ∷ xs) y is k d within) not_less)

-- so the least items are those before which the first of them doesn't come
least_are : {A : Type 0} (numbers : A → List ℕ) (xs : List A) (y : A) → first_least numbers xs ≡ Some y → all_least numbers xs ≡ filter (λ x. not (is_less numbers y x)) xs
least_are numbers xs y is = filter_agree (λ z. not (list_any (λ w. is_less numbers w z) xs)) (λ z. not (is_less numbers y z)) (λ z. ap not (any_less numbers xs y z is)) xs

none_pass : {A : Type 0} (test : A → Bool) (xs : List A) → All (λ x. test x ≡ false) xs → filter test xs ≡ []
none_pass test [] none = refl
none_pass test (x ∷ xs) none = rw (none 0 x (omega arith)) (none_pass test xs (λ k d within. none (suc k) d (omega (arith, within))))

-- the first least once an item is added
next_least : {A : Type 0} (numbers : A → List ℕ) (xs : List A) (y z : A) → first_least numbers xs ≡ Some y → first_least numbers (xs ++ z ∷ []) ≡ Some (cond (is_less numbers z y) z y)
next_least numbers xs y z is = least_after_append numbers None xs (z ∷ []) ∙ ap (λ o. least_after numbers o (z ∷ [])) is

not_itself : {A : Type 0} (numbers : A → List ℕ) (z : A) → is_less numbers z z ≡ false
not_itself numbers z = by (is_less numbers z z) refl
  where
    by : (b : Bool) → is_less numbers z z ≡ b → is_less numbers z z ≡ false
    by true less = (order numbers).one_way z z less
    by false not_less = not_less

-- y doesn't come before an item
abbrev stays_by : {A : Type 0} → (A → List ℕ) → (y x : A) → Bool
stays_by numbers y x = not (is_less numbers y x)

-- an item that comes before the least is the only one then
below_alone : {A : Type 0} (numbers : A → List ℕ) (xs : List A) (y z : A) → first_least numbers xs ≡ Some y → is_less numbers z y ≡ true → all_least numbers (xs ++ z ∷ []) ≡ z ∷ []
below_alone numbers xs y z is less =
    let first : first_least numbers (xs ++ z ∷ []) ≡ Some z = rw less at (next_least numbers xs y z is) in
    let test = stays_by numbers z in
    least_are numbers (xs ++ z ∷ []) z first
    ∙ filter-append test xs (z ∷ [])
    ∙ ap (λ ws. ws ++ filter test (z ∷ [])) (none_pass test xs (all_above numbers xs y z is less))
    ∙ rw (not_itself numbers z) refl

-- and one that doesn't joins the others, unless the least comes before it
joined : {A : Type 0} (numbers : A → List ℕ) (xs : List A) (y z : A) → first_least numbers xs ≡ Some y → is_less numbers z y ≡ false
    → all_least numbers (xs ++ z ∷ []) ≡ all_least numbers xs ++ cond (not (is_less numbers y z)) (z ∷ []) []
joined numbers xs y z is not_less =
    let first : first_least numbers (xs ++ z ∷ []) ≡ Some y = rw not_less at (next_least numbers xs y z is) in
    let test = stays_by numbers y in
    least_are numbers (xs ++ z ∷ []) y first
    ∙ filter-append test xs (z ∷ [])
    ∙ ap (λ ws. ws ++ filter test (z ∷ [])) (sym (least_are numbers xs y is))

-- an item alone is least
pub alone : {A : Type 0} (numbers : A → List ℕ) (x : A) → all_least numbers (x ∷ []) ≡ x ∷ []
alone numbers x = rw (not_itself numbers x) refl

-- and so are all where there are fewer than two
pub all_of_few : {A : Type 0} (numbers : A → List ℕ) (xs : List A) → length xs < 2 → xs ≡ all_least numbers xs
all_of_few numbers [] few = refl
all_of_few numbers (x ∷ []) few = sym (alone numbers x)
all_of_few numbers (x ∷ y ∷ xs) few = absurd (omega (arith, few))

-- the first least, where its numbers are known
first_by : {A : Type 0} (numbers : A → List ℕ) (ns : List ℕ) (o : Option A) → Some ns ≡ option_map numbers o → (y : A) × (o ≡ Some y) × (numbers y ≡ ns)
first_by numbers ns None is = absurd (cc)
first_by numbers ns (Some y) is = (y, refl, cc)

empty_by : {A : Type 0} (numbers : A → List ℕ) (xs : List A) → None ≡ option_map numbers (first_least numbers xs) → xs ≡ []
empty_by numbers [] is = refl
empty_by numbers (x ∷ xs) is = absurd (cc)

-- the first item is least
pub first_kept : {A : Type 0} (numbers : A → List ℕ) (xs found : List A) (z : A) → AreLeastBy numbers xs None found → AreLeastBy numbers (xs ++ z ∷ []) (Some (numbers z)) (z ∷ [])
first_kept numbers xs found z are = rw (empty_by numbers xs are.lowest) (record { items = sym (alone numbers z); lowest = refl })

-- an item below the least is kept alone
pub below_kept : {A : Type 0} (numbers : A → List ℕ) (xs found : List A) (ns : List ℕ) (z : A) → AreLeastBy numbers xs (Some ns) found → comes_before (numbers z) ns ≡ true → AreLeastBy numbers (xs ++ z ∷ []) (Some (numbers z)) (z ∷ [])
below_kept numbers xs found ns z are before =
    let y = first_by numbers ns (first_least numbers xs) are.lowest in
    let less : is_less numbers z y.0 ≡ true = rw y.2 before in
    record {
      items = sym (below_alone numbers xs y.0 z y.1 less);
      lowest = sym (ap (option_map numbers) (rw less at (next_least numbers xs y.0 z y.1)));
    }

-- one above it is passed over
pub above_passed : {A : Type 0} (numbers : A → List ℕ) (xs found : List A) (ns : List ℕ) (z : A) → AreLeastBy numbers xs (Some ns) found → comes_before ns (numbers z) ≡ true → AreLeastBy numbers (xs ++ z ∷ []) (Some ns) found
above_passed numbers xs found ns z are before =
    let y = first_by numbers ns (first_least numbers xs) are.lowest in
    let more : is_less numbers y.0 z ≡ true = rw y.2 before in
    let not_less : is_less numbers z y.0 ≡ false = (order numbers).one_way y.0 z more in
    record {
      items = are.items ∙ sym (joined numbers xs y.0 z y.1 not_less ∙ rw more (append-nil (all_least numbers xs)));
      lowest = sym (ap (option_map numbers) (rw not_less at (next_least numbers xs y.0 z y.1)) ∙ ap Some y.2);
    }

-- and one of the same numbers joins the others
pub equal_joins : {A : Type 0} (numbers : A → List ℕ) (xs found : List A) (ns : List ℕ) (z : A) → AreLeastBy numbers xs (Some ns) found → numbers z ≡ ns → AreLeastBy numbers (xs ++ z ∷ []) (Some ns) (found ++ z ∷ [])
equal_joins numbers xs found ns z are same =
    let y = first_by numbers ns (first_least numbers xs) are.lowest in
    let not_less : is_less numbers z y.0 ≡ false = rw (same ∙ sym y.2) (not_itself numbers y.0) in
    let not_more : is_less numbers y.0 z ≡ false = rw (same ∙ sym y.2) (not_itself numbers y.0) in
    record {
      items = ap (λ ws. ws ++ z ∷ []) are.items ∙ sym (joined numbers xs y.0 z y.1 not_less ∙ rw not_more refl);
      lowest = sym (ap (option_map numbers) (rw not_less at (next_least numbers xs y.0 z y.1)) ∙ ap Some y.2);
    }

-- the items of a list that are least by two kinds of numbers are found by one kind after the other: y is the first of them, x the first by the first kind
record AreInTurn {A : Type 0} (front rest : A → List ℕ) (xs : List A) : Type 0 where
  pub x : A
  pub y : A
  pub lightest : first_least front xs ≡ Some x
  pub same : front y ≡ front x
  pub first : first_least (then_by front rest) xs ≡ Some y
  pub second : first_least rest (all_least front xs) ≡ Some y
  pub head : slice_get (all_least (then_by front rest) xs) 0 ≡ Some y
  pub items : all_least (then_by front rest) xs ≡ all_least rest (all_least front xs)

-- where an item comes before all by the first kind
in_turn_below : {A : Type 0} (front rest : A → List ℕ) → ((x y : A) → length (front x) ≡ length (front y)) → (xs : List A) (z : A) → (on : AreInTurn front rest xs) → is_less front z on.x ≡ true → AreInTurn front rest (xs ++ z ∷ [])
in_turn_below front rest even xs z on less =
    let both = then_by front rest in
    let less_both : is_less both z on.y ≡ true = front_decides (front z) (front on.y) (rest z) (rest on.y) (even z on.y) (rw on.same less) in
    let fronts = below_alone front xs on.x z on.lightest less in
    let all = below_alone both xs on.y z on.first less_both in
    record {
      x = z;
      y = z;
      lightest = rw less at (next_least front xs on.x z on.lightest);
      same = refl;
      first = rw less_both at (next_least both xs on.y z on.first);
      second = ap (first_least rest) fronts;
      head = ap (λ ws. slice_get ws 0) all;
      items = all ∙ sym (ap (all_least rest) fronts ∙ alone rest z);
    }

-- where it comes behind the least by the first kind
in_turn_above : {A : Type 0} (front rest : A → List ℕ) → ((x y : A) → length (front x) ≡ length (front y)) → (xs : List A) (z : A) → (on : AreInTurn front rest xs) → is_less front on.x z ≡ true → AreInTurn front rest (xs ++ z ∷ [])
in_turn_above front rest even xs z on more =
    let both = then_by front rest in
    let not_less : is_less front z on.x ≡ false = (order front).one_way on.x z more in
    let more_both : is_less both on.y z ≡ true = front_decides (front on.y) (front z) (rest on.y) (rest z) (even on.y z) (rw on.same more) in
    let not_less_both : is_less both z on.y ≡ false = (order both).one_way on.y z more_both in
    let fronts : all_least front (xs ++ z ∷ []) ≡ all_least front xs = joined front xs on.x z on.lightest not_less ∙ rw more (append-nil (all_least front xs)) in
    let all : all_least both (xs ++ z ∷ []) ≡ all_least both xs = joined both xs on.y z on.first not_less_both ∙ rw more_both (append-nil (all_least both xs)) in
    record {
      x = on.x;
      y = on.y;
      lightest = rw not_less at (next_least front xs on.x z on.lightest);
      same = on.same;
      first = rw not_less_both at (next_least both xs on.y z on.first);
      second = ap (first_least rest) fronts ∙ on.second;
      head = ap (λ ws. slice_get ws 0) all ∙ on.head;
      items = all ∙ on.items ∙ sym (ap (all_least rest) fronts);
    }

still_first : {A : Type 0} (xs ys : List A) (y : A) → slice_get xs 0 ≡ Some y → slice_get (xs ++ ys) 0 ≡ Some y
still_first [] ys y is = absurd (cc)
still_first (x ∷ xs) ys y is = is

-- and where it is the same by it, the second kind tells
in_turn_equal : {A : Type 0} (front rest : A → List ℕ) (xs : List A) (z : A) → (on : AreInTurn front rest xs) → is_less front z on.x ≡ false → is_less front on.x z ≡ false → AreInTurn front rest (xs ++ z ∷ [])
in_turn_equal {A = A} front rest xs z on not_less not_more = by (is_less rest z on.y) refl
  where
    both : A → List ℕ
    both = then_by front rest

    fronts : all_least front (xs ++ z ∷ []) ≡ all_least front xs ++ z ∷ []
    fronts = joined front xs on.x z on.lightest not_less ∙ rw not_more refl

    even : front z ≡ front on.y
    even = neither (front z) (front on.x) not_less not_more ∙ sym on.same

    tells : is_less both z on.y ≡ is_less rest z on.y
    tells = ap (λ ns. comes_before (ns ++ rest z) (front on.y ++ rest on.y)) even ∙ rest_decides (front on.y) (rest z) (rest on.y)

    tells_back : is_less both on.y z ≡ is_less rest on.y z
    tells_back = ap (λ ns. comes_before (front on.y ++ rest on.y) (ns ++ rest z)) even ∙ rest_decides (front on.y) (rest on.y) (rest z)

    lightest : first_least front (xs ++ z ∷ []) ≡ Some on.x
    lightest = rw not_less at (next_least front xs on.x z on.lightest)

    by : (b : Bool) → is_less rest z on.y ≡ b → AreInTurn front rest (xs ++ z ∷ [])
    by true less =
        let all = below_alone both xs on.y z on.first (tells ∙ less) in
        record {
          x = on.x;
          y = z;
          lightest = lightest;
          same = even ∙ on.same;
          first = rw (tells ∙ less) at (next_least both xs on.y z on.first);
          second = ap (first_least rest) fronts ∙ (rw less at (next_least rest (all_least front xs) on.y z on.second));
          head = ap (λ ws. slice_get ws 0) all;
          items = all ∙ sym (ap (all_least rest) fronts ∙ below_alone rest (all_least front xs) on.y z on.second less);
        }
    by false least =
        let more = λ (ws : List A) (b : Bool). ws ++ cond (not b) (z ∷ []) [] in
        let all = joined both xs on.y z on.first (tells ∙ least) in
        record {
          x = on.x;
          y = on.y;
          lightest = lightest;
          same = on.same;
          first = rw (tells ∙ least) at (next_least both xs on.y z on.first);
          second = ap (first_least rest) fronts ∙ (rw least at (next_least rest (all_least front xs) on.y z on.second));
          head = ap (λ ws. slice_get ws 0) all ∙ still_first (all_least both xs) _ on.y on.head;
          items = all ∙ ap (more (all_least both xs)) tells_back ∙ ap (λ ws. more ws (is_less rest on.y z)) on.items ∙ sym (ap (all_least rest) fronts ∙ joined rest (all_least front xs) on.y z on.second least);
        }

-- so one item more
in_turn_next : {A : Type 0} (front rest : A → List ℕ) → ((x y : A) → length (front x) ≡ length (front y)) → (xs : List A) (z : A) → AreInTurn front rest xs → AreInTurn front rest (xs ++ z ∷ [])
in_turn_next front rest even xs z on = by (is_less front z on.x) (is_less front on.x z) refl refl
  where
    by : (b c : Bool) → is_less front z on.x ≡ b → is_less front on.x z ≡ c → AreInTurn front rest (xs ++ z ∷ [])
    by true c less more = in_turn_below front rest even xs z on less
    by false true not_less more = in_turn_above front rest even xs z on more
    by false false not_less not_more = in_turn_equal front rest xs z on not_less not_more

in_turn_from : {A : Type 0} (front rest : A → List ℕ) → ((x y : A) → length (front x) ≡ length (front y)) → (xs zs : List A) → AreInTurn front rest xs → AreInTurn front rest (xs ++ zs)
in_turn_from front rest even xs [] on = subst (AreInTurn front rest) (sym (append-nil xs)) on
in_turn_from front rest even xs (z ∷ zs) on = subst (AreInTurn front rest) (append_assoc xs (z ∷ []) zs) (in_turn_from front rest even (xs ++ z ∷ []) zs (in_turn_next front rest even xs z on))

in_turn : {A : Type 0} (front rest : A → List ℕ) → ((x y : A) → length (front x) ≡ length (front y)) → (x : A) (xs : List A) → AreInTurn front rest (x ∷ xs)
in_turn front rest even x xs =
    in_turn_from front rest even (x ∷ []) xs
    (record {
      x = x;
      y = x;
      lightest = refl;
      same = refl;
      first = refl;
      second = ap (first_least rest) (alone front x);
      head = ap (λ ws. slice_get ws 0) (alone (then_by front rest) x);
      items = alone (then_by front rest) x ∙ sym (ap (all_least rest) (alone front x) ∙ alone rest x);
    })

-- the least of a list by two kinds of numbers are the least by the second kind among those that are least by the first
pub least_in_turn : {A : Type 0} (front rest : A → List ℕ) → ((x y : A) → length (front x) ≡ length (front y)) → (xs : List A) → all_least rest (all_least front xs) ≡ all_least (then_by front rest) xs
least_in_turn front rest even [] = refl
least_in_turn front rest even (x ∷ xs) = sym (in_turn front rest even x xs).items

-- and the first of them is the first least by both
pub first_in_turn : {A : Type 0} (front rest : A → List ℕ) → ((x y : A) → length (front x) ≡ length (front y)) → (xs : List A) → slice_get (all_least rest (all_least front xs)) 0 ≡ first_least (then_by front rest) xs
first_in_turn front rest even [] = refl
first_in_turn front rest even (x ∷ xs) =
    let on = in_turn front rest even x xs in
    ap (λ ws. slice_get ws 0) (sym on.items) ∙ on.head ∙ sym on.first
