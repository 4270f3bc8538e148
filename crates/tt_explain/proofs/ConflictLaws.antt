-- The conflicting pairs of all students, by class and by pair of classes.
use Rattle.std.proofs.Common.{◌≡◌, ◌≢◌, ◌∙◌, ℕ, ◌+◌, ◌*◌, Bool, true, false, cond, List, [], ◌∷◌, Option, Some, None, length, refl, sym, ap, arith, inl, inr}
use Rattle.std.specs.Prelude.{◌<◌, ◌==◌, sum_by, slice_set, All, IfSome}
use Rattle.std.specs.List.{range_with_len}
use Rattle.std.specs.Option.{option_map_or}
use Rattle.std.proofs.lemmas.Bool.{cases_eq, cases_lt, eq-eqb, ne_eqb}
use Rattle.std.proofs.lemmas.List.{length-set, get_or-set_same, get_or-set_other, get_or_past}
use Rattle.std.proofs.lemmas.List.Sums.{sum_by-cons}
use Rattle.tt_base.specs.Lists.{is_listed}
use Rattle.tt_bits.specs.declared.times.Spot.{Spot}
use Rattle.tt_bits.specs.Spots.{spot_at}
use Rattle.tt_travel.specs.Table.{Table, IsRoomOf, IsTravel}
use Rattle.tt_roster.specs.Lists.{Ascends}
use Rattle.tt_roster.specs.Joint.{joint_students}
use Rattle.tt_roster.specs.Meetings.{met_in}
use Rattle.tt_roster.specs.Conflicts.{are_in_conflict, conflicts_in, student_conflicts, class_conflicts}
use Rattle.tt_roster.proofs.TimeLemmas.{in_conflict-sym, in_conflict-none}
use Rattle.tt_roster.proofs.ListLemmas.{has-below}
use Rattle.tt_roster.proofs.ConflictLemmas.{count-other}
use Rattle.tt_roster.proofs.JointLemmas.{joint-lists}
use Rattle.tt_verify.specs.Pairs.{pairs_with, related_pairs}
use Rattle.tt_verify.proofs.SumLemmas.{pair_sum, square_is}
use Rattle.tt_explain.specs.Pairs.{times_in}
use Rattle.tt_explain.proofs.PairLemmas.{times_more, times_parted}
use Rattle.tt_explain.proofs.SumLemmas.{sum-none, sum-alike, sum-agree, sum-twice, sum-turned, sum-cond, sum-listed}

module _ (t : Table) (h : List (Option Spot)) where
  -- 1 where two classes are in conflict, which a class never is with itself
  abbrev near : ℕ → ℕ → ℕ
  near c d = cond (are_in_conflict t (spot_at h c) (spot_at (slice_set h c None) d)) 1 0

  abbrev conflicting : ℕ → ℕ → Bool
  conflicting c d = are_in_conflict t (spot_at h c) (spot_at h d)

  zero_both : (b : Bool) → cond {A = ℕ} b 0 0 ≡ 0
  zero_both true = refl
  zero_both false = refl

  gone : (c : ℕ) → spot_at (slice_set h c None) c ≡ None
  gone c = elim (cases_lt c (length h)) [
    | inl inside ↦ get_or-set_same h c None None inside
    | inr past ↦ get_or_past (slice_set h c None) c None (omega (arith, past, length-set h c None))
  ]

  near-itself : (c : ℕ) → near c c ≡ 0
  near-itself c =
      ap (λ (s : Option Spot). cond (are_in_conflict t (spot_at h c) s) 1 0) (gone c)
      ∙ ap (λ (b : Bool). cond b 1 0) (in_conflict-none t (spot_at h c))

  near-other : (c d : ℕ) → c ≢ d → near c d ≡ cond (are_in_conflict t (spot_at h c) (spot_at h d)) 1 0
  near-other c d apart =
      ap (λ (s : Option Spot). cond (are_in_conflict t (spot_at h c) s) 1 0) (get_or-set_other h c d None None (λ e. apart (sym e)))

  near-unplaced : (c d : ℕ) → spot_at h c ≡ None → near c d ≡ 0
  near-unplaced c d none = rw none refl

  module _ (sound : IsTravel t) (rooms : (c : ℕ) → IfSome (spot_at h c) (λ x. IsRoomOf t x.room)) where
    turned : (o o' : Option Spot) → IfSome o (λ x. IsRoomOf t x.room) → IfSome o' (λ x. IsRoomOf t x.room) → are_in_conflict t o o' ≡ are_in_conflict t o' o
    turned None o' room room' = sym (in_conflict-none t o')
    turned (Some x) o' room room' = in_conflict-sym t x o' sound room room'

    near-symmetric : (c d : ℕ) → near c d ≡ near d c
    near-symmetric c d = elim (cases_eq c d) [
      | inl same ↦ rw same refl
      | inr apart ↦
          near-other c d apart ∙ ap (λ (b : Bool). cond b 1 0) (turned (spot_at h c) (spot_at h d) (rooms c) (rooms d))
          ∙ sym (near-other d c (λ e. apart (sym e)))
    ]

    -- the pairs of a class with later ones are at itself
    own-near : (c from after : ℕ) (list : List ℕ) → c < from → Ascends from after list → times_in c (pairs_with conflicting c list) ≡ sum_by (near c) list
    own-near c from after [] low up = refl
    own-near c from after (d ∷ list) low up =
        let apart : c ≢ d = λ e. absurd (omega (arith, e, low, up.0)) in
        let more = times_more conflicting c c (d ∷ list) list d refl in
        let here : cond {A = ℕ} (conflicting c d) (cond (c == c) 1 0 + cond (d == c) 1 0) 0 ≡ near c d = rw (eq-eqb c c refl, ne_eqb d c (λ e. apart (sym e))) (sym (near-other c d apart)) in
        omega (arith, more, here, own-near c (d + 1) after list (omega (arith, low, up.0)) up.2, sum_by-cons (near c) d list)

    -- and at each later one that conflicts with it
    others-near : (c x from after : ℕ) (list : List ℕ) → c ≢ x → Ascends from after list → times_in x (pairs_with conflicting c list) ≡ cond (is_listed x list) (near x c) 0
    others-near c x from after [] apart up = refl
    others-near c x from after (d ∷ list) apart up =
        let more = times_more conflicting c x (d ∷ list) list d refl in
        let rest = others-near c x (d + 1) after list apart up.2 in
        elim (cases_eq x d) [
          | inl same ↦
              let lacks : is_listed x list ≡ false = rw same (has-below d (d + 1) after list up.2 (omega arith)) in
              let none : times_in x (pairs_with conflicting c list) ≡ 0 = rest ∙ ap (λ (b : Bool). cond b (near x c) 0) lacks in
              let here : cond {A = ℕ} (conflicting c d) (cond (c == x) 1 0 + cond (d == x) 1 0) 0 ≡ near x c =
              rw (ne_eqb c x apart, eq-eqb d x (sym same)) (ap (λ k. cond {A = ℕ} (conflicting c k) 1 0) (sym same) ∙ sym (near-other c x apart) ∙ near-symmetric c x) in
              let there : is_listed x (d ∷ list) ≡ true = rw (eq-eqb x d same) refl in
              more ∙ omega (arith, here, none) ∙ sym (ap (λ (b : Bool). cond b (near x c) 0) there)
          | inr differs ↦
              let here : cond {A = ℕ} (conflicting c d) (cond (c == x) 1 0 + cond (d == x) 1 0) 0 ≡ 0 = rw (ne_eqb c x apart, ne_eqb d x (λ e. differs (sym e))) (zero_both (conflicting c d)) in
              let there : is_listed x (d ∷ list) ≡ is_listed x list = rw (ne_eqb x d differs) refl in
              more ∙ omega (arith, here, rest) ∙ sym (ap (λ (b : Bool). cond b (near x c) 0) there)
        ]

    -- so each class of a list is in its conflicting pairs as often as it conflicts with another
    list-near : (x from after : ℕ) (list : List ℕ) → Ascends from after list → times_in x (related_pairs conflicting list) ≡ cond (is_listed x list) (sum_by (near x) list) 0
    list-near x from after [] up = refl
    list-near x from after (c ∷ list) up =
        let parted = times_parted conflicting x (c ∷ list) list c refl in
        let rest = list-near x (c + 1) after list up.2 in
        let sum = sum_by-cons (near x) c list in
        elim (cases_eq x c) [
          | inl same ↦
              let lacks : is_listed x list ≡ false = rw same (has-below c (c + 1) after list up.2 (omega arith)) in
              let none : times_in x (related_pairs conflicting list) ≡ 0 = rest ∙ ap (λ (b : Bool). cond b (sum_by (near x) list) 0) lacks in
              let own : times_in x (pairs_with conflicting c list) ≡ sum_by (near x) list = rw same (own-near c (c + 1) after list (omega arith) up.2) in
              let itself : near x c ≡ 0 = rw same (near-itself c) in
              let there : is_listed x (c ∷ list) ≡ true = rw (eq-eqb x c same) refl in
              parted ∙ omega (arith, own, none, sum, itself) ∙ sym (ap (λ (b : Bool). cond b (sum_by (near x) (c ∷ list)) 0) there)
          | inr apart ↦
              let others = others-near c x (c + 1) after list (λ e. apart (sym e)) up.2 in
              let there : is_listed x (c ∷ list) ≡ is_listed x list = rw (ne_eqb x c apart) refl in
              parted ∙ omega (arith, others, rest, both (is_listed x list) (near x c) (sum_by (near x) list)) ∙ ap (λ n. cond {A = ℕ} (is_listed x list) n 0) (sym sum)
              ∙ sym (ap (λ (b : Bool). cond b (sum_by (near x) (c ∷ list)) 0) there)
        ]
      where
        both : (b : Bool) (m n : ℕ) → cond {A = ℕ} b m 0 + cond b n 0 ≡ cond b (m + n) 0
        both true m n = refl
        both false m n = refl

  -- the pairs of a list that ascends
  pairs-near : (from after : ℕ) (list : List ℕ) → Ascends from after list → pair_sum near list ≡ conflicts_in t h list
  pairs-near from after [] up = refl
  pairs-near from after (c ∷ list) up =
      let lacks : is_listed c list ≡ false = has-below c (c + 1) after list up.2 (omega arith) in
      omega (arith, count-other (are_in_conflict t (spot_at h c)) h c None list lacks, pairs-near (c + 1) after list up.2)

  -- the conflicting pairs with a class, over the lists that have it
  with-class : (seats : List (List ℕ)) (c : ℕ) → option_map_or (class_conflicts t h seats c) (spot_at h c) 0 ≡ sum_by (λ list. cond (is_listed c list) (sum_by (near c) list) 0) seats
  with-class seats c = by (spot_at h c) refl
    where
      by : (o : Option Spot) → spot_at h c ≡ o → option_map_or (class_conflicts t h seats c) o 0 ≡ sum_by (λ list. cond (is_listed c list) (sum_by (near c) list) 0) seats
      by (Some x) is = rw is refl
      by None is =
          sym (sum-none (λ (list : List ℕ). cond (is_listed c list) (sum_by (near c) list) 0) seats
          (λ list. ap (λ (n : ℕ). cond (is_listed c list) n 0) (sum-none (near c) list (λ d. near-unplaced c d is)) ∙ zero_both (is_listed c list)))

module _ (t : Table) (h : List (Option Spot)) (n : ℕ) (seats : List (List ℕ)) (up : All (Ascends 0 n) seats) where
  -- Over all classes each pair is counted at both of its classes.
  pub conflicts-by_class : IsTravel t → ((c : ℕ) → IfSome (spot_at h c) (λ x. IsRoomOf t x.room))
      → sum_by (λ c. option_map_or (class_conflicts t h seats c) (spot_at h c) 0) (range_with_len 0 n) ≡ 2 * student_conflicts t h seats
  conflicts-by_class sound rooms =
      let at : ℕ → List ℕ → ℕ = λ c list. cond (is_listed c list) (sum_by (near t h c) list) 0 in
      sum-alike (λ c. option_map_or (class_conflicts t h seats c) (spot_at h c) 0) (λ c. sum_by (at c) seats) (range_with_len 0 n) (with-class t h seats)
      ∙ sum-turned at (range_with_len 0 n) seats
      ∙ sum-agree (Ascends 0 n) (λ list. sum_by (λ c. at c list) (range_with_len 0 n)) (λ list. 2 * conflicts_in t h list) seats up one_list
      ∙ sum-twice (conflicts_in t h) seats
    where
      one_list : (list : List ℕ) → Ascends 0 n list → sum_by (λ c. cond (is_listed c list) (sum_by (near t h c) list) 0) (range_with_len 0 n) ≡ 2 * conflicts_in t h list
      one_list list ascends =
          let all = sum-listed (λ c. sum_by (near t h c) list) 0 n n list (omega arith) ascends in
          omega (arith, all, square_is (near t h) (near-symmetric t h sound rooms) list, sum-none (λ c. near t h c c) list (near-itself t h), pairs-near t h 0 n list ascends)

  -- Over the pairs of all students each class is counted as often as it is in one.
  pub pairs-by_class : IsTravel t → ((c : ℕ) → IfSome (spot_at h c) (λ x. IsRoomOf t x.room)) → (class : ℕ)
      → sum_by (λ list. times_in class (related_pairs (conflicting t h) list)) seats ≡ option_map_or (class_conflicts t h seats class) (spot_at h class) 0
  pairs-by_class sound rooms class =
      sum-agree (Ascends 0 n) (λ list. times_in class (related_pairs (conflicting t h) list)) (λ list. cond (is_listed class list) (sum_by (near t h class) list) 0) seats up
      (λ list ascends. list-near t h sound rooms class 0 n list ascends)
      ∙ sym (with-class t h seats class)

  -- Over the other classes, each with the students whom a class has in common with it.
  pub conflicts-by_other : (class : ℕ)
      → sum_by (λ other. cond (are_in_conflict t (spot_at h class) (spot_at h other)) (joint_students seats class other) 0) (range_with_len 0 n)
      ≡ option_map_or (class_conflicts t h seats class) (spot_at h class) 0
  conflicts-by_other class =
      let at : ℕ → List ℕ → ℕ = λ other list. cond (is_listed class list) (cond (is_listed other list) (near t h class other) 0) 0 in
      sum-alike (λ other. cond (conflicting t h class other) (joint_students seats class other) 0) (λ other. sum_by (at other) seats) (range_with_len 0 n) by_list
      ∙ sum-turned at (range_with_len 0 n) seats
      ∙ sum-agree (Ascends 0 n) (λ list. sum_by (λ other. at other list) (range_with_len 0 n)) (λ list. cond (is_listed class list) (sum_by (near t h class) list) 0) seats up
      (λ list ascends.
      sum-cond (is_listed class list) (λ other. cond (is_listed other list) (near t h class other) 0) (range_with_len 0 n)
      ∙ ap (λ (m : ℕ). cond (is_listed class list) m 0) (sum-listed (near t h class) 0 n n list (omega arith) ascends))
      ∙ sym (with-class t h seats class)
    where
      regroup : (p a b : Bool) → cond {A = ℕ} p (cond a (cond b 1 0) 0) 0 ≡ cond a (cond b (cond p 1 0) 0) 0
      regroup true a b = refl
      regroup false true true = refl
      regroup false true false = refl
      regroup false false b = refl

      nothing : (p a b : Bool) → cond {A = ℕ} p (cond a 0 0) 0 ≡ cond a (cond b 0 0) 0
      nothing true true true = refl
      nothing true true false = refl
      nothing true false b = refl
      nothing false true true = refl
      nothing false true false = refl
      nothing false false b = refl

      in_list : (other : ℕ) (list : List ℕ) → cond (conflicting t h class other) (cond (is_listed class list) (met_in list class other) 0) 0 ≡ cond (is_listed class list) (cond (is_listed other list) (near t h class other) 0) 0
      in_list other list = elim (cases_eq other class) [
        | inl same ↦ rw (same, eq-eqb class class refl, near-itself t h class) (nothing (conflicting t h class class) (is_listed class list) (is_listed class list))
        | inr apart ↦ rw (ne_eqb other class apart, near-other t h class other (λ e. apart (sym e))) (regroup (conflicting t h class other) (is_listed class list) (is_listed other list))
      ]

      by_list : (other : ℕ) → cond (conflicting t h class other) (joint_students seats class other) 0 ≡ sum_by (λ list. cond (is_listed class list) (cond (is_listed other list) (near t h class other) 0) 0) seats
      by_list other =
          ap (λ (m : ℕ). cond (conflicting t h class other) m 0) (sym (joint-lists class other seats))
          ∙ sym (sum-cond (conflicting t h class other) (λ (list : List ℕ). cond (is_listed class list) (met_in list class other) 0) seats)
          ∙ sum-alike (λ (list : List ℕ). cond (conflicting t h class other) (cond (is_listed class list) (met_in list class other) 0) 0)
          (λ list. cond (is_listed class list) (cond (is_listed other list) (near t h class other) 0) 0) seats (in_list other)
