-- The least choice, as one subpart after the other is settled.
use Rattle.std.proofs.Common.{◌≡◌, ◌≢◌, ℕ, ◌+◌, ◌<◌, ◌≤◌, Bool, true, false, List, Some, get_or, length, take, arith, refl, sym, ◌∙◌, inl, inr, ◌⊎◌}
use Rattle.std.specs.Prelude.{All, IfSome, slice_get, slice_index_or}
use Rattle.std.proofs.lemmas.List.{get_or-take}
use Rattle.std.proofs.lemmas.Option.{slice_get-get_or}
use Rattle.tt_base.specs.Lists.{comes_before}
use Rattle.tt_problem.specs.declared.parts.Span.{Span}
use Rattle.tt_problem.specs.Spans.{is_in}
use Rattle.tt_least.specs.declared.table.Table.{Table}
use Rattle.tt_least.specs.declared.search.Search.{Search}
use Rattle.tt_least.specs.Judged.{IsTable, is_allowed, is_flagged, pairs_in}
use Rattle.tt_least.specs.Nodes.{HasPlaces, IsLeft}
use Rattle.tt_least.specs.Results.{IsLeast, IsReady, IsWithin}
use Rattle.tt_least.specs.Searches.{IsAlone, IsReadyToSearch, IsSettled, found_in}
use Rattle.tt_least.proofs.ChoiceLemmas.{choice-at, choice-long, within-span}
use Rattle.tt_least.proofs.OptionLemmas.{some-at}
use Rattle.tt_least.proofs.SettleLemmas.{all-at, alone-class, alone-keeps, alone-within, later-not-before, same-not-before, same-or-not}

-- there is still room for a search after one, where the lists by class are as long as before
pub ready-after : (t : Table) (old new : Search) → IsReadyToSearch t old → IsReady t new.scratch → All (HasPlaces t.size) new.levels.items
    → length new.levels.items ≡ length old.levels.items → length new.left.items ≡ length old.left.items → length new.trial.items ≡ length old.trial.items → IsReadyToSearch t new
ready-after t old new before ready levels deep left trial = record {
  room = record {
    few = before.room.few;
    levels = levels;
    deep = omega (arith, before.room.deep, deep);
    groups = λ k d below. (ready.groups k d below).room;
    costs = ready.costs;
    leasts = ready.leasts;
    front = ready.front;
    best = ready.best;
    left = left ∙ before.room.left;
    trial = trial ∙ before.room.trial;
  };
  ready = ready;
}

-- a class of a choice of what is left is left
pub choice-left : (t : Table) (left : List Bool) (choice : List ℕ) (k : ℕ) → k < length t.subparts.now → IsLeft t left choice
    → is_flagged t left (slice_index_or choice k 0) ≡ true
choice-left t left choice k some those =
    all-at (is_flagged t left) choice k 0 (omega (arith, some, choice-long t.subparts.now choice those.one_of_each)) those.are_left

-- the choice is as another one up to a place before a bound, where its class is a later one
pub record IsLater (k : ℕ) (best choice : List ℕ) : Type 0 where
  pub place : ℕ
  pub below : place < k
  pub same : (j : ℕ) → j < place → get_or choice j 0 ≡ get_or best j 0
  pub greater : get_or best place 0 < get_or choice place 0

-- of so many subparts the classes of the best are left alone, and what is sought of what was left at first is left, or is later
pub record AreSettled (t : Table) (k limit : ℕ) (first now : List Bool) (best : List ℕ) : Type 0 where
  pub alone : (choice : List ℕ) → IsLeft t now choice → (j : ℕ) → j < k → get_or choice j 0 ≡ get_or best j 0
  pub within : (choice : List ℕ) → IsLeft t now choice → IsLeft t first choice
  pub others : (choice : List ℕ) → IsWithin t first limit choice → IsLeft t now choice ⊎ IsLater k best choice

module _ (t : Table) (k limit : ℕ) (s : Span) (first now new : List Bool) (best found : List ℕ) (table : IsTable t) (some : k < length t.subparts.now)
    (at : slice_get t.subparts.now k ≡ Some s) (settled : AreSettled t k limit first now best) (left : IsLeft t now found)
    (alone : IsAlone t.first s (slice_index_or found k 0) now new)
    (least : (choice : List ℕ) → IsWithin t now limit choice → slice_index_or found k 0 ≤ slice_index_or choice k 0) where
  -- the classes of the subparts before stay the same
  before-same : (j : ℕ) → j < k → get_or best j 0 ≡ get_or found j 0
  before-same j below = sym (settled.alone found left j below)

  -- a choice that was later is later
  still-later : (choice : List ℕ) → IsLater k best choice → IsLater (k + 1) found choice
  still-later choice later = record {
    place = later.place;
    below = omega (arith, later.below);
    same = λ j before. later.same j before ∙ before-same j (omega (arith, later.below, before));
    greater = omega (arith, later.greater, before-same later.place later.below);
  }

  -- a choice that was left is left, or is later from this subpart on
  left-or-later : (choice : List ℕ) → IsWithin t first limit choice → IsLeft t now choice → IsLeft t new choice ⊎ IsLater (k + 1) found choice
  left-or-later choice within those = elim (same-or-not (slice_index_or choice k 0) (slice_index_or found k 0)) [
    | inl same ↦ inl (alone-keeps t k (slice_index_or found k 0) s now new table at alone choice those same)
    | inr other ↦ inr (later other)
  ]
    where
      still : IsWithin t now limit choice
      still = record { is_left = those; allowed = within.allowed; few = within.few }

      later : slice_index_or choice k 0 ≢ slice_index_or found k 0 → IsLater (k + 1) found choice
      later other = record {
        place = k;
        below = omega arith;
        same = λ j before. settled.alone choice those j before ∙ before-same j before;
        greater = omega (arith, other, least choice still);
      }

  -- one more subpart is settled
  pub one-settled : AreSettled t (k + 1) limit first new found
  one-settled = record {
    alone = λ choice those j below. each choice those j below;
    within = λ choice those. settled.within choice (alone-within t k (slice_index_or found k 0) s now new table at alone choice those);
    others = λ choice within. elim (settled.others choice within) [
      | inl those ↦ left-or-later choice within those
      | inr later ↦ inr (still-later choice later)
    ];
  }
    where
      each : (choice : List ℕ) → IsLeft t new choice → (j : ℕ) → j < k + 1 → get_or choice j 0 ≡ get_or found j 0
      each choice those j below = elim (same-or-not j k) [
        | inl here ↦ rw here (alone-class t k (slice_index_or found k 0) s now new table at alone choice some those)
        | inr other ↦ settled.alone choice (alone-within t k (slice_index_or found k 0) s now new table at alone choice those) j (omega (arith, below, other)) ∙ before-same j (omega (arith, below, other))
      ]

-- where each subpart is settled, the best is the least
pub all-settled : (t : Table) (k limit : ℕ) (first now : List Bool) (best : List ℕ) → k ≡ length t.subparts.now → AreSettled t k limit first now best → IsWithin t now limit best
    → ((choice : List ℕ) → IsLeft t first choice → is_allowed t choice ≡ true → limit ≤ pairs_in t choice) → IsLeast t first best
all-settled t k limit first now best whole settled found fewest = record {
  is_left = settled.within best found.is_left;
  allowed = found.allowed;
  least = λ other left allowed. omega (arith, found.few, fewest other left allowed);
  first = λ other left allowed few. no-earlier other (record { is_left = left; allowed = allowed; few = omega (arith, few, found.few) });
}
  where
    long : length best ≡ length t.subparts.now
    long = choice-long t.subparts.now best found.is_left.one_of_each

    no-earlier : (other : List ℕ) → IsWithin t first limit other → comes_before other best ≡ false
    no-earlier other within =
        let as-long : length other ≡ length t.subparts.now = choice-long t.subparts.now other within.is_left.one_of_each in
        elim (settled.others other within) [
          | inl those ↦ same-not-before best other (as-long ∙ sym long) (λ j below. settled.alone other those j (omega (arith, below, long, whole)))
          | inr later ↦ later-not-before best other later.place (omega (arith, later.below, long, whole)) (omega (arith, later.below, as-long, whole)) later.same later.greater
        ]

-- a choice of what is left once a class is left alone, with so many pairs or fewer, is one of what was left before
pub alone-sought : (t : Table) (k c limit : ℕ) (s : Span) (old new : List Bool) → IsTable t → slice_get t.subparts.now k ≡ Some s → IsAlone t.first s c old new
    → (choice : List ℕ) → IsWithin t new limit choice → IsWithin t old limit choice
alone-sought t k c limit s old new table at alone choice within =
    record { is_left = alone-within t k c s old new table at alone choice within.is_left; allowed = within.allowed; few = within.few }

-- the span that is read where there is no subpart
abbrev pub no-span : Span
no-span = record { first = 0; after = 0 }

-- the class of what is found is in its subpart
pub found-inside : (t : Table) (left : List Bool) (best : List ℕ) (k : ℕ) (d : Span) → k < length t.subparts.now → IsLeft t left (take (length t.subparts.now) best)
    → is_in (slice_index_or best k 0) (slice_index_or t.subparts.now k d) ≡ true
found-inside t left best k d some those =
    let s = slice_index_or t.subparts.now k d in
    let front = take (length t.subparts.now) best in
    let bounds = choice-at t.subparts.now front k s those.one_of_each (slice_get-get_or t.subparts.now k d some) in
    let same : get_or front k 0 ≡ get_or best k 0 = get_or-take (length t.subparts.now) best k 0 some in
    within-span (get_or best k 0) s (omega (arith, same, bounds.0)) (omega (arith, same, bounds.1))

-- a class that is in the subpart at a place is in the one that is read there
pub inside-read : (t : Table) (k c : ℕ) (d : Span) → k < length t.subparts.now → IfSome (slice_get t.subparts.now k) (λ s. is_in c s ≡ true)
    → is_in c (slice_index_or t.subparts.now k d) ≡ true
inside-read t k c d some inside = rw (slice_get-get_or t.subparts.now k d some) at inside

-- a subpart is settled where the class of what is found is left alone
pub settled-by : (t : Table) (k c limit : ℕ) (d : Span) (before after : List Bool) (old new : Search) → k < length t.subparts.now → IsWithin t old.left.items limit (found_in t new)
    → ((choice : List ℕ) → IsWithin t old.left.items limit choice → slice_index_or new.scratch.best.items k 0 ≤ slice_index_or choice k 0)
    → c ≡ slice_index_or new.scratch.best.items k 0 → before ≡ old.left.items → after ≡ new.left.items
    → IsAlone t.first (slice_index_or t.subparts.now k d) c before after → IsSettled t k limit old new
settled-by t k c limit d before after old new some found first class was is alone = record {
  alone = some-at (slice_get t.subparts.now k) s (λ (x : Span). IsAlone t.first x (slice_index_or new.scratch.best.items k 0) old.left.items new.left.items)
      (slice_get-get_or t.subparts.now k d some) here;
  first = λ choice left allowed few. first choice (record { is_left = left; allowed = allowed; few = few });
  within = found.is_left;
}
  where
    s : Span
    s = slice_index_or t.subparts.now k d

    here : IsAlone t.first (slice_index_or t.subparts.now k d) (slice_index_or new.scratch.best.items k 0) old.left.items new.left.items
    here = rw (sym class, sym was, sym is) alone

-- the class of what is found is left alone
found-alone : (t : Table) (k limit : ℕ) (d : Span) (old new : Search) → k < length t.subparts.now → IsSettled t k limit old new
    → IsAlone t.first (slice_index_or t.subparts.now k d) (slice_index_or (found_in t new) k 0) old.left.items new.left.items
found-alone t k limit d old new some settled =
    rw (get_or-take (length t.subparts.now) new.scratch.best.items k 0 some) (rw (slice_get-get_or t.subparts.now k d some) at settled.alone)

-- what is found is left once the subpart is settled
pub found-settled : (t : Table) (k limit : ℕ) (old new : Search) → IsTable t → k < length t.subparts.now → IsSettled t k limit old new
    → IsWithin t old.left.items limit (found_in t new) → IsWithin t new.left.items limit (found_in t new)
found-settled t k limit old new table some settled found = record {
  is_left = alone-keeps t k (slice_index_or (found_in t new) k 0) (slice_index_or t.subparts.now k no-span) old.left.items new.left.items table
      (slice_get-get_or t.subparts.now k no-span some) (found-alone t k limit no-span old new some settled) (found_in t new) found.is_left refl;
  allowed = found.allowed;
  few = found.few;
}

-- one more subpart is settled by a search
pub step-settled : (t : Table) (k limit : ℕ) (first : List Bool) (old new : Search) → IsTable t → k < length t.subparts.now
    → AreSettled t k limit first old.left.items (found_in t old) → IsSettled t k limit old new → AreSettled t (k + 1) limit first new.left.items (found_in t new)
step-settled t k limit first old new table some before settled =
    one-settled t k limit (slice_index_or t.subparts.now k no-span) first old.left.items new.left.items (found_in t old) (found_in t new) table some
    (slice_get-get_or t.subparts.now k no-span some) before settled.within (found-alone t k limit no-span old new some settled)
    (λ choice within. rw (get_or-take (length t.subparts.now) new.scratch.best.items k 0 some) (settled.first choice within.is_left within.allowed within.few))
