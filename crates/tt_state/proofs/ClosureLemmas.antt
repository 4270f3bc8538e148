-- Closures that are made and lifted, and what leads back from them.
use Rattle.std.proofs.Common.{◌≡◌, ◌∙◌, ℕ, ◌+◌, ◌-◌, ◌<◌, ◌≤◌, Bool, true, false, cond, List, [], ◌∷◌, ◌++◌, Some, length, take, drop, get_or, map, zero, suc, refl, ap, sym, subst, arith, inl, inr, append_assoc, length-append, count_by}
use Rattle.std.specs.Prelude.{All, IfSome, not, ◌&&◌, ◌==◌, slice_get, slice_set}
use Rattle.std.specs.List.{list_any}
use Rattle.std.proofs.lemmas.Bool.{cases_Bool}
use Rattle.std.proofs.lemmas.Option.{get_or_from_slice_get, slice_get_within, same_Some}
use Rattle.std.proofs.lemmas.List.{length-set, map-append, length-map, length-drop, length-take-le, drop_more, take_more}
use Rattle.std.proofs.lemmas.List.Elements.{All-get_or, All-push, All-set}
use Rattle.std.proofs.lemmas.List.Sums.{sum_by-cons}
use Rattle.tt_bits.specs.declared.times.Closure.{Closure}
use Rattle.tt_bits.specs.declared.times.Time.{Time}
use Rattle.tt_clash.specs.Closures.{made, marked, relifted, without_last}
use Rattle.tt_problem.specs.declared.parts.Parts.{Parts}
use Rattle.tt_problem.specs.Valid.{IsTimeOf}
use Rattle.tt_journal.specs.declared.Entry.{Entry}
use Rattle.tt_journal.specs.declared.Entry.TheVariants.{Closed, Lifted}
use Rattle.tt_state.specs.Snapshots.{Snapshot, is_open_in, lifted_in, with_closures, with_closed, with_reopened}
use Rattle.tt_state.specs.Sound.{IsClosureOf}
use Rattle.tt_state.specs.History.{lifted_by}
use Rattle.tt_state.specs.Kept.{LeadBack}
use Rattle.tt_state.specs.Past.{LeadsTo, StandsOn}
use Rattle.tt_state.proofs.PastLemmas.{past_by}
use Rattle.tt_state.proofs.StateLemmas.{then}
use Rattle.tt_state.proofs.ForceLemmas.{same}

-- the last that was added is taken off
added_off : (cs : List Closure) (c : Closure) → without_last (cs ++ c ∷ []) ≡ cs
added_off cs c = ap (λ n. take n (cs ++ c ∷ [])) (long cs) ∙ front cs
  where
    long : (cs : List Closure) → length (cs ++ c ∷ []) - 1 ≡ length cs
    long cs = omega (arith, length-append cs (c ∷ []))

    front : (cs : List Closure) → take (length cs) (cs ++ c ∷ []) ≡ cs
    front [] = refl
    front (d ∷ cs) = ap (λ l. d ∷ l) (front cs)

-- a room was closed at a time
pub closed_one : (p : Parts) (s : Snapshot) (es : List Entry) (room : ℕ) (t : Time) → StandsOn p s es → room < length p.rooms → IsTimeOf p.nr_days p.nr_weeks t → length s.closures < 10000
    → LeadsTo p s es (with_closed s room t) (Closed ∷ es)
closed_one p s es room t on within time few =
    let c = made room t in
    let back : with_closures (with_closed s room t) (without_last (s.closures ++ c ∷ [])) ≡ s = ap (with_closures s) (added_off s.closures c) in
    record {
      stands = record {
        sound = record {
          plan = on.sound.plan;
          lists = on.sound.lists;
          statistics = on.sound.statistics;
          closures = record {
            few = omega (arith, length-append s.closures (c ∷ []));
            each = All-push (IsClosureOf p) s.closures c on.sound.closures.each (record { room = within; time = time });
          };
          locks = on.sound.locks;
        };
        back = (on.step, (omega (arith, length-append s.closures (c ∷ [])), subst (λ x. LeadBack p x es) (sym back) on.back));
        counted = on.counted;
        step = on.step;
      };
      past = past_by s (with_closures (with_closed s room t) (without_last (s.closures ++ c ∷ []))) (with_closed s room t) es (Closed ∷ es) back refl refl refl refl refl;
    }

-- a closure that was lifted and isn't any more
unlifted : (cs : List Closure) (i : ℕ) (c : Closure) → slice_get cs i ≡ Some c → c.lifted ≡ false → relifted (relifted cs i true) i false ≡ cs
unlifted cs i c is open_one = rw is (rw (at_set cs i c is) (set_back cs i c is open_one))
  where
    at_set : (cs : List Closure) (i : ℕ) (c : Closure) → slice_get cs i ≡ Some c → slice_get (slice_set cs i (marked c true)) i ≡ Some (marked c true)
    at_set [] i c is = absurd (cc is)
    at_set (d ∷ cs) zero c is = refl
    at_set (d ∷ cs) (suc i) c is = at_set cs i c is

    same_closure : (c : Closure) → c.lifted ≡ false → marked c false ≡ c
    same_closure c open_one = ap (λ b. record { room = c.room; time = c.time; lifted = b }) (sym open_one)

    set_back : (cs : List Closure) (i : ℕ) (c : Closure) → slice_get cs i ≡ Some c → c.lifted ≡ false → slice_set (slice_set cs i (marked c true)) i (marked (marked c true) false) ≡ cs
    set_back [] i c is open_one = refl
    set_back (d ∷ cs) zero c is open_one = let e : d ≡ c = cc is in ap (λ k. k ∷ cs) (same_closure c open_one ∙ sym e)
    set_back (d ∷ cs) (suc i) c is open_one = ap (λ l. d ∷ l) (set_back cs i c is open_one)

-- a closure was lifted
pub lifted_one : (p : Parts) (s : Snapshot) (es : List Entry) (i : ℕ) (c : Closure) → StandsOn p s es → slice_get s.closures i ≡ Some c → c.lifted ≡ false
    → LeadsTo p s es (with_closures s (relifted s.closures i true)) (Lifted i ∷ es)
lifted_one p s es i c on is open_one =
    let cs = s.closures in
    let lt = slice_get_within cs i c is in
    let now : relifted cs i true ≡ slice_set cs i (marked c true) = rw is refl in
    let t = with_closures s (relifted cs i true) in
    let back : with_closures t (relifted (relifted cs i true) i false) ≡ s = ap (with_closures s) (unlifted cs i c is open_one) in
    let of : IsClosureOf p c = subst (IsClosureOf p) (get_or_from_slice_get cs i c c is) (All-get_or (IsClosureOf p) cs i c lt on.sound.closures.each) in
    record {
      stands = record {
        sound = record {
          plan = on.sound.plan;
          lists = on.sound.lists;
          statistics = on.sound.statistics;
          closures = record {
            few = omega (arith, ap (λ (l : List Closure). length l) now, length-set cs i (marked c true), on.sound.closures.few);
            each = subst (All (IsClosureOf p)) (sym now) (All-set (IsClosureOf p) cs i (marked c true) (record { room = of.room; time = of.time }) on.sound.closures.each);
          };
          locks = on.sound.locks;
        };
        back = (on.step, (record { within = omega (arith, lt, ap (λ (l : List Closure). length l) now, length-set cs i (marked c true)); lifted = rw now (lifted_there cs i c is) }, subst (λ x. LeadBack p x es) (sym back) on.back));
        counted = on.counted;
        step = on.step;
      };
      past = past_by s (with_closures t (relifted (relifted cs i true) i false)) t es (Lifted i ∷ es) back refl refl refl refl refl;
    }
  where
    lifted_there : (cs : List Closure) (i : ℕ) (c : Closure) → slice_get cs i ≡ Some c → IfSome (slice_get (slice_set cs i (marked c true)) i) (λ d. d.lifted ≡ true)
    lifted_there [] i c is = absurd (cc is)
    lifted_there (d ∷ cs) zero c is = refl
    lifted_there (d ∷ cs) (suc i) c is = lifted_there cs i c is

-- the closure behind some others, and the list where it is lifted
pub at_front : (front cs : List Closure) (c : Closure) → slice_get (front ++ c ∷ cs) (length front) ≡ Some c
at_front [] cs c = refl
at_front (d ∷ front) cs c = at_front front cs c

pub lifted_behind : (front cs : List Closure) (c : Closure) → relifted (front ++ c ∷ cs) (length front) true ≡ front ++ marked c true ∷ cs
lifted_behind front cs c = rw (at_front front cs c) (set_at front)
  where
    set_at : (front : List Closure) → slice_set (front ++ c ∷ cs) (length front) (marked c true) ≡ front ++ marked c true ∷ cs
    set_at [] = refl
    set_at (d ∷ front) = ap (λ l. d ∷ l) (set_at front)

-- a closure of the room that isn't lifted is lifted, and any other stays as it is
pub lifts_open : (room : ℕ) (c : Closure) → is_open_in room c ≡ true → (c.lifted ≡ false) × (lifted_in room c ≡ marked c true)
lifts_open room c open_one = both (c.room == room) c.lifted open_one refl refl
  where
    both : (b l : Bool) → (b && not l) ≡ true → (c.room == room) ≡ b → c.lifted ≡ l → (c.lifted ≡ false) × (lifted_in room c ≡ marked c true)
    both true false h here is = (is, rw here refl)
    both true true h here is = absurd (cc h)
    both false l h here is = absurd (cc h)

pub lifts_none : (room : ℕ) (c : Closure) → is_open_in room c ≡ false → lifted_in room c ≡ c
lifts_none room c none = both (c.room == room) c.lifted none refl refl
  where
    both : (b l : Bool) → (b && not l) ≡ false → (c.room == room) ≡ b → c.lifted ≡ l → lifted_in room c ≡ c
    both true false h here is = absurd (cc h)
    both true true h here is = rw here (ap (λ k. record { room = c.room; time = c.time; lifted = k }) (sym is))
    both false l h here is = rw here refl

moved : (front cs : List Closure) (c : Closure) → front ++ c ∷ cs ≡ (front ++ c ∷ []) ++ cs
moved front cs c = sym (append_assoc front (c ∷ []) cs)

longer : (front : List Closure) (c : Closure) → length (front ++ c ∷ []) ≡ length front + 1
longer front c = length-append front (c ∷ [])

-- the closures of a room behind some others were lifted, one after another
lifted_rest : (p : Parts) (s : Snapshot) (es : List Entry) (room : ℕ) (front rest : List Closure) → StandsOn p (with_closures s (front ++ rest)) es
    → LeadsTo p (with_closures s (front ++ rest)) es (with_closures s (front ++ map (lifted_in room) rest)) (lifted_by room (length front) rest es)
lifted_rest p s es room front [] on = same p (with_closures s (front ++ [])) es on
lifted_rest p s es room front (c ∷ cs) on =
    elim (cases_Bool (is_open_in room c)) [
      | inl open_one ↦
          let lifts = lifts_open room c open_one in
          let m = marked c true in
          let n = length front in
          let first : LeadsTo p (with_closures s (front ++ c ∷ cs)) es (with_closures s ((front ++ m ∷ []) ++ cs)) (Lifted n ∷ es) =
          subst (λ l. LeadsTo p (with_closures s (front ++ c ∷ cs)) es (with_closures s l) (Lifted n ∷ es)) (lifted_behind front cs c ∙ moved front cs m)
          (lifted_one p (with_closures s (front ++ c ∷ cs)) es n c on (at_front front cs c) lifts.0) in
          let later = lifted_rest p s (Lifted n ∷ es) room (front ++ m ∷ []) cs first.stands in
          let all = then p (with_closures s (front ++ c ∷ cs)) (with_closures s ((front ++ m ∷ []) ++ cs)) (with_closures s ((front ++ m ∷ []) ++ map (lifted_in room) cs)) es (Lifted n ∷ es)
          (lifted_by room (length (front ++ m ∷ [])) cs (Lifted n ∷ es)) first later in
          rw (open_one, lifts.1, moved front (map (lifted_in room) cs) m, ← longer front m) all
      | inr none ↦
          let stays = lifts_none room c none in
          let later = lifted_rest p s es room (front ++ c ∷ []) cs (subst (λ l. StandsOn p (with_closures s l) es) (moved front cs c) on) in
          rw (none, stays, moved front (map (lifted_in room) cs) c, moved front cs c, ← longer front c) later
    ]

-- all closures of a room were lifted
pub reopened : (p : Parts) (s : Snapshot) (es : List Entry) (room : ℕ) → StandsOn p s es → LeadsTo p s es (with_reopened s room) (lifted_by room 0 s.closures es)
reopened p s es room on = lifted_rest p s es room [] s.closures on

-- ---- the loops

-- so many closures pass where the count is 0, or not
pub none_open : (test : Closure → Bool) (cs : List Closure) (n : ℕ) → n ≡ count_by test cs → n ≡ 0 → list_any test cs ≡ false
none_open test [] n is none = refl
none_open test (c ∷ cs) n is none =
    let one : ℕ = 1 in
    let e = sum_by-cons (λ (d : Closure). cond (test d) one 0) c cs in
    elim (cases_Bool (test c)) [
      | inl passes ↦ let v : cond (test c) one 0 ≡ 1 = rw passes refl in absurd (omega (arith, e, v, is, none))
      | inr fails ↦ rw fails (none_open test cs (count_by test cs) refl (omega (arith, e, is, none)))
    ]

pub some_open : (test : Closure → Bool) (cs : List Closure) (n : ℕ) → n ≡ count_by test cs → list_any test cs ≡ false → n ≡ 0
some_open test [] n is none = is
some_open test (c ∷ cs) n is none =
    let one : ℕ = 1 in
    let e = sum_by-cons (λ (d : Closure). cond (test d) one 0) c cs in
    elim (cases_Bool (test c)) [
      | inl passes ↦ let t : true ≡ false = rw passes at none in absurd (cc t)
      | inr fails ↦
          let v : cond (test c) one 0 ≡ 0 = rw fails refl in
          omega (arith, e, v, is, some_open test cs (count_by test cs) refl (rw fails at none))
    ]

-- what is left of the closures from a place on
pub record IsNext (cs : List Closure) (i : ℕ) (c : Closure) : Type 0 where
  pub within : i < length cs
  pub left : drop i cs ≡ c ∷ drop (i + 1) cs
  pub front : take (i + 1) cs ≡ take i cs ++ c ∷ []

module _ (room : ℕ) (cs now : List Closure) (i : ℕ) (lifted : now ≡ map (lifted_in room) (take i cs) ++ drop i cs) where
  -- there are as many of them
  pub as_many : i ≤ length cs → length now ≡ length cs
  as_many within =
      omega (arith, ap (λ (l : List Closure). length l) lifted, length-append (map (lifted_in room) (take i cs)) (drop i cs), length-map (take i cs) (lifted_in room), length-take-le i cs within, length-drop i cs)

  -- the one at the place is what it was
  pub next_is : (c : Closure) → slice_get now i ≡ Some c → i < length cs → IsNext cs i c
  next_is c is lt =
      let d = get_or cs i c in
      let left : drop i cs ≡ d ∷ drop (i + 1) cs = drop_more cs i c lt in
      let n : length (map (lifted_in room) (take i cs)) ≡ i = length-map (take i cs) (lifted_in room) ∙ length-take-le i cs (omega (arith, lt)) in
      let there : slice_get now i ≡ Some d =
      ap (λ (l : List Closure). slice_get l i) (lifted ∙ ap (λ (l : List Closure). map (lifted_in room) (take i cs) ++ l) left)
      ∙ subst (λ k. slice_get (map (lifted_in room) (take i cs) ++ d ∷ drop (i + 1) cs) k ≡ Some d) n (at_front (map (lifted_in room) (take i cs)) (drop (i + 1) cs) d) in
      let same : d ≡ c = same_Some d c (sym there ∙ is) in
      record { within = lt; left = left ∙ ap (λ k. k ∷ drop (i + 1) cs) same; front = take_more cs i c lt ∙ ap (λ k. take i cs ++ k ∷ []) same }

  -- lifted where it is of the room, it is done too
  pub next_lifted : (c : Closure) → IsNext cs i c → is_open_in room c ≡ true → relifted now i true ≡ map (lifted_in room) (take (i + 1) cs) ++ drop (i + 1) cs
  next_lifted c next open_one =
      let f = map (lifted_in room) (take i cs) in
      let n : length f ≡ i = length-map (take i cs) (lifted_in room) ∙ length-take-le i cs (omega (arith, next.within)) in
      ap (λ (l : List Closure). relifted l i true) (lifted ∙ ap (λ (l : List Closure). f ++ l) next.left)
      ∙ subst (λ k. relifted (f ++ c ∷ drop (i + 1) cs) k true ≡ f ++ marked c true ∷ drop (i + 1) cs) n (lifted_behind f (drop (i + 1) cs) c)
      ∙ moved f (drop (i + 1) cs) (marked c true)
      ∙ ap (λ (l : List Closure). l ++ drop (i + 1) cs) (ap (λ k. f ++ k ∷ []) (sym (lifts_open room c open_one).1) ∙ sym (map-append (lifted_in room) (take i cs) (c ∷ [])) ∙ ap (map (lifted_in room)) (sym next.front))

  pub next_stays : (c : Closure) → IsNext cs i c → is_open_in room c ≡ false → now ≡ map (lifted_in room) (take (i + 1) cs) ++ drop (i + 1) cs
  next_stays c next none =
      let f = map (lifted_in room) (take i cs) in
      lifted ∙ ap (λ (l : List Closure). f ++ l) next.left
      ∙ moved f (drop (i + 1) cs) c
      ∙ ap (λ (l : List Closure). l ++ drop (i + 1) cs) (ap (λ k. f ++ k ∷ []) (sym (lifts_none room c none)) ∙ sym (map-append (lifted_in room) (take i cs) (c ∷ [])) ∙ ap (map (lifted_in room)) (sym next.front))

-- the one at the place in a list that is this one
pub next_seen : (room : ℕ) (cs now there : List Closure) (i : ℕ) (c : Closure) → now ≡ map (lifted_in room) (take i cs) ++ drop i cs → there ≡ now → slice_get there i ≡ Some c → i < length cs → IsNext cs i c
next_seen room cs now there i c lifted same is lt = next_is room cs now i lifted c (subst (λ (l : List Closure). slice_get l i ≡ Some c) same is) lt

-- a count with the one at a place in front
pub counted_next : (test : Closure → Bool) (cs : List Closure) (i : ℕ) (c : Closure) → drop i cs ≡ c ∷ drop (i + 1) cs → count_by test (drop i cs) ≡ cond (test c) 1 0 + count_by test (drop (i + 1) cs)
counted_next test cs i c left = let one : ℕ = 1 in ap (count_by test) left ∙ sum_by-cons (λ (d : Closure). cond (test d) one 0) c (drop (i + 1) cs)

-- the same, where the one at the place is known
pub counted_at : (test : Closure → Bool) (cs : List Closure) (i : ℕ) (c : Closure) → slice_get cs i ≡ Some c → count_by test (drop i cs) ≡ cond (test c) 1 0 + count_by test (drop (i + 1) cs)
counted_at test cs i c is = counted_next test cs i c (drop_more cs i c (slice_get_within cs i c is) ∙ ap (λ d. d ∷ drop (i + 1) cs) (get_or_from_slice_get cs i c c is))

pub entries_next : (room i : ℕ) (cs : List Closure) (c : Closure) (es fs : List Entry) → drop i cs ≡ c ∷ drop (i + 1) cs → fs ≡ cond (is_open_in room c) (Lifted i ∷ es) es
    → lifted_by room (i + 1) (drop (i + 1) cs) fs ≡ lifted_by room i (drop i cs) es
entries_next room i cs c es fs left is = rw (left, is) refl
