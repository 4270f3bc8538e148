-- The plan that is published, its spots, and the lists of the students.
use Rattle.std.proofs.Common.{◌≡◌, ◌∙◌, ◌⊎◌, inl, inr, ℕ, zero, suc, ◌+◌, ◌<◌, ◌≤◌, Option, Some, None, List, [], ◌∷◌, ◌++◌, length, get_or, drop, refl, sym, ap, arith, append_assoc, map}
use Rattle.std.specs.Prelude.{All, IfSome, option_and_then}
use Rattle.std.specs.List.{AllByRecursion}
use Rattle.std.proofs.lemmas.List.Elements.{All-from_recursion}
use Rattle.std.proofs.lemmas.Bool.{cases_lt}
use Rattle.std.proofs.lemmas.List.{append-nil, drop_all, drop_more, get_or_default}
use borrow.Author.Count.{below_more}
use Rattle.std.proofs.lemmas.List.FromFn.{length-map-range_with_len, get_or-map-range_with_len}
use Rattle.tt_bits.specs.declared.times.Spot.{Spot}
use Rattle.tt_bits.specs.declared.times.Value.{Value}
use Rattle.tt_bits.specs.Spots.{placed, spot_at}
use Rattle.tt_travel.specs.Table.{Table, IsRoomOf}
use Rattle.tt_problem.specs.declared.parts.Parts.{Parts}
use Rattle.tt_plan.specs.Domain.{IsOfDomain, IsSpotOf, spot_at_value, spots_from, spots_of}
use Rattle.tt_roster.specs.Lists.{Ascends}
use Rattle.tt_score.specs.Members.{AreSpotsOf}
use Rattle.tt_score.specs.Plans.{IsPlanOf}
use Rattle.tt_score.proofs.PlanLemmas.{spot_in, length-spots_from}
use Rattle.tt_published.specs.Published.{published_plan, published_value}
use Rattle.tt_published.specs.Timetable.{Timetable}

-- the spots of the classes before place i are these, and fit the problem
pub record AreSpotsTo (p : Parts) (plan : List (Option Value)) (i : ℕ) (done : List (Option Spot)) : Type 0 where
  pub so_far : done ++ spots_from p i (drop i plan) ≡ spots_of p plan
  pub fit : (k : ℕ) → k < i → IfSome (spot_at (spots_of p plan) k) (λ x. IsSpotOf p x)

pub spots_begin : (p : Parts) (plan : List (Option Value)) → AreSpotsTo p plan 0 []
spots_begin p plan = record { so_far = refl; fit = λ k below. absurd (omega arith) }

pub spots_next : (p : Parts) (plan : List (Option Value)) (i : ℕ) (done : List (Option Spot)) (s : Option Spot) (d : Option Value) → AreSpotsTo p plan i done → i < length plan
    → s ≡ option_and_then (spot_at_value p i) (get_or plan i d) → IfSome s (λ x. IsSpotOf p x) → AreSpotsTo p plan (i + 1) (done ++ s ∷ [])
spots_next p plan i done s d before within made fits =
    let left : spots_from p i (drop i plan) ≡ s ∷ spots_from p (i + 1) (drop (i + 1) plan) =
    ap (spots_from p i) (drop_more plan i d within) ∙ ap (λ (x : Option Spot). x ∷ spots_from p (i + 1) (drop (i + 1) plan)) (sym made) in
    let here : spot_at (spots_of p plan) i ≡ s = spot_in p plan i ∙ ap (option_and_then (spot_at_value p i)) (get_or_default plan i None d within) ∙ sym made in
    record {
      so_far = append_assoc done (s ∷ []) (spots_from p (i + 1) (drop (i + 1) plan)) ∙ ap (λ (l : List (Option Spot)). done ++ l) (sym left) ∙ before.so_far;
      fit = below_more (λ k. IfSome (spot_at (spots_of p plan) k) (λ x. IsSpotOf p x)) i before.fit (rw here fits);
    }

pub spots_done : (p : Parts) (plan : List (Option Value)) (i : ℕ) (done : List (Option Spot)) → AreSpotsTo p plan i done → length plan ≤ i → done ≡ spots_of p plan
spots_done p plan i done before past =
    let none : spots_from p i (drop i plan) ≡ [] = ap (spots_from p i) (drop_all i plan past) in
    sym (append-nil done) ∙ ap (λ (l : List (Option Spot)). done ++ l) (sym none) ∙ before.so_far

past_none : (spots : List (Option Spot)) (c : ℕ) → length spots ≤ c → spot_at spots c ≡ None
past_none [] c past = refl
past_none (v ∷ spots) zero past = absurd (omega arith)
past_none (v ∷ spots) (suc c) past = past_none spots c (omega arith)

pub spots_done_fit : (p : Parts) (plan : List (Option Value)) (i : ℕ) (done : List (Option Spot)) → AreSpotsTo p plan i done → length plan ≤ i → AreSpotsOf p done
spots_done_fit p plan i done before past c =
    let long = length-spots_from p 0 plan in
    rw (spots_done p plan i done before past)
    (elim (cases_lt c i) [
      | inl below ↦ before.fit c below
      | inr beyond ↦ rw (past_none (spots_of p plan) c (omega (arith, long))) tt
    ])

-- classes that ascend are below the end, and no more than that
pub below_end : (from after : ℕ) (list : List ℕ) → Ascends from after list → All (λ class. class < after) list
below_end from after [] up = λ k d below. absurd (omega arith)
below_end from after (a ∷ list) up = below_by after a list up.1 (below_end (a + 1) after list up.2)
  where
    below_by : (after a : ℕ) (list : List ℕ) → a < after → All (λ class. class < after) list → All (λ class. class < after) (a ∷ list)
    below_by after a list below rest zero d within = below
    below_by after a list below rest (suc k) d within = rest k d (omega arith)

pub few_ascend : (from after : ℕ) (list : List ℕ) → Ascends from after list → from + length list ≤ after ⊎ (list ≡ [])
few_ascend from after [] up = inr refl
few_ascend from after (a ∷ []) up = inl (omega (arith, up.0, up.1))
few_ascend from after (a ∷ b ∷ list) up = elim (few_ascend (a + 1) after (b ∷ list) up.2) [ inl le ↦ inl (omega (arith, up.0, le)) | inr none ↦ absurd (cc) ]

pub length-ascends : (after : ℕ) (list : List ℕ) → Ascends 0 after list → length list ≤ after
length-ascends after list up = elim (few_ascend 0 after list up) [ inl le ↦ omega (arith, le) | inr none ↦ rw none (omega arith) ]

-- ---- rooms of spots

room_within : (p : Parts) (r : Option ℕ) → p.travel.rooms ≡ length p.rooms → IfSome r (λ room. room < length p.rooms) → IsRoomOf p.travel r
room_within p None same is = tt
room_within p (Some room) same is = omega (arith, same, is)

room_fits : (p : Parts) (s : Option Spot) → p.travel.rooms ≡ length p.rooms → IfSome s (λ x. IsSpotOf p x) → IfSome s (λ x. IsRoomOf p.travel x.room)
room_fits p None same is = tt
room_fits p (Some x) same is = room_within p x.room same is.room

-- the rooms of spots are rooms of the table of travel
pub rooms_fit : (p : Parts) (spots : List (Option Spot)) → p.travel.rooms ≡ length p.rooms → AreSpotsOf p spots → (c : ℕ) → IfSome (spot_at spots c) (λ x. IsRoomOf p.travel x.room)
rooms_fit p spots same fit c = room_fits p (spot_at spots c) same (fit c)

one_placed : (t : Table) (s : Option Spot) (rest : List (Option Spot)) → IfSome s (λ x. IsRoomOf t x.room) → AllByRecursion (λ x. IsRoomOf t x.room) (placed rest) → AllByRecursion (λ x. IsRoomOf t x.room) (placed (s ∷ rest))
one_placed t None rest is all = all
one_placed t (Some x) rest is all = (is, all)

each_placed : (t : Table) (spots : List (Option Spot)) → ((c : ℕ) → IfSome (spot_at spots c) (λ x. IsRoomOf t x.room)) → (members : List ℕ) → AllByRecursion (λ x. IsRoomOf t x.room) (placed (map (spot_at spots) members))
each_placed t spots fit [] = tt
each_placed t spots fit (c ∷ members) = one_placed t (spot_at spots c) (map (spot_at spots) members) (fit c) (each_placed t spots fit members)

-- so are those of the placed members of a rule
pub placed_rooms : (t : Table) (spots : List (Option Spot)) → ((c : ℕ) → IfSome (spot_at spots c) (λ x. IsRoomOf t x.room)) → (members : List ℕ) → All (λ x. IsRoomOf t x.room) (placed (map (spot_at spots) members))
placed_rooms t spots fit members = All-from_recursion (λ x. IsRoomOf t x.room) (placed (map (spot_at spots) members)) (each_placed t spots fit members)

-- ---- the plan

-- the published plan is a plan, where each published value is of its class's domain
pub IsPlanOf-published : (p : Parts) (t : Timetable) → ((class : ℕ) → class < length p.classes → IfSome (published_value p t class) (IsOfDomain p class)) → IsPlanOf p (published_plan p t)
IsPlanOf-published p t each = record {
  whole = length-map-range_with_len (published_value p t) 0 (length p.classes);
  domain = λ class v is.
      let within : class < length p.classes = below class v is in
      let at : published_value p t class ≡ Some v = sym (get_or-map-range_with_len (published_value p t) 0 (length p.classes) class class None within (omega arith)) ∙ is in
      rw at at (each class within);
}
  where
    short : (xs : List (Option Value)) (class : ℕ) (v : Value) → get_or xs class None ≡ Some v → class < length xs
    short [] class v is = absurd (cc)
    short (x ∷ xs) zero v is = omega arith
    short (x ∷ xs) (suc class) v is = omega (arith, short xs class v is)

    below : (class : ℕ) (v : Value) → get_or (published_plan p t) class None ≡ Some v → class < length p.classes
    below class v is = let long = length-map-range_with_len (published_value p t) 0 (length p.classes) in omega (arith, short (published_plan p t) class v is, long)
