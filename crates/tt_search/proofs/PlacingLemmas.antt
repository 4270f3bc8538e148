-- Turns that learn which classes are hard: what each class weighs, what the words draw, and how far the turns have come.
use Rattle.std.proofs.Common.{◌≡◌, ℕ, ◌+◌, ◌*◌, ◌-◌, ◌^◌, ◌<◌, ◌≤◌, Bool, true, false, cond, Option, Some, None, List, [], ◌∷◌, ◌++◌, length, map, length-append, refl, ap, ◌∙◌, ◌⊎◌, inl, inr, ◌≢◌, arith}
use Rattle.std.specs.Prelude.{IfSome, IsSome, count_by, drop, nat_eq, not, slice_get, slice_index_or}
use Rattle.std.specs.Cmp.Lexicographic.{slice_cmp}
use Rattle.std.specs.Ordering.{is_lt, nat_cmp, ordering_then}
use Rattle.std.specs.declared.cmp.Ordering.{Ordering}
use Rattle.std.specs.declared.cmp.Ordering.TheVariants.{Less, Equal, Greater}
use Rattle.tt_base.specs.Lists.{is_less}
use Rattle.std.specs.Option.{option_map_or}
use Rattle.std.specs.List.{filter, list_any, sum_by}
use Rattle.std.proofs.lemmas.Bool.Decides.{eqb_tells}
use Rattle.tt_base.proofs.ListLemmas.{drop_at}
use Rattle.std.proofs.lemmas.List.Sums.{sum_by-append, sum_by-cons, count_by-le-length}
use Rattle.rand_core.specs.Stream.{Stream, next_u32}
use Rattle.tt_draw.specs.Draws.{drawn, random_words}
use Rattle.tt_bits.specs.declared.times.Value.{Value}
use Rattle.tt_problem.specs.declared.parts.Parts.{Parts}
use Rattle.tt_state.specs.Forced.{forced}
use Rattle.tt_state.specs.Snapshots.{Snapshot}
use Rattle.tt_state.specs.Values.{conflict_set_of, total_with}
use Rattle.tt_search.specs.declared.turn.Turn.{Turn}
use Rattle.tt_search.specs.declared.way.Best.{Best}
use Rattle.tt_search.specs.declared.weights.ClassWeights.{ClassWeights}
use Rattle.tt_search.specs.Numbers.{after_making, rank_numbers}
use Rattle.tt_search.specs.PlaceTurns.{PlaceMoment, after_forcing, all_least, burden_of, least_values, place_turn, set_weight, two_words}
use Rattle.tt_search.specs.PlacingNow.{CountsOuts, burden_by, class_weight, moment_after, taken_by, weight_by}
use Rattle.tt_search.specs.Searched.{onward, rank_of}
use Rattle.tt_search.specs.Turns.{available_values, candidates}
use Rattle.tt_search.specs.UnderWay.{IsUnderWay, LeadsOn, place_end, places_after}
use Rattle.tt_search.proofs.WayLemmas.{made_turn, no_turn, no_turn_left, start_way}

-- what is counted of a list is no more than its items
pub few_counted : (class : ℕ) (outs : List ℕ) → count_by (nat_eq class) outs ≤ length outs
few_counted class outs = count_by-le-length (nat_eq class) outs

abbrev one_if : Bool → ℕ
one_if b = cond b 1 0

-- a class that is to be counted yet has room for it
pub room_left : (outs start taken : List ℕ) (i place : ℕ) → slice_get taken i ≡ Some place → slice_index_or outs place 0 + count_by (nat_eq place) (drop i taken) ≡ slice_index_or start place 0 + count_by (nat_eq place) taken
    → slice_index_or start place 0 ≤ 2 ^ 63 → length taken ≤ 20000 → slice_index_or outs place 0 + 1 < 2 ^ 64
room_left outs start taken i place at counted room few =
    let left = rw (drop_at taken i place at) at counted in
    let more = sum_by-cons (λ k. cond (nat_eq place k) 1 0) place (drop (i + 1) taken) in
    let one : one_if (nat_eq place place) ≡ 1 = itself (eqb_tells place place) in
    omega (arith, left, more, one, room, few, few_counted place taken)
  where
    itself : ((nat_eq place place ≡ true) × (place ≡ place)) ⊎ ((nat_eq place place ≡ false) × (place ≢ place)) → one_if (nat_eq place place) ≡ 1
    itself (inl same) = rw same.0 refl
    itself (inr other) = absurd (other.1 refl)

-- the counts of what was taken out, once more is
pub counts_more : (p : Parts) (outs taken : List ℕ) (old new : ClassWeights) → CountsOuts p outs old → length new.outs.items ≡ length old.outs.items
    → ((class : ℕ) → slice_index_or new.outs.items class 0 ≡ slice_index_or old.outs.items class 0 + count_by (nat_eq class) taken) → CountsOuts p (taken ++ outs) new
counts_more p outs taken old new counts whole more = record {
  whole = whole ∙ counts.whole;
  counts = λ class. omega (arith, more class, counts.counts class, sum_by-append (λ k. cond (nat_eq class k) 1 0) taken outs);
}

-- the burden by the counts tells as that of the definition
same_burden : (p : Parts) (s : Snapshot) (outs : List ℕ) (w : ClassWeights) (class : ℕ) (x y : Value) → CountsOuts p outs w
    → is_less (burden_by p s w.outs.items class) x y ≡ is_less (burden_of p (record { snapshot = s; outs = outs }) class) x y
unfolding burden_of
same_burden p s outs w class x y counts =
    let weights : weight_by w.outs.items ≡ class_weight outs = λ j other. ap (λ k. 1 + k) (counts.counts other) j in
    let burden : (ℕ → ℕ) → Value → List ℕ = λ weight v. sum_by weight (conflict_set_of p s class v) ∷ 0 ∷ total_with p s class v ∷ [] in
    ap (λ (weight : ℕ → ℕ). is_less (burden weight) x y) weights ∙ by (nat_cmp (set_weight p m class x) (set_weight p m class y))
  where
    m : PlaceMoment
    m = record { snapshot = s; outs = outs }

    by : (o : Ordering) → is_lt (ordering_then o (slice_cmp nat_cmp (0 ∷ total_with p s class x ∷ []) (0 ∷ total_with p s class y ∷ []))) ≡ is_lt (ordering_then o (slice_cmp nat_cmp (total_with p s class x ∷ []) (total_with p s class y ∷ [])))
    by Less = refl
    by Equal = refl
    by Greater = refl

-- so the values found are those of the definition
pub least_same : (p : Parts) (s : Snapshot) (outs : List ℕ) (w : ClassWeights) (class : ℕ) (values : List Value) → CountsOuts p outs w → values ≡ all_least (burden_by p s w.outs.items class) (available_values p s class)
    → values ≡ least_values p (record { snapshot = s; outs = outs }) class
unfolding least_values
least_same p s outs w class values counts are =
    let less : is_less (burden_by p s w.outs.items class) ≡ is_less (burden_of p (record { snapshot = s; outs = outs }) class) = λ j x y. same_burden p s outs w class x y counts j in
    are ∙ ap (λ (before : Value → Value → Bool). filter (λ x. not (list_any (λ y. before y x) (available_values p s class))) (available_values p s class)) less

-- two words that are drawn one after the other
then_words : ℕ → ℕ × Stream → (ℕ × ℕ) × Stream
then_words class next = ((class, next.0), next.1)

all_words : ℕ × Stream → (ℕ × ℕ) × Stream
all_words next = then_words next.0 (next_u32 next.1)

pub two_drawn : (class value : ℕ) (random middle left : Stream) → (class, middle) ≡ next_u32 random → (value, left) ≡ next_u32 middle → ((class, value), left) ≡ two_words random
unfolding then_words all_words
two_drawn class value random middle left first second = ap (then_words class) second ∙ ap all_words first

-- the turn where no word draws a class, and where one does
pub no_class : (p : Parts) (class_word value_word : ℕ) (m : PlaceMoment) → drawn class_word (candidates p m.snapshot) ≡ None → place_turn p (class_word, value_word) m ≡ None
unfolding place_turn
no_class p class_word value_word m none = rw none refl

pub one_class : (p : Parts) (class_word value_word : ℕ) (m : PlaceMoment) (class : ℕ) (value : Option Value) → drawn class_word (candidates p m.snapshot) ≡ Some class → drawn value_word (least_values p m class) ≡ value
    → place_turn p (class_word, value_word) m ≡ Some (after_forcing p m class value)
unfolding place_turn
one_class p class_word value_word m class value is chosen = rw is (rw chosen refl)

-- what a turn leaves behind
pub after_same : (p : Parts) (s t : Snapshot) (outs taken : List ℕ) (m : Turn) → t ≡ after_making p s m → IfSome m.value (λ v. taken ≡ conflict_set_of p s m.class v) → moment_after p s outs m ≡ record { snapshot = t; outs = taken_by m taken ++ outs }
after_same p s t outs taken m is found = by m.value is found
  where
    by : (o : Option Value) → t ≡ option_map_or (forced p s m.class) o s → IfSome o (λ v. taken ≡ conflict_set_of p s m.class v)
        → after_forcing p (record { snapshot = s; outs = outs }) m.class o ≡ record { snapshot = t; outs = option_map_or (λ v. taken) o [] ++ outs }
    by None is found = rw is refl
    by (Some v) is found = rw (is, found) refl

-- how far turns that learn have come
pub record IsPlacing (p : Parts) (turns seed : ℕ) (start : Snapshot) (made : ℕ) (random : Stream) (now : Snapshot) (trail : List Snapshot) (w : ClassWeights) (best : Best) : Type 0 where
  pub outs : List ℕ
  pub counts : CountsOuts p outs w
  pub few : length outs ≤ made * 20000
  pub way : IsUnderWay (rank_of p None) trail (map (λ (m : PlaceMoment). m.snapshot) (onward two_words (place_turn p) (turns - made) random (record { snapshot = now; outs = outs }))) best made (place_end p turns seed start) (length (places_after p turns seed start))

-- so no count is near its end
pub far_off : (p : Parts) (turns seed : ℕ) (start : Snapshot) (made : ℕ) (random : Stream) (now : Snapshot) (trail : List Snapshot) (w : ClassWeights) (best : Best) → IsPlacing p turns seed start made random now trail w best
    → made < 2 ^ 32 → (class : ℕ) → slice_index_or w.outs.items class 0 ≤ 2 ^ 63
far_off p turns seed start made random now trail w best on below class = omega (arith, on.counts.counts class, few_counted class on.outs, on.few, below)

-- before the first turn
pub starts_placing : (p : Parts) (turns seed : ℕ) (s : Snapshot) (random : Stream) (trail : List Snapshot) (w : ClassWeights) (best : Best) → CountsOuts p [] w → random ≡ random_words seed → trail ≡ s ∷ []
    → rank_numbers best.rank ≡ rank_of p None s → best.place ≡ 0 → IsPlacing p turns seed s 0 random s trail w best
unfolding place_end
starts_placing p turns seed s random trail w best counts seeded is ranked first =
    let whole : turns - 0 ≡ turns = omega arith in
    record {
      outs = [];
      counts = counts;
      few = omega arith;
      way = rw (whole, seeded) (start_way (rank_of p None) s trail (places_after p turns seed s) best is ranked first);
    }

-- a turn that is made
pub next_placing : (p : Parts) (turns seed : ℕ) (start : Snapshot) (made : ℕ) (random left : Stream) (words : ℕ × ℕ) (now next : Snapshot) (before after : List Snapshot) (w v : ClassWeights) (old new : Best) (m : Turn) (taken : List ℕ)
    → IsPlacing p turns seed start made random now before w old → made < turns → (words, left) ≡ two_words random
    → ((outs : List ℕ) → CountsOuts p outs w → place_turn p words (record { snapshot = now; outs = outs }) ≡ Some (moment_after p now outs m))
    → next ≡ after_making p now m → IfSome m.value (λ v. taken ≡ conflict_set_of p now m.class v) → LeadsOn (rank_of p None) before after next old new
    → length v.outs.items ≡ length w.outs.items → ((class : ℕ) → slice_index_or v.outs.items class 0 ≡ slice_index_or w.outs.items class 0 + count_by (nat_eq class) (taken_by m taken)) → length (taken_by m taken) ≤ 20000
    → IsPlacing p turns seed start (made + 1) left next after v new
next_placing p turns seed start made random left words now next before after w v old new m taken on below is turn moved found leads whole more few =
    let outs = taken_by m taken ++ on.outs in
    let moment : PlaceMoment = record { snapshot = next; outs = outs } in
    let made_now = turn on.outs on.counts ∙ ap Some (after_same p now next on.outs taken m moved found) in
    let onward_is = made_turn two_words (place_turn p) turns made random left words (record { snapshot = now; outs = on.outs }) moment below is made_now in
    record {
      outs = outs;
      counts = counts_more p on.outs (taken_by m taken) w v on.counts whole more;
      few = omega (arith, on.few, few, length-append (taken_by m taken) on.outs);
      way = leads (map (λ (m : PlaceMoment). m.snapshot) (onward two_words (place_turn p) (turns - (made + 1)) left moment)) made _ _ (rw onward_is at on.way);
    }

-- without a candidate the way is at its end
pub no_placing : (p : Parts) (turns seed : ℕ) (start : Snapshot) (made : ℕ) (random left : Stream) (words : ℕ × ℕ) (now : Snapshot) (trail : List Snapshot) (w : ClassWeights) (best : Best) → IsPlacing p turns seed start made random now trail w best
    → (words, left) ≡ two_words random → ((outs : List ℕ) → CountsOuts p outs w → place_turn p words (record { snapshot = now; outs = outs }) ≡ None)
    → IsUnderWay (rank_of p None) trail [] best made (place_end p turns seed start) (length (places_after p turns seed start))
no_placing p turns seed start made random left words now trail w best on is turn =
    let onward_is = no_turn two_words (place_turn p) (turns - made) random left words (record { snapshot = now; outs = on.outs }) is (turn on.outs on.counts) in
    rw onward_is at on.way

-- and so it is once all turns are made
pub all_placing : (p : Parts) (turns seed : ℕ) (start : Snapshot) (made : ℕ) (random : Stream) (now : Snapshot) (trail : List Snapshot) (w : ClassWeights) (best : Best) → IsPlacing p turns seed start made random now trail w best
    → turns ≡ made → IsUnderWay (rank_of p None) trail [] best turns (place_end p turns seed start) (length (places_after p turns seed start))
all_placing p turns seed start made random now trail w best on all =
    let onward_is = no_turn_left two_words (place_turn p) turns made random (record { snapshot = now; outs = on.outs }) (omega (arith, all)) in
    let way = rw onward_is at on.way in
    record { now = way.now; at = way.at; ranked = way.ranked; ends = way.ends; counts = ap (λ n. n + 0) all ∙ way.counts }

-- where a turn leads on, one is made
pub turn_made : (p : Parts) (turns seed : ℕ) (start : Snapshot) (made : ℕ) (random left : Stream) (words : ℕ × ℕ) (now : Snapshot) (trail : List Snapshot) (w : ClassWeights) (best : Best) → IsPlacing p turns seed start made random now trail w best
    → made < turns → (words, left) ≡ two_words random → ((outs : List ℕ) → CountsOuts p outs w → IsSome (place_turn p words (record { snapshot = now; outs = outs }))) → 0 < length (places_after p turns seed start)
turn_made p turns seed start made random left words now trail w best on below is turn = by (place_turn p words m) refl (turn on.outs on.counts)
  where
    m : PlaceMoment
    m = record { snapshot = now; outs = on.outs }

    by : (o : Option PlaceMoment) → place_turn p words m ≡ o → IsSome o → 0 < length (places_after p turns seed start)
    by None e some = absurd (cc some)
    by (Some next) e some =
        let way = rw (made_turn two_words (place_turn p) turns made random left words m next below is e) at on.way in
        omega (arith, way.counts)
