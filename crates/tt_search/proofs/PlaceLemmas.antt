-- The classes return to their published values, one after another.
use Rattle.std.proofs.Common.{◌≡◌, ◌∙◌, ℕ, ◌+◌, ◌<◌, ◌≤◌, Bool, false, Option, None, Some, List, ◌++◌, length, take, drop, ap, sym, arith}
use Rattle.std.specs.Prelude.{◌&&◌, slice_get, slice_set}
use Rattle.std.specs.Option.{option_map_or}
use Rattle.std.proofs.lemmas.List.FromFn.{length-map-range_with_len}
use Rattle.tt_bits.specs.declared.times.Value.{Value}
use Rattle.tt_problem.specs.declared.parts.Parts.{Parts}
use Rattle.tt_published.specs.Published.{published_plan, published_value}
use Rattle.tt_published.specs.Timetable.{Timetable}
use Rattle.tt_state.specs.Snapshots.{Snapshot, is_locked_in, value_in}
use Rattle.tt_state.specs.Values.{is_value}
use Rattle.tt_search.specs.Changed.{placed_back, with_places}
use Rattle.tt_search.specs.Recalled.{recalled_locks, stays_locked}
use Rattle.tt_search.proofs.ListLemmas.{all_set, at_of_range, set_next, still_rest}

length-locks : (p : Parts) (published : Timetable) (s : Snapshot) → length (recalled_locks p published s) ≡ length p.classes
unfolding recalled_locks
length-locks p published s = length-map-range_with_len (λ class. stays_locked s class (published_value p published class)) 0 (length p.classes)

locks-at : (p : Parts) (published : Timetable) (s : Snapshot) (k : ℕ) → k < length p.classes → slice_get (recalled_locks p published s) k ≡ Some (stays_locked s k (published_value p published k))
unfolding recalled_locks
locks-at p published s k below = at_of_range (λ class. stays_locked s class (published_value p published class)) 0 (length p.classes) k k below (omega arith)

-- one class more
pub next_placed : (p : Parts) (published : Timetable) (s : Snapshot) (k : ℕ) (v : Option Value) → length s.plan ≡ length p.classes → length s.locks ≡ length p.classes → k < length p.classes → v ≡ published_value p published k
    → placed_back (with_places s (take k (published_plan p published) ++ drop k s.plan) (take k (recalled_locks p published s) ++ drop k s.locks)) k v
    ≡ with_places s (take (k + 1) (published_plan p published) ++ drop (k + 1) s.plan) (take (k + 1) (recalled_locks p published s) ++ drop (k + 1) s.locks)
next_placed p published s k v plan_whole locks_whole below value =
    let plan = published_plan p published in
    let locks = recalled_locks p published s in
    let plans : length plan ≡ length s.plan = length-map-range_with_len (published_value p published) 0 (length p.classes) ∙ sym plan_whole in
    let all_locks : length locks ≡ length s.locks = length-locks p published s ∙ sym locks_whole in
    let now = with_places s (take k plan ++ drop k s.plan) (take k locks ++ drop k s.locks) in
    let at_plan : slice_get plan k ≡ Some v = rw value (at_of_range (published_value p published) 0 (length p.classes) k k below (omega arith)) in
    let value_same : value_in now k ≡ value_in s k = still_rest plan s.plan k None plans in
    let lock_is : is_locked_in now k ≡ is_locked_in s k = still_rest locks s.locks k false all_locks in
    let stays : stays_locked now k v ≡ stays_locked s k v = ap (λ (locked : Bool). locked && option_map_or (is_value (value_in now k)) v false) lock_is ∙ ap (λ (o : Option Value). is_locked_in s k && option_map_or (is_value o) v false) value_same in
    let at_locks : slice_get locks k ≡ Some (stays_locked now k v) = locks-at p published s k below ∙ ap (λ (w : Option Value). Some (stays_locked s k w)) (sym value) ∙ ap Some (sym stays) in
    ap (λ (xs : List (Option Value)). with_places s xs (slice_set (take k locks ++ drop k s.locks) k (stays_locked now k v))) (set_next plan s.plan k v plans at_plan)
    ∙ ap (with_places s (take (k + 1) plan ++ drop (k + 1) s.plan)) (set_next locks s.locks k (stays_locked now k v) all_locks at_locks)

-- and all at the end
pub all_placed : (p : Parts) (published : Timetable) (s : Snapshot) (k : ℕ) → length s.plan ≡ length p.classes → length s.locks ≡ length p.classes → length p.classes ≤ k
    → with_places s (take k (published_plan p published) ++ drop k s.plan) (take k (recalled_locks p published s) ++ drop k s.locks) ≡ with_places s (published_plan p published) (recalled_locks p published s)
all_placed p published s k plan_whole locks_whole past =
    let plans : length (published_plan p published) ≡ length s.plan = length-map-range_with_len (published_value p published) 0 (length p.classes) ∙ sym plan_whole in
    let all_locks : length (recalled_locks p published s) ≡ length s.locks = length-locks p published s ∙ sym locks_whole in
    ap (λ (xs : List (Option Value)). with_places s xs (take k (recalled_locks p published s) ++ drop k s.locks)) (all_set (published_plan p published) s.plan k plans (omega (arith, plan_whole, past)))
    ∙ ap (with_places s (published_plan p published)) (all_set (recalled_locks p published s) s.locks k all_locks (omega (arith, locks_whole, past)))
