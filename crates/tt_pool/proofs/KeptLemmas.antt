-- A pool that is seen as its lists: its way back and its order.
use Rattle.std.proofs.Common.{◌≡◌, ◌∙◌, sym, ap, refl, ℕ, ◌+◌, ◌-◌, ◌<◌, ◌≤◌, Bool, true, zero, suc, List, [], ◌∷◌, length, get_or, map, replicate, arith}
use Rattle.std.specs.Prelude.{◌==◌, nat_lt, slice_index, slice_index_or, slice_set}
use Rattle.std.specs.List.{insert, remove, position_or_len}
use Rattle.std.specs.List.Sorted.{IsNonDecreasing}
use Rattle.std.proofs.lemmas.List.{length-replicate}
use Rattle.std.proofs.lemmas.Bool.{eqb-true}
use Rattle.std.proofs.lemmas.List.Sums.{passes_at_first}
use Rattle.std.proofs.lemmas.List.Sorted.{IsNonDecreasingBy-short}
use Rattle.tt_pool.specs.declared.chain.Link.{Link}
use Rattle.tt_pool.specs.declared.chain.Node.{Node}
use Rattle.tt_pool.specs.declared.chain.Chain.{Chain}
use Rattle.tt_pool.specs.declared.places.Place.{Place}
use Rattle.tt_pool.specs.Chains.{no_link, item_of, after, chain_of, uses, IsPlace, LeadsBack}
use Rattle.tt_pool.specs.Pools.{chains_of, lists_of, no_chain, chain_at, place_in, IsPool, IsBacked, IsFresh, PoolIsKept, node_bound}
use Rattle.tt_pool.proofs.Paths.{on_way, path-get_or}
use Rattle.tt_pool.proofs.Search.{item-get_or, found_at}
use Rattle.tt_pool.proofs.EndLemmas.{list_is_chain, node_place}
use Rattle.tt_pool.proofs.PoolLemmas.{seen-length, seen-items_at, length-chains_of, chains_of-get_or, lists_of-get_or, lists_within, lists_of-empty, IsPool-fresh}
use Rattle.tt_pool.proofs.OrderLemmas.{ascends-insert, ascends-remove, ascends-set}

-- a pool whose lists are seen, and the number of one of them
pub record IsSeen (nodes : List Node) (lists : List Chain) (backs : List Link) (free : Chain) (ordered : Bool) (seen : List (List ℕ)) (l : ℕ) : Type 0 where
  pub kept : PoolIsKept nodes lists backs free ordered
  pub is : lists_of nodes lists ≡ seen
  pub within : l < length seen

pub seen_leads : (nodes : List Node) (lists : List Chain) (backs : List Link) (free : Chain) (ordered : Bool) (seen : List (List ℕ)) (l : ℕ)
    → IsSeen nodes lists backs free ordered seen l → LeadsBack backs (length nodes + l) (chain_of nodes (chain_at lists l))
seen_leads nodes lists backs free ordered seen l s =
    let lt = lists_within nodes lists seen l s.is s.within in
    rw (chains_of-get_or nodes lists l lt) at (s.kept.backed.leads l (rw length-chains_of lt))

pub seen_end : (nodes : List Node) (lists : List Chain) (backs : List Link) (free : Chain) (ordered : Bool) (seen : List (List ℕ)) (l : ℕ)
    → IsSeen nodes lists backs free ordered seen l → length nodes + l < length backs
seen_end nodes lists backs free ordered seen l s =
    let lt = lists_within nodes lists seen l s.is s.within in
    let count = s.kept.backed.count in
    let len = length-chains_of nodes lists in
    omega arith

pub seen_nodes : (nodes : List Node) (lists : List Chain) (backs : List Link) (free : Chain) (ordered : Bool) (seen : List (List ℕ)) (l : ℕ)
    → IsSeen nodes lists backs free ordered seen l → length nodes ≤ length backs
seen_nodes nodes lists backs free ordered seen l s = let count = s.kept.backed.count in omega arith

pub seen_order : (nodes : List Node) (lists : List Chain) (backs : List Link) (free : Chain) (ordered : Bool) (seen : List (List ℕ)) (l : ℕ)
    → IsSeen nodes lists backs free ordered seen l → ordered ≡ true → IsNonDecreasing (map (item_of nodes) (chain_of nodes (chain_at lists l)))
seen_order nodes lists backs free ordered seen l s up =
    let lt = lists_within nodes lists seen l s.is s.within in
    rw (sym (lists_of-get_or nodes lists l lt)) (s.kept.order up l)

all_ascend : (nodes : List Node) (lists : List Chain) (backs : List Link) (free : Chain) (ordered : Bool) (seen : List (List ℕ)) (l : ℕ)
    → IsSeen nodes lists backs free ordered seen l → ordered ≡ true → (m : ℕ) → IsNonDecreasing (slice_index_or seen m [])
all_ascend nodes lists backs free ordered seen l s up m = rw (sym s.is) (s.kept.order up m)

pub PoolIsKept-put : (nodes new : List Node) (lists new_lists : List Chain) (backs new_backs : List Link) (free rest : Chain) (ordered : Bool)
    (seen : List (List ℕ)) (l item : ℕ) → IsSeen nodes lists backs free ordered seen l
    → IsPool new new_lists rest → IsBacked new_backs (length new) (chains_of new new_lists)
    → lists_of new new_lists ≡ slice_set seen l (insert (slice_index_or seen l []) (position_or_len (nat_lt item) (slice_index_or seen l [])) item)
    → PoolIsKept new new_lists new_backs rest ordered
PoolIsKept-put nodes new lists new_lists backs new_backs free rest ordered seen l item s pool backed are = record {
  pool = pool;
  backed = backed;
  order = λ up m.
      let all = all_ascend nodes lists backs free ordered seen l s up in
      rw are (ascends-set seen l _ s.within all (ascends-insert item (slice_index_or seen l []) (all l)) m);
}

pub PoolIsKept-taken : (nodes new : List Node) (lists new_lists : List Chain) (backs new_backs : List Link) (free rest : Chain) (ordered : Bool)
    (seen : List (List ℕ)) (l at : ℕ) → IsSeen nodes lists backs free ordered seen l
    → IsPool new new_lists rest → IsBacked new_backs (length new) (chains_of new new_lists)
    → lists_of new new_lists ≡ slice_set seen l (remove (slice_index_or seen l []) at) → at < length (slice_index_or seen l [])
    → PoolIsKept new new_lists new_backs rest ordered
PoolIsKept-taken nodes new lists new_lists backs new_backs free rest ordered seen l at s pool backed are lt = record {
  pool = pool;
  backed = backed;
  order = λ up m.
      let all = all_ascend nodes lists backs free ordered seen l s up in
      rw are (ascends-set seen l _ s.within all (ascends-remove at (slice_index_or seen l []) lt (all l)) m);
}

pub rest_seen : (xs ys : List ℕ) (item at : ℕ) → xs ≡ ys → remove xs at ≡ remove xs (position_or_len (λ x. x == item) xs)
    → remove ys at ≡ remove ys (position_or_len (λ x. x == item) ys)
rest_seen xs ys item at same rest = rw same at rest

get_or-replicate_default : {A : Type 0} (n i : ℕ) (d : A) → get_or (replicate n d) i d ≡ d
get_or-replicate_default zero i d = refl
get_or-replicate_default (suc n) zero d = refl
get_or-replicate_default (suc n) (suc i) d = get_or-replicate_default n i d

pub chains_of-empty : (nodes : List Node) (n : ℕ) → chains_of nodes (replicate n no_chain) ≡ replicate n []
chains_of-empty nodes zero = refl
chains_of-empty nodes (suc n) = ap (λ (t : List (List ℕ)). [] ∷ t) (chains_of-empty nodes n)

leads-empty : (n end : ℕ) → LeadsBack (replicate n no_link) end []
leads-empty n end = ap (λ (link : Link). link.0 ∷ []) (get_or-replicate_default n end no_link)

pub PoolIsKept-fresh : (nodes : List Node) (n lists : ℕ) → IsFresh nodes n → n < node_bound
    → PoolIsKept nodes (replicate lists no_chain) (replicate (n + lists) no_link) (record { first = record { 0 = 0 }; len = n }) true
PoolIsKept-fresh nodes n lists s few = record {
  pool = IsPool-fresh nodes n lists s few;
  backed = record {
    count =
        let links = length-replicate (n + lists) no_link in
        let chains = length-chains_of nodes (replicate lists no_chain) ∙ length-replicate lists no_chain in
        omega (arith, s.count);
    leads = λ l lt. rw (chains_of-empty, get_or-replicate_default) (leads-empty (n + lists) (length nodes + l));
  };
  order = λ up m. rw (lists_of-empty, get_or-replicate_default) (IsNonDecreasingBy-short (λ x. x) [] (omega arith));
}

-- the node that is known of the first of an item of a list
pub record IsKnown (nodes : List Node) (lists : List Chain) (backs : List Link) (free : Chain) (ordered : Bool) (seen seen_nodes : List (List ℕ))
    (l item node : ℕ) : Type 0 where
  pub seen_is : IsSeen nodes lists backs free ordered seen l
  pub nodes_are : chains_of nodes lists ≡ seen_nodes
  pub found : 0 < uses item (slice_index_or seen l [])
  pub is : node ≡ slice_index (slice_index_or seen_nodes l []) (position_or_len (λ x. x == item) (slice_index_or seen l []))

-- what `take` asks of a node at a place of a list
pub take_asks : (nodes : List Node) (lists : List Chain) (backs : List Link) (free : Chain) (ordered : Bool) (seen : List (List ℕ)) (l k : ℕ)
    (node : Link) → IsSeen nodes lists backs free ordered seen l → k < (chain_at lists l).len
    → node.0 ≡ after nodes k (chain_at lists l).first.0
    → IsPool nodes lists free × (IsBacked backs (length nodes) (chains_of nodes lists) × ((l < length lists)
    × ((place_in (chain_of nodes (chain_at lists l)) node.0 < (chain_at lists l).len)
    × (node.0 ≡ after nodes (place_in (chain_of nodes (chain_at lists l)) node.0) (chain_at lists l).first.0))))
take_asks nodes lists backs free ordered seen l k node s lt is =
    let within = lists_within nodes lists seen l s.is s.within in
    let at : place_in (chain_of nodes (chain_at lists l)) node.0 ≡ k =
    node_place nodes (chain_at lists l) k node.0 (list_is_chain nodes lists free l s.kept.pool within) lt is in
    (s.kept.pool, (s.kept.backed, (within, (rw at lt, rw at is))))

-- where that node stands
pub taken_place : (nodes : List Node) (lists : List Chain) (backs : List Link) (free : Chain) (ordered : Bool) (seen : List (List ℕ)) (l k : ℕ)
    (node : Link) → IsSeen nodes lists backs free ordered seen l → k < (chain_at lists l).len
    → node.0 ≡ after nodes k (chain_at lists l).first.0 → place_in (chain_of nodes (chain_at lists l)) node.0 ≡ k
taken_place nodes lists backs free ordered seen l k node s lt is =
    let within = lists_within nodes lists seen l s.is s.within in
    node_place nodes (chain_at lists l) k node.0 (list_is_chain nodes lists free l s.kept.pool within) lt is

pub seen_lt : (nodes : List Node) (lists : List Chain) (backs : List Link) (free : Chain) (ordered : Bool) (seen : List (List ℕ)) (l at : ℕ)
    → IsSeen nodes lists backs free ordered seen l → at < length (slice_index_or seen l []) → at < (chain_at lists l).len
seen_lt nodes lists backs free ordered seen l at s lt = let len = seen-length nodes lists seen l s.is s.within in omega arith

pub seen_way : (nodes : List Node) (lists : List Chain) (backs : List Link) (free : Chain) (ordered : Bool) (seen : List (List ℕ)) (l at : ℕ)
    → IsSeen nodes lists backs free ordered seen l → at < length (slice_index_or seen l [])
    → after nodes at (chain_at lists l).first.0 < length nodes
seen_way nodes lists backs free ordered seen l at s lt =
    let within = lists_within nodes lists seen l s.is s.within in
    on_way nodes (chain_at lists l).len (chain_at lists l).first.0 at (list_is_chain nodes lists free l s.kept.pool within)
    (seen_lt nodes lists backs free ordered seen l at s lt)

pub known_lt : (nodes : List Node) (lists : List Chain) (backs : List Link) (free : Chain) (ordered : Bool) (seen seen_nodes : List (List ℕ))
    (l item node : ℕ) → IsKnown nodes lists backs free ordered seen seen_nodes l item node
    → position_or_len (λ x. x == item) (slice_index_or seen l []) < length (slice_index_or seen l [])
known_lt nodes lists backs free ordered seen seen_nodes l item node s = found_at item (slice_index_or seen l []) s.found

pub known_is : (nodes : List Node) (lists : List Chain) (backs : List Link) (free : Chain) (ordered : Bool) (seen seen_nodes : List (List ℕ))
    (l item node : ℕ) → IsKnown nodes lists backs free ordered seen seen_nodes l item node
    → node ≡ after nodes (position_or_len (λ x. x == item) (slice_index_or seen l [])) (chain_at lists l).first.0
known_is nodes lists backs free ordered seen seen_nodes l item node s =
    let at = position_or_len (λ x. x == item) (slice_index_or seen l []) in
    let within = lists_within nodes lists seen l s.seen_is.is s.seen_is.within in
    let lt = seen_lt nodes lists backs free ordered seen l at s.seen_is (known_lt nodes lists backs free ordered seen seen_nodes l item node s) in
    s.is
    ∙ ap (λ (t : List (List ℕ)). slice_index (slice_index_or t l []) at) (sym s.nodes_are)
    ∙ ap (λ (t : List ℕ). slice_index t at) (chains_of-get_or nodes lists l within)
    ∙ path-get_or nodes at (chain_at lists l).len (chain_at lists l).first.0 lt

pub known_within : (nodes : List Node) (lists : List Chain) (backs : List Link) (free : Chain) (ordered : Bool) (seen seen_nodes : List (List ℕ))
    (l item node : ℕ) → IsKnown nodes lists backs free ordered seen seen_nodes l item node → node < length nodes
known_within nodes lists backs free ordered seen seen_nodes l item node s =
    rw (known_is nodes lists backs free ordered seen seen_nodes l item node s)
    (seen_way nodes lists backs free ordered seen l _ s.seen_is (known_lt nodes lists backs free ordered seen seen_nodes l item node s))

pub known_item : (nodes : List Node) (lists : List Chain) (backs : List Link) (free : Chain) (ordered : Bool) (seen seen_nodes : List (List ℕ))
    (l item node : ℕ) → IsKnown nodes lists backs free ordered seen seen_nodes l item node → item_of nodes node ≡ item
known_item nodes lists backs free ordered seen seen_nodes l item node s =
    let at = position_or_len (λ x. x == item) (slice_index_or seen l []) in
    let in_list = known_lt nodes lists backs free ordered seen seen_nodes l item node s in
    let lt = seen_lt nodes lists backs free ordered seen l at s.seen_is in_list in
    ap (item_of nodes) (known_is nodes lists backs free ordered seen seen_nodes l item node s)
    ∙ sym (item-get_or nodes (chain_at lists l) at lt)
    ∙ ap (λ (t : List ℕ). slice_index t at) (seen-items_at nodes lists seen l s.seen_is.is s.seen_is.within)
    ∙ eqb-true (slice_index (slice_index_or seen l []) at) item (passes_at_first (λ x. x == item) (slice_index_or seen l []) 0 in_list)

-- so it may be taken, and stands at the place of the item
pub known_asks : (nodes : List Node) (lists : List Chain) (backs : List Link) (free : Chain) (ordered : Bool) (seen seen_nodes : List (List ℕ))
    (l item node : ℕ) → IsKnown nodes lists backs free ordered seen seen_nodes l item node
    → IsPool nodes lists free × (IsBacked backs (length nodes) (chains_of nodes lists) × ((l < length lists)
    × ((place_in (chain_of nodes (chain_at lists l)) node < (chain_at lists l).len)
    × (node ≡ after nodes (place_in (chain_of nodes (chain_at lists l)) node) (chain_at lists l).first.0))))
known_asks nodes lists backs free ordered seen seen_nodes l item node s =
    take_asks nodes lists backs free ordered seen l (position_or_len (λ x. x == item) (slice_index_or seen l [])) (record { 0 = node }) s.seen_is
    (seen_lt nodes lists backs free ordered seen l _ s.seen_is (known_lt nodes lists backs free ordered seen seen_nodes l item node s))
    (known_is nodes lists backs free ordered seen seen_nodes l item node s)

pub known_place : (nodes : List Node) (lists : List Chain) (backs : List Link) (free : Chain) (ordered : Bool) (seen seen_nodes : List (List ℕ))
    (l item node : ℕ) → IsKnown nodes lists backs free ordered seen seen_nodes l item node
    → place_in (chain_of nodes (chain_at lists l)) node ≡ position_or_len (λ x. x == item) (slice_index_or seen l [])
known_place nodes lists backs free ordered seen seen_nodes l item node s =
    taken_place nodes lists backs free ordered seen l (position_or_len (λ x. x == item) (slice_index_or seen l [])) (record { 0 = node }) s.seen_is
    (seen_lt nodes lists backs free ordered seen l _ s.seen_is (known_lt nodes lists backs free ordered seen seen_nodes l item node s))
    (known_is nodes lists backs free ordered seen seen_nodes l item node s)

-- the node at a place stands before the next place
pub behind_is : (nodes : List Node) (chain : Chain) (at : ℕ) (next : Place) → IsPlace nodes chain next → next.at ≡ at + 1
    → next.before.0 ≡ after nodes at chain.first.0
behind_is nodes chain at next s is =
    let e : next.at - 1 ≡ at = omega arith in
    s.before (omega arith) ∙ ap (λ (k : ℕ). after nodes k chain.first.0) e
