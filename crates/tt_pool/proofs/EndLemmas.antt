-- The places at the end of a chain, and the way back from there.
use Rattle.std.proofs.Common.{◌≡◌, ◌≢◌, ◌∙◌, sym, ap, refl, inl, inr, ℕ, ◌+◌, ◌-◌, ◌<◌, ◌≤◌, zero, suc, List, [], ◌∷◌, ◌++◌, length, get_or, map, arith}
use Rattle.std.specs.Prelude.{◌==◌, nat_lt, slice_index, slice_index_or, slice_set}
use Rattle.std.specs.List.{insert, remove, position_or_len}
use Rattle.std.specs.List.Sorted.{IsNonDecreasing}
use Rattle.std.proofs.lemmas.Bool.{cases_eq, cases_lt, eq-eqb, ne_eqb}
use Rattle.std.proofs.lemmas.List.{get_or-map, get_or_append_left, get_or_push, length_push}
use Rattle.tt_pool.specs.declared.chain.Link.{Link}
use Rattle.tt_pool.specs.declared.chain.Node.{Node}
use Rattle.tt_pool.specs.declared.chain.Chain.{Chain}
use Rattle.tt_pool.specs.declared.places.Place.{Place}
use Rattle.tt_pool.specs.Chains.{no_node, no_link, next_of, item_of, after, chain_of, uses, IsChain, IsPlace, IsNodeAt, StandsAt, back_of, LeadsBack}
use Rattle.tt_pool.specs.Pools.{chains_of, chain_at, place_in, IsPool, IsBacked}
use Rattle.tt_pool.proofs.Paths.{after_more, after_used, on_way, next_on_way, path-get_or, length-path}
use Rattle.tt_pool.proofs.Moves.{IsChain-from_pair}
use Rattle.tt_pool.proofs.Search.{item-get_or, length-items, found_at}
use Rattle.tt_pool.proofs.PoolLemmas.{pair_with_free, length-chains_of, chains_of-get_or}
use Rattle.tt_pool.proofs.OrderLemmas.{none_above, last_taken}
use Rattle.tt_pool.proofs.Ways.{other_than, once_first, once_rest, AreApart, back_last, back_on_way, behind_within, behind_below, IsBacked-put, IsBacked-taken}

pub IsPlace-next : (nodes : List Node) (chain : Chain) (place : Place) → IsPlace nodes chain place → place.at ≢ 0 → place.at < chain.len
    → IsPlace nodes chain (record { at = place.at + 1; before = (slice_index_or nodes place.before.0 no_node).next })
IsPlace-next nodes chain place s some lt = record {
  within = omega (arith, lt);
  before = λ more.
      let e : place.at + 1 - 1 ≡ place.at = omega arith in
      rw e (next_on_way nodes place.before.0 place.at chain.first.0 some (s.before some));
}

pub end_is : (nodes : List Node) (chain : Chain) (at end : ℕ) → at ≡ chain.len → end ≡ slice_index (chain_of nodes chain ++ end ∷ []) at
end_is nodes chain at end is =
    sym (get_or_push (chain_of nodes chain) end 0 at (length-path nodes chain.len chain.first.0 ∙ sym is))

pub node_is : (nodes : List Node) (chain : Chain) (at end : ℕ) (next : Place) → at < chain.len → IsPlace nodes chain next → next.at ≡ at + 1
    → next.before.0 ≡ slice_index (chain_of nodes chain ++ end ∷ []) at
node_is nodes chain at end next lt s next_at =
    let some : next.at ≢ 0 = omega arith in
    let e : next.at - 1 ≡ at = omega arith in
    let len = length-path nodes chain.len chain.first.0 in
    s.before some
    ∙ ap (λ (k : ℕ). after nodes k chain.first.0) e
    ∙ sym (get_or_append_left (chain_of nodes chain) (end ∷ []) 0 at (omega arith) ∙ path-get_or nodes at chain.len chain.first.0 lt)

pub last_within : (nodes : List Node) (backs : List Link) (chain : Chain) (end : ℕ) → IsChain nodes (chain_of nodes chain)
    → LeadsBack backs end (chain_of nodes chain) → 0 < chain.len → back_of backs end < length nodes
last_within nodes backs chain end s leads some =
    let lt : chain.len - 1 < chain.len = omega arith in
    rw (back_last nodes backs chain end leads (omega arith)) (on_way nodes chain.len chain.first.0 (chain.len - 1) s lt)

pub IsPlace-end : (nodes : List Node) (backs : List Link) (chain : Chain) (end : ℕ) → LeadsBack backs end (chain_of nodes chain)
    → IsPlace nodes chain (record { at = chain.len; before = slice_index_or backs end no_link })
IsPlace-end nodes backs chain end leads = record {
  within = omega arith;
  before = λ some. back_last nodes backs chain end leads some;
}

pub IsPlace-last : (nodes : List Node) (backs : List Link) (chain : Chain) (end : ℕ) → LeadsBack backs end (chain_of nodes chain)
    → IsPlace nodes chain (record { at = chain.len - 1; before = slice_index_or backs (slice_index_or backs end no_link).0 no_link })
IsPlace-last nodes backs chain end leads = record {
  within = omega arith;
  before = λ some.
      let lt : chain.len - 1 < chain.len = omega arith in
      ap (back_of backs) (back_last nodes backs chain end leads (omega arith))
      ∙ back_on_way nodes backs chain end (chain.len - 1) leads lt some;
}

last_item : (nodes : List Node) (backs : List Link) (chain : Chain) (end : ℕ) → LeadsBack backs end (chain_of nodes chain) → 0 < chain.len
    → get_or (map (item_of nodes) (chain_of nodes chain)) (length (map (item_of nodes) (chain_of nodes chain)) - 1) 0
    ≡ item_of nodes (back_of backs end)
last_item nodes backs chain end leads some =
    ap (λ (n : ℕ). get_or (map (item_of nodes) (chain_of nodes chain)) (n - 1) 0) (length-items nodes chain)
    ∙ item-get_or nodes chain (chain.len - 1) (omega arith)
    ∙ ap (item_of nodes) (sym (back_last nodes backs chain end leads (omega arith)))

pub place-end : (nodes : List Node) (backs : List Link) (chain : Chain) (end item : ℕ) → LeadsBack backs end (chain_of nodes chain)
    → IsNonDecreasing (map (item_of nodes) (chain_of nodes chain)) → 0 < chain.len → item_of nodes (back_of backs end) ≤ item
    → chain.len ≡ position_or_len (nat_lt item) (map (item_of nodes) (chain_of nodes chain))
place-end nodes backs chain end item leads order some le =
    let len = length-items nodes chain in
    let last = last_item nodes backs chain end leads some in
    sym len ∙ none_above item (map (item_of nodes) (chain_of nodes chain)) order (omega arith) (omega (arith, last, le))

pub found_some : (nodes : List Node) (chain : Chain) (item : ℕ) → 0 < uses item (map (item_of nodes) (chain_of nodes chain)) → 0 < chain.len
found_some nodes chain item found =
    let lt = found_at item (map (item_of nodes) (chain_of nodes chain)) found in
    let len = length-items nodes chain in
    omega arith

pub found_within : (nodes : List Node) (chain : Chain) (item at : ℕ) → 0 < uses item (map (item_of nodes) (chain_of nodes chain))
    → at ≡ position_or_len (λ x. x == item) (map (item_of nodes) (chain_of nodes chain)) → at < chain.len
found_within nodes chain item at found is =
    let lt = found_at item (map (item_of nodes) (chain_of nodes chain)) found in
    let len = length-items nodes chain in
    omega arith

pub rest-last : (nodes : List Node) (backs : List Link) (chain : Chain) (end item : ℕ) → LeadsBack backs end (chain_of nodes chain)
    → IsNonDecreasing (map (item_of nodes) (chain_of nodes chain)) → 0 < uses item (map (item_of nodes) (chain_of nodes chain))
    → item_of nodes (back_of backs end) ≡ item
    → remove (map (item_of nodes) (chain_of nodes chain)) (chain.len - 1)
    ≡ remove (map (item_of nodes) (chain_of nodes chain)) (position_or_len (λ x. x == item) (map (item_of nodes) (chain_of nodes chain)))
rest-last nodes backs chain end item leads order found is =
    let items = map (item_of nodes) (chain_of nodes chain) in
    let last = last_item nodes backs chain end leads (found_some nodes chain item found) in
    ap (λ (n : ℕ). remove items (n - 1)) (sym (length-items nodes chain)) ∙ last_taken item items order found (last ∙ is)

pub list_is_chain : (nodes : List Node) (lists : List Chain) (free : Chain) (l : ℕ) → IsPool nodes lists free → l < length lists
    → IsChain nodes (chain_of nodes (chain_at lists l))
list_is_chain nodes lists free l s lt = IsChain-from_pair nodes _ _ (pair_with_free nodes lists free l s lt)

pool_apart : (nodes : List Node) (lists : List Chain) (free : Chain) → IsPool nodes lists free
    → AreApart (chain_of nodes free) (chains_of nodes lists) (length nodes)
pool_apart nodes lists free s = record { once = s.once; within = s.within }

-- what stands before a place
before_is : (nodes : List Node) (chain : Chain) (place : Place) (before : Link) → IsPlace nodes chain place
    → (place.at ≡ 0 → before.0 ≡ 0) → (place.at ≢ 0 → before.0 ≡ place.before.0)
    → before.0 ≡ get_or (0 ∷ chain_of nodes chain) place.at 0
before_is nodes chain place before s first other = elim (cases_eq place.at 0) [
  | inl e ↦ first e ∙ sym (ap (λ (k : ℕ). get_or (0 ∷ chain_of nodes chain) k 0) e)
  | inr some ↦
      let e : place.at ≡ suc (place.at - 1) = omega arith in
      let within = s.within in
      let lt : place.at - 1 < chain.len = omega arith in
      let to : get_or (0 ∷ chain_of nodes chain) place.at 0 ≡ get_or (chain_of nodes chain) (place.at - 1) 0 =
      ap (λ (k : ℕ). get_or (0 ∷ chain_of nodes chain) k 0) e in
      other some ∙ s.before some ∙ sym (to ∙ path-get_or nodes (place.at - 1) chain.len chain.first.0 lt)
]

length-chain : (nodes : List Node) (lists : List Chain) (l : ℕ) → l < length lists
    → length (get_or (chains_of nodes lists) l []) ≡ (chain_at lists l).len
length-chain nodes lists l lt =
    ap length (chains_of-get_or nodes lists l lt) ∙ length-path nodes (chain_at lists l).len (chain_at lists l).first.0

-- the node at a place of a list, or its end
pub record IsBehind (nodes : List Node) (lists : List Chain) (free : Chain) (backs : List Link) (l at behind : ℕ) : Type 0 where
  pub pool : IsPool nodes lists free
  pub backed : IsBacked backs (length nodes) (chains_of nodes lists)
  pub within : l < length lists
  pub at_within : at ≤ (chain_at lists l).len
  pub is : behind ≡ slice_index (chain_of nodes (chain_at lists l) ++ (length nodes + l) ∷ []) at

behind_is : (nodes : List Node) (lists : List Chain) (free : Chain) (backs : List Link) (l at behind : ℕ)
    → IsBehind nodes lists free backs l at behind
    → behind ≡ get_or (get_or (chains_of nodes lists) l [] ++ (length nodes + l) ∷ []) at 0
behind_is nodes lists free backs l at behind s =
    s.is ∙ ap (λ (t : List ℕ). get_or (t ++ (length nodes + l) ∷ []) at 0) (sym (chains_of-get_or nodes lists l s.within))

pub behind-fits : (nodes : List Node) (lists : List Chain) (free : Chain) (backs : List Link) (l at behind : ℕ)
    → IsBehind nodes lists free backs l at behind → behind ≤ length nodes + l
behind-fits nodes lists free backs l at behind s =
    let len = length-chain nodes lists l s.within in
    let le = s.at_within in
    behind_below (chain_of nodes free) (chains_of nodes lists) (length nodes) l at behind (pool_apart nodes lists free s.pool)
    (rw length-chains_of s.within) (omega arith) (behind_is nodes lists free backs l at behind s)

pub behind-within : (nodes : List Node) (lists : List Chain) (free : Chain) (backs : List Link) (l at behind : ℕ)
    → IsBehind nodes lists free backs l at behind → behind < length backs
behind-within nodes lists free backs l at behind s =
    let len = length-chain nodes lists l s.within in
    let le = s.at_within in
    behind_within (chain_of nodes free) (chains_of nodes lists) backs (length nodes) l at behind (pool_apart nodes lists free s.pool) s.backed
    (rw length-chains_of s.within) (omega arith) (behind_is nodes lists free backs l at behind s)

pub free_within : (nodes : List Node) (lists : List Chain) (free : Chain) (backs : List Link) → IsPool nodes lists free
    → IsBacked backs (length nodes) (chains_of nodes lists) → 1 ≤ free.len → free.first.0 < length backs
free_within nodes lists free backs s b some =
    let used : 0 < uses free.first.0 (chain_of nodes free) = after_used nodes 0 free.len free.first.0 (omega arith) in
    let h : free.first.0 < length nodes = s.within free.first.0 (omega arith) in
    let c = b.count in
    omega arith

pub backed-put : (nodes : List Node) (lists : List Chain) (free : Chain) (backs : List Link) (l behind : ℕ) (place : Place) (before : Link)
    → IsBehind nodes lists free backs l place.at behind → IsPlace nodes (chain_at lists l) place → 1 ≤ free.len
    → (place.at ≡ 0 → before.0 ≡ 0) → (place.at ≢ 0 → before.0 ≡ place.before.0)
    → IsBacked (slice_set (slice_set backs free.first.0 before) behind free.first) (length nodes)
    (slice_set (chains_of nodes lists) l (insert (slice_index_or (chains_of nodes lists) l []) place.at free.first.0))
backed-put nodes lists free backs l behind place before s place_is some first other =
    let len = length-chain nodes lists l s.within in
    let le = s.at_within in
    let used : 0 < uses free.first.0 (chain_of nodes free) = after_used nodes 0 free.len free.first.0 (omega arith) in
    IsBacked-put (chain_of nodes free) (chains_of nodes lists) backs (length nodes) l place.at free.first.0 behind before free.first
    (pool_apart nodes lists free s.pool) s.backed (rw length-chains_of s.within) (omega arith) used refl
    (behind_is nodes lists free backs l place.at behind s)
    (before_is nodes (chain_at lists l) place before place_is first other
    ∙ ap (λ (t : List ℕ). get_or (0 ∷ t) place.at 0) (sym (chains_of-get_or nodes lists l s.within)))

-- each node of a list stands at one place
own_place : (xs : List ℕ) (at : ℕ) → ((p : ℕ) → uses p xs ≤ 1) → at < length xs → position_or_len (λ x. x == get_or xs at 0) xs ≡ at
own_place [] at once lt = absurd (omega arith)
own_place (x ∷ xs) zero once lt = rw (eq-eqb x x refl) refl
own_place (x ∷ xs) (suc at) once lt =
    let ne : x ≢ get_or xs at 0 = other_than x at xs (once_first x xs once) (omega arith) in
    let rest = own_place xs at (once_rest x xs once) (omega arith) in
    rw (ne_eqb x (get_or xs at 0) ne) (omega (arith, rest))

pub node_place : (nodes : List Node) (chain : Chain) (at node : ℕ) → IsChain nodes (chain_of nodes chain) → at < chain.len
    → node ≡ after nodes at chain.first.0 → place_in (chain_of nodes chain) node ≡ at
node_place nodes chain at node s lt is =
    let same : node ≡ get_or (chain_of nodes chain) at 0 = is ∙ sym (path-get_or nodes at chain.len chain.first.0 lt) in
    rw same (own_place (chain_of nodes chain) at s.once (rw length-path lt))

-- where a node stands that is the last one
last_place : (nodes : List Node) (backs : List Link) (end : ℕ) (chain : Chain) (at : ℕ) (node : Link) → StandsAt nodes backs end chain at node
    → back_of backs end ≡ node.0 → at + 1 ≡ chain.len
last_place nodes backs end chain at node s same =
    let within = s.within in
    let last : node.0 ≡ after nodes (chain.len - 1) chain.first.0 = sym same ∙ back_last nodes backs chain end s.leads (omega arith) in
    let here = node_place nodes chain at node.0 s.chain_is s.within s.node_is in
    let there = node_place nodes chain (chain.len - 1) node.0 s.chain_is (omega arith) last in
    omega arith

pub behind_last : (nodes : List Node) (backs : List Link) (end : ℕ) (chain : Chain) (at : ℕ) (node : Link) → StandsAt nodes backs end chain at node
    → back_of backs end ≡ node.0 → end ≡ slice_index (chain_of nodes chain ++ end ∷ []) (at + 1)
behind_last nodes backs end chain at node s same = end_is nodes chain (at + 1) end (last_place nodes backs end chain at node s same)

pub behind_other : (nodes : List Node) (backs : List Link) (end : ℕ) (chain : Chain) (at : ℕ) (node : Link) → StandsAt nodes backs end chain at node
    → back_of backs end ≢ node.0 → next_of nodes node.0 ≡ slice_index (chain_of nodes chain ++ end ∷ []) (at + 1)
behind_other nodes backs end chain at node s other =
    let within = s.within in
    let more : at + 1 < chain.len = elim (cases_lt (at + 1) chain.len) [
      | inl lt ↦ lt
      | inr ge ↦
          let e : chain.len - 1 ≡ at = omega arith in
          let last = back_last nodes backs chain end s.leads (omega arith) in
          absurd (other (last ∙ ap (λ (k : ℕ). after nodes k chain.first.0) e ∙ sym s.node_is))
    ] in
    let len = length-path nodes chain.len chain.first.0 in
    ap (next_of nodes) s.node_is
    ∙ sym (after_more nodes at chain.first.0)
    ∙ sym (get_or_append_left (chain_of nodes chain) (end ∷ []) 0 (at + 1) (omega arith) ∙ path-get_or nodes (at + 1) chain.len chain.first.0 more)

-- a node at a place of a list, in a pool with its way back
pub record IsTaken (nodes : List Node) (lists : List Chain) (backs : List Link) (free : Chain) (l at : ℕ) (node : Link) : Type 0 where
  pub pool : IsPool nodes lists free
  pub backed : IsBacked backs (length nodes) (chains_of nodes lists)
  pub within : l < length lists
  pub at_within : at < (chain_at lists l).len
  pub node_is : node.0 ≡ after nodes at (chain_at lists l).first.0

pub taken : (nodes : List Node) (lists : List Chain) (backs : List Link) (free : Chain) (l at : ℕ) (node : Link)
    → IsPool nodes lists free × (IsBacked backs (length nodes) (chains_of nodes lists) × ((l < length lists) × ((at < (chain_at lists l).len)
    × (node.0 ≡ after nodes at (chain_at lists l).first.0)))) → IsTaken nodes lists backs free l at node
taken nodes lists backs free l at node s =
    record { pool = s.0; backed = s.1.0; within = s.1.1.0; at_within = s.1.1.1.0; node_is = s.1.1.1.1 }

pub taken_stands : (nodes : List Node) (lists : List Chain) (backs : List Link) (free : Chain) (l at : ℕ) (node : Link)
    → IsTaken nodes lists backs free l at node → StandsAt nodes backs (length nodes + l) (chain_at lists l) at node
taken_stands nodes lists backs free l at node s = record {
  chain_is = list_is_chain nodes lists free l s.pool s.within;
  leads = rw (chains_of-get_or nodes lists l s.within) at (s.backed.leads l (rw length-chains_of s.within));
  within = s.at_within;
  node_is = s.node_is;
}

pub taken_within : (nodes : List Node) (lists : List Chain) (backs : List Link) (free : Chain) (l at : ℕ) (node : Link)
    → IsTaken nodes lists backs free l at node → node.0 < length nodes
taken_within nodes lists backs free l at node s =
    rw s.node_is (on_way nodes (chain_at lists l).len (chain_at lists l).first.0 at (list_is_chain nodes lists free l s.pool s.within) s.at_within)

pub taken_links : (nodes : List Node) (lists : List Chain) (backs : List Link) (free : Chain) (l at : ℕ) (node : Link)
    → IsTaken nodes lists backs free l at node → (length nodes + l < length backs) × (node.0 < length backs)
taken_links nodes lists backs free l at node s =
    let count = s.backed.count in
    let len = length-chains_of nodes lists in
    let lt = s.within in
    let node_lt = taken_within nodes lists backs free l at node s in
    (omega arith, omega arith)

pub taken_before : (nodes : List Node) (lists : List Chain) (backs : List Link) (free : Chain) (l at : ℕ) (node : Link)
    → IsTaken nodes lists backs free l at node → IsNodeAt nodes (chain_at lists l) at node (slice_index_or backs node.0 no_link)
taken_before nodes lists backs free l at node s = record {
  within = s.at_within;
  node_is = s.node_is;
  before_is = λ some.
      ap (back_of backs) s.node_is
      ∙ back_on_way nodes backs (chain_at lists l) (length nodes + l) at (taken_stands nodes lists backs free l at node s).leads s.at_within some;
}

pub taken_behind : (nodes : List Node) (lists : List Chain) (backs : List Link) (free : Chain) (l at behind : ℕ) (node : Link)
    → IsTaken nodes lists backs free l at node → behind ≡ slice_index (chain_of nodes (chain_at lists l) ++ (length nodes + l) ∷ []) (at + 1)
    → IsBehind nodes lists free backs l (at + 1) behind
taken_behind nodes lists backs free l at behind node s is = record {
  pool = s.pool;
  backed = s.backed;
  within = s.within;
  at_within = omega (arith, s.at_within);
  is = is;
}

-- what stands before a node, as its way back has it
back_is : (nodes : List Node) (backs : List Link) (end : ℕ) (chain : Chain) (at : ℕ) (node : Link) → StandsAt nodes backs end chain at node
    → back_of backs node.0 ≡ get_or (0 ∷ chain_of nodes chain) at 0
back_is nodes backs end chain at node s =
    let xs = chain_of nodes chain in
    let len = length-path nodes chain.len chain.first.0 in
    let whole = length_push xs end in
    let within = s.within in
    ap (back_of backs) (s.node_is ∙ sym (path-get_or nodes at chain.len chain.first.0 s.within) ∙ sym (get_or_append_left xs (end ∷ []) 0 at (omega arith)))
    ∙ sym (get_or-map (back_of backs) (xs ++ end ∷ []) at 0 0 (omega arith))
    ∙ ap (λ (t : List ℕ). get_or t at 0) s.leads

pub backed-taken : (nodes : List Node) (lists : List Chain) (backs : List Link) (free : Chain) (l at behind : ℕ) (node : Link)
    → IsTaken nodes lists backs free l at node → behind ≡ slice_index (chain_of nodes (chain_at lists l) ++ (length nodes + l) ∷ []) (at + 1)
    → IsBacked (slice_set backs behind (slice_index_or backs node.0 no_link)) (length nodes)
    (slice_set (chains_of nodes lists) l (remove (slice_index_or (chains_of nodes lists) l []) at))
backed-taken nodes lists backs free l at behind node s is =
    let len = length-chain nodes lists l s.within in
    let lt = s.at_within in
    IsBacked-taken (chain_of nodes free) (chains_of nodes lists) backs (length nodes) l at behind (slice_index_or backs node.0 no_link)
    (pool_apart nodes lists free s.pool) s.backed (rw length-chains_of s.within) (omega arith)
    (behind_is nodes lists free backs l (at + 1) behind (taken_behind nodes lists backs free l at behind node s is))
    (back_is nodes backs (length nodes + l) (chain_at lists l) at node (taken_stands nodes lists backs free l at node s)
    ∙ ap (λ (t : List ℕ). get_or (0 ∷ t) at 0) (sym (chains_of-get_or nodes lists l s.within)))
