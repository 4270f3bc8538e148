use Rattle.std.proofs.Common.{◌≡◌, ◌∙◌, ap, List, [], ℕ}
use Rattle.std.specs.Prelude.{◌==◌, slice_set, slice_index_or}
use Rattle.std.specs.List.{remove, position_or_len}
use Rattle.std.proofs.lemmas.List.{with_items_is}
use Rattle.tt_pool.specs.Chains.{chain_of}
use Rattle.tt_pool.specs.Pools.{Pooled, chain_at, place_in, chains_of, lists_of}
use Rattle.tt_pool.proofs.KeptLemmas.{IsKnown, PoolIsKept-taken, known_lt, known_asks, known_place, known_within, known_item}
use Rattle.tt_pool.proofs.Pool.remove_at_node.Goals as goal
use Rattle.tt_pool.proofs.Pool.remove_at_node.Goals.{After-as_mut_slice-backs, After-take}

-- the node that is known
known : (c : After-as_mut_slice-backs)
    → IsKnown c.self.inside.nodes.items c.self.inside.lists.items c.self.inside.backs.items c.self.inside.free c.self.inside.ordered c.args.self.now.lists c.args.self.now.nodes c.args.list c.args.item c.args.node
known c = record {
  seen_is = record { kept = c.self.invariant; is = ap (λ (p : Pooled). p.lists) c.self.view_is; within = c.requires.list };
  nodes_are = ap (λ (p : Pooled). p.nodes) c.self.view_is;
  found = c.requires.found;
  is = c.requires.node;
}

pub bounds-nodes-node : goal.bounds-nodes-node
bounds-nodes-node c =
    rw c.as_mut_slice-nodes.ensures.value (known_within _ _ _ _ _ _ _ c.args.list c.args.item c.args.node (known (goal.at.bounds-nodes-node c).After-as_mut_slice-backs))

pub prove-unreachable-requires : goal.prove-unreachable-requires
prove-unreachable-requires c =
    c.if-prove.true (rw c.as_mut_slice-nodes.ensures.value (known_item _ _ _ _ _ _ _ c.args.list c.args.item c.args.node (known (goal.at.prove-unreachable-requires c).After-as_mut_slice-backs)))

pub take-requires : goal.take-requires
take-requires c =
    rw (c.as_mut_slice-nodes.ensures.value, c.as_mut_slice-lists.ensures.value, c.as_mut_slice-backs.ensures.value)
    (known_asks _ _ _ _ _ _ _ c.args.list c.args.item c.args.node (known (goal.at.take-requires c).After-as_mut_slice-backs))

-- the place at which the node stands
at_is : (c : After-as_mut_slice-backs) → place_in (chain_of c.as_mut_slice-nodes.result.now (chain_at c.as_mut_slice-lists.result.now c.args.list)) c.args.node ≡ position_or_len (λ x. x == c.args.item) (slice_index_or c.args.self.now.lists c.args.list [])
at_is c = rw (c.as_mut_slice-nodes.ensures.value, c.as_mut_slice-lists.ensures.value) (known_place _ _ _ _ _ _ _ c.args.list c.args.item c.args.node (known c))

-- the lists without the item
lists_are : (c : After-take) → place_in (chain_of c.as_mut_slice-nodes.result.now (chain_at c.as_mut_slice-lists.result.now c.args.list)) c.args.node ≡ position_or_len (λ x. x == c.args.item) (slice_index_or c.args.self.now.lists c.args.list [])
    → lists_of c.take.new.nodes c.take.new.lists
    ≡ slice_set c.args.self.now.lists c.args.list (remove (slice_index_or c.args.self.now.lists c.args.list []) (position_or_len (λ x. x == c.args.item) (slice_index_or c.args.self.now.lists c.args.list [])))
lists_are c at =
    let same : lists_of c.as_mut_slice-nodes.result.now c.as_mut_slice-lists.result.now ≡ c.args.self.now.lists =
    rw (c.as_mut_slice-nodes.ensures.value, c.as_mut_slice-lists.ensures.value) (ap (λ (p : Pooled). p.lists) c.self.view_is) in
    c.take.ensures.lists
    ∙ ap (λ (t : List (List ℕ)). slice_set t c.args.list (remove (slice_index_or t c.args.list []) (place_in (chain_of c.as_mut_slice-nodes.result.now (chain_at c.as_mut_slice-lists.result.now c.args.list)) c.args.node))) same
    ∙ ap (λ (k : ℕ). slice_set c.args.self.now.lists c.args.list (remove (slice_index_or c.args.self.now.lists c.args.list []) k)) at

pub returns-clause-lists : goal.returns-clause-lists
returns-clause-lists c =
    rw (
      with_items_is c.self.inside.nodes c.take.new.nodes (c.take.auto.nodes ∙ c.as_mut_slice-nodes.ensures.len),
      with_items_is c.self.inside.lists c.take.new.lists (c.take.auto.lists ∙ c.as_mut_slice-lists.ensures.len),
    )
    (lists_are (goal.at.returns-clause-lists c).After-take (at_is (goal.at.returns-clause-lists c).After-as_mut_slice-backs))

pub returns-clause-nodes : goal.returns-clause-nodes
returns-clause-nodes c =
    let same : chains_of c.as_mut_slice-nodes.result.now c.as_mut_slice-lists.result.now ≡ c.args.self.now.nodes =
    rw (c.as_mut_slice-nodes.ensures.value, c.as_mut_slice-lists.ensures.value) (ap (λ (p : Pooled). p.nodes) c.self.view_is) in
    rw (
      with_items_is c.self.inside.nodes c.take.new.nodes (c.take.auto.nodes ∙ c.as_mut_slice-nodes.ensures.len),
      with_items_is c.self.inside.lists c.take.new.lists (c.take.auto.lists ∙ c.as_mut_slice-lists.ensures.len),
    )
    (c.take.ensures.chains
    ∙ ap (λ (t : List (List ℕ)). slice_set t c.args.list (remove (slice_index_or t c.args.list []) (place_in (chain_of c.as_mut_slice-nodes.result.now (chain_at c.as_mut_slice-lists.result.now c.args.list)) c.args.node))) same
    ∙ ap (λ (at : ℕ). slice_set c.args.self.now.nodes c.args.list (remove (slice_index_or c.args.self.now.nodes c.args.list []) at)) (at_is (goal.at.returns-clause-nodes c).After-as_mut_slice-backs))

pub invariant_of-self : goal.invariant_of-self
invariant_of-self c =
    rw (
      with_items_is c.self.inside.nodes c.take.new.nodes (c.take.auto.nodes ∙ c.as_mut_slice-nodes.ensures.len),
      with_items_is c.self.inside.lists c.take.new.lists (c.take.auto.lists ∙ c.as_mut_slice-lists.ensures.len),
      with_items_is c.self.inside.backs c.take.new.backs (c.take.auto.backs ∙ c.as_mut_slice-backs.ensures.len),
    )
    (PoolIsKept-taken _ c.take.new.nodes _ c.take.new.lists _ c.take.new.backs _ _ _ c.args.self.now.lists c.args.list (position_or_len (λ x. x == c.args.item) (slice_index_or c.args.self.now.lists c.args.list []))
    (known (goal.at.invariant_of-self c).After-as_mut_slice-backs).seen_is c.take.ensures.pool c.take.ensures.backs (lists_are (goal.at.invariant_of-self c).After-take (at_is (goal.at.invariant_of-self c).After-as_mut_slice-backs))
    (known_lt _ _ _ _ _ _ _ c.args.list c.args.item c.args.node (known (goal.at.invariant_of-self c).After-as_mut_slice-backs)))
