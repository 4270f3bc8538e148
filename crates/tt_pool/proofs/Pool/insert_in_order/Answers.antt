use Rattle.std.proofs.Common.{◌≡◌, ◌∙◌, ap, List, [], ℕ, get_or-set_other}
use Rattle.std.specs.Prelude.{slice_set, slice_index_or, nat_lt}
use Rattle.std.specs.List.{insert, position_or_len}
use Rattle.std.proofs.lemmas.List.{with_items_is}
use Rattle.tt_pool.specs.Pools.{Pooled, chains_of, lists_of}
use Rattle.tt_pool.proofs.PoolLemmas.{list_chain, seen-items_at}
use Rattle.tt_pool.proofs.KeptLemmas.{seen_leads, seen_end, seen_order, PoolIsKept-put}
use Rattle.tt_pool.proofs.Pool.insert_in_order.Goals as goal

pub place_to_put-place-requires-clause-chain : goal.place_to_put-place-requires-clause-chain
place_to_put-place-requires-clause-chain c =
    let is = ap (λ (p : Pooled). p.lists) c.self.view_is in
    rw (c.as_mut_slice-nodes.ensures.value, c.as_mut_slice-lists.ensures.value)
    (list_chain _ _ _ _ c.args.list c.self.invariant.pool is c.requires.list)

pub place_to_put-place-requires-clause-back : goal.place_to_put-place-requires-clause-back
place_to_put-place-requires-clause-back c =
    rw (c.as_mut_slice-nodes.ensures.value, c.as_mut_slice-lists.ensures.value, c.as_mut_slice-backs.ensures.value)
    (seen_leads _ _ _ _ _ _ c.args.list
    (record {
      kept = c.self.invariant;
      is = ap (λ (p : Pooled). p.lists) c.self.view_is;
      within = c.requires.list;
    }))

pub place_to_put-place-requires-clause-end : goal.place_to_put-place-requires-clause-end
place_to_put-place-requires-clause-end c =
    rw (c.as_mut_slice-nodes.ensures.value, c.as_mut_slice-backs.ensures.value)
    (seen_end _ _ _ _ _ _ c.args.list
    (record {
      kept = c.self.invariant;
      is = ap (λ (p : Pooled). p.lists) c.self.view_is;
      within = c.requires.list;
    }))

pub place_to_put-place-requires-clause-order : goal.place_to_put-place-requires-clause-order
place_to_put-place-requires-clause-order c =
    rw (c.as_mut_slice-nodes.ensures.value, c.as_mut_slice-lists.ensures.value)
    (seen_order _ _ _ _ _ _ c.args.list
    (record {
      kept = c.self.invariant;
      is = ap (λ (p : Pooled). p.lists) c.self.view_is;
      within = c.requires.list;
    }))

pub returns-clause-lists : goal.returns-clause-lists
returns-clause-lists c =
    let is = ap (λ (p : Pooled). p.lists) c.self.view_is in
    let at_is : c.place_to_put-place.result.at ≡ position_or_len (nat_lt c.args.item) (slice_index_or c.args.self.now.lists c.args.list []) =
    c.place_to_put-place.ensures.at
    ∙ ap (position_or_len (nat_lt c.args.item))
    (rw (c.as_mut_slice-nodes.ensures.value, c.as_mut_slice-lists.ensures.value) (seen-items_at _ _ _ c.args.list is c.requires.list)) in
    let same : lists_of c.as_mut_slice-nodes.result.now c.as_mut_slice-lists.result.now ≡ c.args.self.now.lists =
    rw (c.as_mut_slice-nodes.ensures.value, c.as_mut_slice-lists.ensures.value) is in
    rw (
      with_items_is c.self.inside.nodes c.put-self-inside.new.nodes (c.put-self-inside.auto.nodes ∙ c.as_mut_slice-nodes.ensures.len),
      with_items_is c.self.inside.lists c.put-self-inside.new.lists (c.put-self-inside.auto.lists ∙ c.as_mut_slice-lists.ensures.len),
    )
    (c.put-self-inside.ensures.lists
    ∙ ap (λ (t : List (List ℕ)). slice_set t c.args.list (insert (slice_index_or t c.args.list []) c.place_to_put-place.result.at c.args.item)) same
    ∙ ap (λ (at : ℕ). slice_set c.args.self.now.lists c.args.list (insert (slice_index_or c.args.self.now.lists c.args.list []) at c.args.item)) at_is)

pub invariant_of-self : goal.invariant_of-self
invariant_of-self c =
    let is = ap (λ (p : Pooled). p.lists) c.self.view_is in
    let at_is : c.place_to_put-place.result.at ≡ position_or_len (nat_lt c.args.item) (slice_index_or c.args.self.now.lists c.args.list []) =
    c.place_to_put-place.ensures.at
    ∙ ap (position_or_len (nat_lt c.args.item))
    (rw (c.as_mut_slice-nodes.ensures.value, c.as_mut_slice-lists.ensures.value) (seen-items_at _ _ _ c.args.list is c.requires.list)) in
    let same : lists_of c.as_mut_slice-nodes.result.now c.as_mut_slice-lists.result.now ≡ c.args.self.now.lists =
    rw (c.as_mut_slice-nodes.ensures.value, c.as_mut_slice-lists.ensures.value) is in
    rw (
      with_items_is c.self.inside.nodes c.put-self-inside.new.nodes (c.put-self-inside.auto.nodes ∙ c.as_mut_slice-nodes.ensures.len),
      with_items_is c.self.inside.lists c.put-self-inside.new.lists (c.put-self-inside.auto.lists ∙ c.as_mut_slice-lists.ensures.len),
      with_items_is c.self.inside.backs c.put-self-inside.new.backs (c.put-self-inside.auto.backs ∙ c.as_mut_slice-backs.ensures.len),
    )
    (PoolIsKept-put _ c.put-self-inside.new.nodes _ c.put-self-inside.new.lists _ c.put-self-inside.new.backs _ _ _ c.args.self.now.lists c.args.list c.args.item
    (record {
      kept = c.self.invariant;
      is = ap (λ (p : Pooled). p.lists) c.self.view_is;
      within = c.requires.list;
    })
    c.put-self-inside.ensures.pool c.put-self-inside.ensures.backs
    (c.put-self-inside.ensures.lists
    ∙ ap (λ (t : List (List ℕ)). slice_set t c.args.list (insert (slice_index_or t c.args.list []) c.place_to_put-place.result.at c.args.item)) same
    ∙ ap (λ (at : ℕ). slice_set c.args.self.now.lists c.args.list (insert (slice_index_or c.args.self.now.lists c.args.list []) at c.args.item)) at_is))

pub returns-clause-others : goal.returns-clause-others
returns-clause-others c other ne =
    let same : chains_of c.as_mut_slice-nodes.result.now c.as_mut_slice-lists.result.now ≡ c.args.self.now.nodes =
    rw (c.as_mut_slice-nodes.ensures.value, c.as_mut_slice-lists.ensures.value) (ap (λ (p : Pooled). p.nodes) c.self.view_is) in
    rw (
      with_items_is c.self.inside.nodes c.put-self-inside.new.nodes (c.put-self-inside.auto.nodes ∙ c.as_mut_slice-nodes.ensures.len),
      with_items_is c.self.inside.lists c.put-self-inside.new.lists (c.put-self-inside.auto.lists ∙ c.as_mut_slice-lists.ensures.len),
    )
    (ap (λ (t : List (List ℕ)). slice_index_or t other [])
    (c.put-self-inside.ensures.chains
    ∙ ap (λ (t : List (List ℕ)). slice_set t c.args.list (insert (slice_index_or t c.args.list []) c.place_to_put-place.result.at c.self.inside.free.first.0)) same)
    ∙ get_or-set_other c.args.self.now.nodes c.args.list other _ [] ne)
