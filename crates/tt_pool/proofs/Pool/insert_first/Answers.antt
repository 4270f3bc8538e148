use Rattle.std.proofs.Common.{◌≡◌, ◌∙◌, ap, List, [], ◌∷◌, ℕ}
use Rattle.std.specs.Prelude.{slice_set, slice_index_or}
use Rattle.std.proofs.lemmas.List.{with_items_is}
use Rattle.tt_pool.specs.Pools.{Pooled, chains_of, lists_of}
use Rattle.tt_pool.proofs.Pool.insert_first.Goals as goal

pub returns-clause-lists : goal.returns-clause-lists
returns-clause-lists c =
    let same : lists_of c.as_mut_slice-nodes.result.now c.as_mut_slice-lists.result.now ≡ c.args.self.now.lists =
    rw (c.as_mut_slice-nodes.ensures.value, c.as_mut_slice-lists.ensures.value) (ap (λ (p : Pooled). p.lists) c.self.view_is) in
    rw (
      with_items_is c.self.inside.nodes c.put-self-inside.new.nodes (c.put-self-inside.auto.nodes ∙ c.as_mut_slice-nodes.ensures.len),
      with_items_is c.self.inside.lists c.put-self-inside.new.lists (c.put-self-inside.auto.lists ∙ c.as_mut_slice-lists.ensures.len),
    )
    (c.put-self-inside.ensures.lists
    ∙ ap (λ (t : List (List ℕ)). slice_set t c.args.list (c.args.item ∷ slice_index_or t c.args.list [])) same)

pub returns-clause-nodes : goal.returns-clause-nodes
returns-clause-nodes c =
    let same : chains_of c.as_mut_slice-nodes.result.now c.as_mut_slice-lists.result.now ≡ c.args.self.now.nodes =
    rw (c.as_mut_slice-nodes.ensures.value, c.as_mut_slice-lists.ensures.value) (ap (λ (p : Pooled). p.nodes) c.self.view_is) in
    rw (
      with_items_is c.self.inside.nodes c.put-self-inside.new.nodes (c.put-self-inside.auto.nodes ∙ c.as_mut_slice-nodes.ensures.len),
      with_items_is c.self.inside.lists c.put-self-inside.new.lists (c.put-self-inside.auto.lists ∙ c.as_mut_slice-lists.ensures.len),
    )
    (c.put-self-inside.ensures.chains
    ∙ ap (λ (t : List (List ℕ)). slice_set t c.args.list (c.self.inside.free.first.0 ∷ slice_index_or t c.args.list [])) same)
