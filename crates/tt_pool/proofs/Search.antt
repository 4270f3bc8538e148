-- A walk that looks for an item.
use Rattle.std.proofs.Common.{◌≡◌, ◌∙◌, sym, ap, ℕ, ◌+◌, ◌-◌, ◌<◌, ◌≤◌, List, length, get_or, map, arith, Bool, true, false, below_more, inl, inr, [], ◌∷◌}
use Rattle.std.specs.Prelude.{◌==◌}
use Rattle.std.specs.List.{position_or_len}
use Rattle.std.proofs.lemmas.Bool.{cases_eq, eq-eqb, ne_eqb}
use Rattle.std.proofs.lemmas.List.{length-map, get_or-map}
use Rattle.std.proofs.lemmas.List.Sums.{position_or_len_is}
use Rattle.tt_pool.specs.declared.chain.Node.{Node}
use Rattle.tt_pool.specs.declared.chain.Chain.{Chain}
use Rattle.tt_pool.specs.Chains.{next_of, item_of, after, chain_of, uses, IsSearched}
use Rattle.tt_pool.proofs.Paths.{uses_other, after_more, path-get_or, length-path}

pub item-get_or : (nodes : List Node) (chain : Chain) (k : ℕ) → k < chain.len
    → get_or (map (item_of nodes) (chain_of nodes chain)) k 0 ≡ item_of nodes (after nodes k chain.first.0)
item-get_or nodes chain k lt =
    get_or-map (item_of nodes) (chain_of nodes chain) k 0 0 (rw length-path lt)
    ∙ ap (item_of nodes) (path-get_or nodes k chain.len chain.first.0 lt)

pub length-items : (nodes : List Node) (chain : Chain) → length (map (item_of nodes) (chain_of nodes chain)) ≡ chain.len
length-items nodes chain = length-map (chain_of nodes chain) (item_of nodes) ∙ length-path nodes chain.len chain.first.0

none_before : (nodes : List Node) (chain : Chain) (at before node : ℕ) (f : ℕ → Bool) → IsSearched nodes chain.first.0 at before node f → at ≤ chain.len
    → (k : ℕ) → k < at → f (get_or (map (item_of nodes) (chain_of nodes chain)) k 0) ≡ false
none_before nodes chain at before node f s le k lt = ap f (item-get_or nodes chain k (omega arith)) ∙ s.others k lt

pub place_found : (nodes : List Node) (chain : Chain) (at before node : ℕ) (f : ℕ → Bool) → IsSearched nodes chain.first.0 at before node f
    → at < chain.len → f (item_of nodes node) ≡ true
    → at ≡ position_or_len f (map (item_of nodes) (chain_of nodes chain))
place_found nodes chain at before node f s lt is =
    let all = length-items nodes chain in
    sym (position_or_len_is f (map (item_of nodes) (chain_of nodes chain)) at 0 (omega arith)
    (none_before nodes chain at before node f s (omega arith))
    (λ here. ap f (item-get_or nodes chain at lt) ∙ ap (λ (n : ℕ). f (item_of nodes n)) (sym s.node_is) ∙ is))

pub place_none : (nodes : List Node) (chain : Chain) (at before node : ℕ) (f : ℕ → Bool) → IsSearched nodes chain.first.0 at before node f
    → at ≤ chain.len → chain.len ≤ at
    → chain.len ≡ position_or_len f (map (item_of nodes) (chain_of nodes chain))
place_none nodes chain at before node f s le ge =
    let all = length-items nodes chain in
    let e : chain.len ≡ at = omega arith in
    e ∙ sym (position_or_len_is f (map (item_of nodes) (chain_of nodes chain)) at 0 (omega arith)
    (none_before nodes chain at before node f s le)
    (λ here. absurd (omega arith)))

pub searched_more : (nodes : List Node) (first at before node : ℕ) (f : ℕ → Bool) → IsSearched nodes first at before node f → f (item_of nodes node) ≡ false
    → IsSearched nodes first (at + 1) node (next_of nodes node) f
searched_more nodes first at before node f s fails = record {
  before_is = λ some. let e : at + 1 - 1 ≡ at = omega arith in rw e s.node_is;
  node_is = ap (next_of nodes) s.node_is ∙ sym (after_more nodes at first);
  others = below_more _ _ s.others (ap (λ (n : ℕ). f (item_of nodes n)) (sym s.node_is) ∙ fails);
}

-- an item that stands in a list has a first place there
pub found_at : (item : ℕ) (xs : List ℕ) → 0 < uses item xs → position_or_len (λ x. x == item) xs < length xs
found_at item [] used = absurd (omega arith)
found_at item (x ∷ xs) used = elim (cases_eq x item) [
  | inl e ↦ rw (eq-eqb x item e) (omega arith)
  | inr ne ↦
      let other = uses_other item x xs ne in
      let rest = found_at item xs (omega arith) in
      rw (ne_eqb x item ne) (omega arith)
]
