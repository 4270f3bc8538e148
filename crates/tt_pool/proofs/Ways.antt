-- The way back through a chain, while the chain changes.
use Rattle.std.proofs.Common.{◌≡◌, ◌≢◌, ◌∙◌, sym, ap, refl, inl, inr, ℕ, ◌+◌, ◌-◌, ◌<◌, ◌≤◌, zero, suc, List, [], ◌∷◌, ◌++◌, length, get_or, drop, map, arith, get_or-set_same, get_or-set_other, add-one}
use Rattle.std.specs.Prelude.{slice_set}
use Rattle.std.specs.List.{insert, remove, sum_by}
use Rattle.std.proofs.lemmas.Bool.{cases_eq, cases_lt}
use Rattle.std.proofs.lemmas.List.{length-set, get_or-map, get_or_append_left, get_or_push, length_push}
use Rattle.std.proofs.lemmas.List.Sums.{sum_by-set, get_or-le-sum_by}
use Rattle.tt_pool.specs.declared.chain.Link.{Link}
use Rattle.tt_pool.specs.declared.chain.Node.{Node}
use Rattle.tt_pool.specs.declared.chain.Chain.{Chain}
use Rattle.tt_pool.specs.Chains.{no_link, after, chain_of, uses, back_of, LeadsBack}
use Rattle.tt_pool.specs.Pools.{IsBacked}
use Rattle.tt_pool.proofs.Paths.{uses_here, uses_other, less_after_first, not_first, not_after_first, path-get_or, length-path}
use Rattle.tt_pool.proofs.Moves.{uses-append, uses_at}

-- two functions that agree on a list
map_same : (f g : ℕ → ℕ) (xs : List ℕ) → ((z : ℕ) → 0 < uses z xs → g z ≡ f z) → map g xs ≡ map f xs
map_same f g [] same = refl
map_same f g (x ∷ xs) same =
    let rest = map_same f g xs (λ (z : ℕ) (used : 0 < uses z xs). let h = less_after_first z x xs in same z (omega arith)) in
    let h = uses_here x xs in
    let here = same x (omega arith) in
    rw (rest, here) refl

-- an item that isn't in a list is none of its items
pub other_than : (x i : ℕ) (xs : List ℕ) → uses x xs ≡ 0 → i < length xs → x ≢ get_or xs i 0
other_than x i xs none lt e = let used = uses_at xs i x e lt in omega arith

not_used : (y z : ℕ) (xs : List ℕ) → uses y xs ≡ 0 → 0 < uses z xs → z ≢ y
not_used y z xs none used e = let h : uses z xs ≡ 0 = rw e none in omega arith

pub once_first : (x : ℕ) (xs : List ℕ) → ((p : ℕ) → uses p (x ∷ xs) ≤ 1) → uses x xs ≡ 0
once_first x xs once = let h = uses_here x xs in let o = once x in omega arith

pub once_rest : (x : ℕ) (xs : List ℕ) → ((p : ℕ) → uses p (x ∷ xs) ≤ 1) → (p : ℕ) → uses p xs ≤ 1
once_rest x xs once p = let h = less_after_first p x xs in let o = once p in omega arith

within_end : (k end : ℕ) (xs : List ℕ) → k ≤ length xs → k < length (xs ++ end ∷ [])
within_end k end xs le = let h = length_push xs end in omega arith

-- an item comes in
back-put : (f g : ℕ → ℕ) (first end y at : ℕ) (xs : List ℕ) → at ≤ length xs → map f (xs ++ end ∷ []) ≡ first ∷ xs
    → ((p : ℕ) → uses p (xs ++ end ∷ []) ≤ 1) → uses y (xs ++ end ∷ []) ≡ 0
    → g y ≡ get_or (first ∷ xs) at 0 → g (get_or (xs ++ end ∷ []) at 0) ≡ y
    → ((z : ℕ) → z ≢ y → z ≢ get_or (xs ++ end ∷ []) at 0 → g z ≡ f z)
    → map g (insert xs at y ++ end ∷ []) ≡ first ∷ insert xs at y
back-put f g first end y zero [] le is once none from to others = rw (from, to) refl
back-put f g first end y zero (x ∷ xs) le is once none from to others =
    let zs = xs ++ end ∷ [] in
    let rest : map g zs ≡ map f zs =
    map_same f g zs (λ (z : ℕ) (used : 0 < uses z zs).
    others z (not_used y z zs (not_after_first y x zs none) used) (not_used x z zs (once_first x zs once) used)) in
    let old : map f zs ≡ x ∷ xs = ap (drop 1) is in
    rw (from, to, rest, old) refl
back-put f g first end y (suc k) [] le is once none from to others = absurd (omega arith)
back-put f g first end y (suc k) (x ∷ xs) le is once none from to others =
    let zs = xs ++ end ∷ [] in
    let within = within_end k end xs (omega arith) in
    let here : g x ≡ first = others x (not_first y x zs none) (other_than x k zs (once_first x zs once) within) ∙ ap (λ (t : List ℕ). get_or t 0 0) is in
    let rest = back-put f g x end y k xs (omega arith) (ap (drop 1) is) (once_rest x zs once) (not_after_first y x zs none) from to others in
    rw (here, rest) refl

-- an item goes
back-take : (f g : ℕ → ℕ) (first end at : ℕ) (xs : List ℕ) → at < length xs → map f (xs ++ end ∷ []) ≡ first ∷ xs
    → ((p : ℕ) → uses p (xs ++ end ∷ []) ≤ 1)
    → g (get_or (xs ++ end ∷ []) (suc at) 0) ≡ get_or (first ∷ xs) at 0
    → ((z : ℕ) → z ≢ get_or (xs ++ end ∷ []) (suc at) 0 → g z ≡ f z)
    → map g (remove xs at ++ end ∷ []) ≡ first ∷ remove xs at
back-take f g first end zero [] lt is once to others = absurd (omega arith)
back-take f g first end zero (x ∷ []) lt is once to others = rw to refl
back-take f g first end zero (x ∷ z ∷ xs) lt is once to others =
    let zs = xs ++ end ∷ [] in
    let rest : map g zs ≡ map f zs =
    map_same f g zs (λ (p : ℕ) (used : 0 < uses p zs). others p (not_used z p zs (once_first z zs (once_rest x (z ∷ zs) once)) used)) in
    let old : map f zs ≡ z ∷ xs = ap (drop 2) is in
    rw (to, rest, old) refl
back-take f g first end (suc k) [] lt is once to others = absurd (omega arith)
back-take f g first end (suc k) (x ∷ xs) lt is once to others =
    let zs = xs ++ end ∷ [] in
    let within = within_end (suc k) end xs (omega arith) in
    let here : g x ≡ first = others x (other_than x (suc k) zs (once_first x zs once) within) ∙ ap (λ (t : List ℕ). get_or t 0 0) is in
    let rest = back-take f g x end k xs (omega arith) (ap (drop 1) is) (once_rest x zs once) to others in
    rw (here, rest) refl

-- nodes below a number, of which none is in two chains or twice in one
pub record AreApart (free : List ℕ) (chains : List (List ℕ)) (size : ℕ) : Type 0 where
  pub once : (p : ℕ) → uses p free + sum_by (uses p) chains ≤ 1
  pub within : (p : ℕ) → 0 < uses p free + sum_by (uses p) chains → p < size

uses_end : (p end : ℕ) (xs : List ℕ) → end ≢ p → uses p (xs ++ end ∷ []) ≡ uses p xs
uses_end p end xs ne =
    let a = uses-append p xs (end ∷ []) in
    let b : uses p (end ∷ []) ≡ 0 = uses_other p end [] ne in
    omega arith

uses_its_end : (end : ℕ) (xs : List ℕ) → uses end (xs ++ end ∷ []) ≡ uses end xs + 1
uses_its_end end xs =
    let a = uses-append end xs (end ∷ []) in
    let b : uses end (end ∷ []) ≡ 1 = uses_here end [] in
    omega arith

-- a chain with its end
once_with_end : (size l : ℕ) (xs : List ℕ) → ((p : ℕ) → uses p xs ≤ 1) → ((p : ℕ) → 0 < uses p xs → p < size) → (p : ℕ)
    → uses p (xs ++ (size + l) ∷ []) ≤ 1
once_with_end size l xs once within p = elim (cases_eq (size + l) p) [
  | inl e ↦
      let own = uses_its_end (size + l) xs in
      let none : uses (size + l) xs ≤ 0 = elim (cases_lt 0 (uses (size + l) xs)) [
        | inl used ↦ absurd (let h = within (size + l) used in omega arith)
        | inr le ↦ le
      ] in
      rw (sym e) (omega arith)
  | inr ne ↦ let same = uses_end p (size + l) xs ne in let o = once p in omega arith
]

-- two chains with their ends
ends_apart : (size l m : ℕ) (xs ys : List ℕ) → m ≢ l → ((p : ℕ) → uses p xs + uses p ys ≤ 1)
    → ((p : ℕ) → 0 < uses p xs + uses p ys → p < size) → (p : ℕ)
    → 0 < uses p (xs ++ (size + m) ∷ []) → uses p (ys ++ (size + l) ∷ []) ≡ 0
ends_apart size l m xs ys ne once within p used = elim (cases_lt p size) [
  | inl lt ↦
      let a = uses_end p (size + m) xs (λ e. absurd (omega (arith, e, lt))) in
      let b = uses_end p (size + l) ys (λ e. absurd (omega (arith, e, lt))) in
      let o = once p in
      omega arith
  | inr ge ↦
      let none : uses p xs + uses p ys ≤ 0 = elim (cases_lt 0 (uses p xs + uses p ys)) [
        | inl some ↦ absurd (let h = within p some in omega arith)
        | inr le ↦ le
      ] in
      elim (cases_eq (size + m) p) [
        | inl e ↦
            let b = uses_end p (size + l) ys (λ h. ne (omega (arith, e, h))) in
            omega arith
        | inr other ↦ let a = uses_end p (size + m) xs other in absurd (omega arith)
      ]
]

one_of : (chains : List (List ℕ)) (l p : ℕ) → l < length chains → uses p (get_or chains l []) ≤ sum_by (uses p) chains
one_of chains l p lt = get_or-le-sum_by (uses p) chains l [] lt

two_of : (chains : List (List ℕ)) (l m p : ℕ) → l < length chains → m < length chains → m ≢ l
    → uses p (get_or chains m []) + uses p (get_or chains l []) ≤ sum_by (uses p) chains
two_of chains l m p lt lt_m ne =
    let less = sum_by-set (uses p) chains l [] [] lt in
    let kept = length-set chains l [] in
    let h_m : m < length (slice_set chains l []) = rw kept lt_m in
    let one = get_or-le-sum_by (uses p) (slice_set chains l []) m [] h_m in
    let at_m = ap (uses p) (get_or-set_other chains l m [] [] ne) in
    omega arith

apart_ends : (free : List ℕ) (chains : List (List ℕ)) (size l m : ℕ) → AreApart free chains size → l < length chains → m < length chains
    → m ≢ l → (p : ℕ) → 0 < uses p (get_or chains m [] ++ (size + m) ∷ []) → uses p (get_or chains l [] ++ (size + l) ∷ []) ≡ 0
apart_ends free chains size l m s lt lt_m ne p used =
    ends_apart size l m (get_or chains m []) (get_or chains l []) ne
    (λ (q : ℕ). let two = two_of chains l m q lt lt_m ne in let o = s.once q in omega arith)
    (λ (q : ℕ) (some : 0 < uses q (get_or chains m []) + uses q (get_or chains l [])).
    let two = two_of chains l m q lt lt_m ne in s.within q (omega arith))
    p used

own_once : (free : List ℕ) (chains : List (List ℕ)) (size l : ℕ) → AreApart free chains size → l < length chains → (p : ℕ)
    → uses p (get_or chains l [] ++ (size + l) ∷ []) ≤ 1
own_once free chains size l s lt =
    once_with_end size l (get_or chains l [])
    (λ (q : ℕ). let one = one_of chains l q lt in let o = s.once q in omega arith)
    (λ (q : ℕ) (some : 0 < uses q (get_or chains l [])). let one = one_of chains l q lt in s.within q (omega arith))

-- a free node is in no chain, and no end
free_apart : (free : List ℕ) (chains : List (List ℕ)) (size m y : ℕ) → AreApart free chains size → m < length chains → 0 < uses y free
    → uses y (get_or chains m [] ++ (size + m) ∷ []) ≡ 0
free_apart free chains size m y s lt used =
    let one = one_of chains m y lt in
    let o = s.once y in
    let below : y < size = s.within y (omega arith) in
    let same = uses_end y (size + m) (get_or chains m []) (λ e. absurd (omega (arith, e, below))) in
    omega arith

-- one chain gets another way back, and the others keep theirs
backed-changed : (backs new : List Link) (chains : List (List ℕ)) (size l : ℕ) (chain : List ℕ) → IsBacked backs size chains
    → l < length chains → length new ≡ length backs → LeadsBack new (size + l) chain
    → ((m : ℕ) → m < length chains → m ≢ l → (p : ℕ) → 0 < uses p (get_or chains m [] ++ (size + m) ∷ []) → back_of new p ≡ back_of backs p)
    → IsBacked new size (slice_set chains l chain)
backed-changed backs new chains size l chain s lt len here others = record {
  count = let h = length-set chains l chain in let c = s.count in omega arith;
  leads = λ m lt_m.
      let kept = length-set chains l chain in
      let lt_old : m < length chains = omega (arith, kept, lt_m) in
      elim (cases_eq m l) [
        | inl e ↦ rw (e, get_or-set_same chains l chain [] lt) here
        | inr ne ↦
            let same = map_same (back_of backs) (back_of new) (get_or chains m [] ++ (size + m) ∷ []) (others m lt_old ne) in
            rw (get_or-set_other chains l m chain [] ne) (same ∙ s.leads m lt_old)
      ];
}

back-set_same : (backs : List Link) (i : ℕ) (v : Link) → i < length backs → back_of (slice_set backs i v) i ≡ v.0
back-set_same backs i v lt = ap (λ (n : Link). n.0) (get_or-set_same backs i v no_link lt)

back-set_other : (backs : List Link) (i j : ℕ) (v : Link) → j ≢ i → back_of (slice_set backs i v) j ≡ back_of backs j
back-set_other backs i j v ne = ap (λ (n : Link). n.0) (get_or-set_other backs i j v no_link ne)

-- what stands in a list of nodes and an end is below what the links reach
pub behind_within : (free : List ℕ) (chains : List (List ℕ)) (backs : List Link) (size l at behind : ℕ) → AreApart free chains size
    → IsBacked backs size chains → l < length chains → at ≤ length (get_or chains l [])
    → behind ≡ get_or (get_or chains l [] ++ (size + l) ∷ []) at 0 → behind < length backs
behind_within free chains backs size l at behind s b lt le is =
    let chain = get_or chains l [] in
    let c = b.count in
    let used : 0 < uses behind (chain ++ (size + l) ∷ []) = uses_at (chain ++ (size + l) ∷ []) at behind is (within_end at (size + l) chain le) in
    elim (cases_eq (size + l) behind) [
      | inl e ↦ omega (arith, c, e, lt)
      | inr ne ↦
          let same = uses_end behind (size + l) chain ne in
          let one = one_of chains l behind lt in
          let below : behind < size = s.within behind (omega arith) in
          omega arith
    ]

pub behind_below : (free : List ℕ) (chains : List (List ℕ)) (size l at behind : ℕ) → AreApart free chains size
    → l < length chains → at ≤ length (get_or chains l [])
    → behind ≡ get_or (get_or chains l [] ++ (size + l) ∷ []) at 0 → behind ≤ size + l
behind_below free chains size l at behind s lt le is =
    let chain = get_or chains l [] in
    let used : 0 < uses behind (chain ++ (size + l) ∷ []) = uses_at (chain ++ (size + l) ∷ []) at behind is (within_end at (size + l) chain le) in
    elim (cases_eq (size + l) behind) [
      | inl e ↦ omega (arith, e)
      | inr ne ↦
          let same = uses_end behind (size + l) chain ne in
          let one = one_of chains l behind lt in
          let below : behind < size = s.within behind (omega arith) in
          omega arith
    ]

pub IsBacked-put : (free : List ℕ) (chains : List (List ℕ)) (backs : List Link) (size l at y behind : ℕ) (before node : Link)
    → AreApart free chains size → IsBacked backs size chains → l < length chains → at ≤ length (get_or chains l []) → 0 < uses y free
    → node.0 ≡ y → behind ≡ get_or (get_or chains l [] ++ (size + l) ∷ []) at 0 → before.0 ≡ get_or (0 ∷ get_or chains l []) at 0
    → IsBacked (slice_set (slice_set backs y before) behind node) size (slice_set chains l (insert (get_or chains l []) at y))
IsBacked-put free chains backs size l at y behind before node s b lt le used node_is behind_is before_is =
    backed-changed backs new chains size l (insert chain at y) b lt
    (length-set (slice_set backs y before) behind node ∙ length-set backs y before)
    (back-put (back_of backs) (back_of new) 0 (size + l) y at chain le (b.leads l lt) (own_once free chains size l s lt) apart
    (from ∙ before_is) (rw (sym behind_is) to) own_others)
    others
  where
    chain : List ℕ
    chain = get_or chains l []

    new : List Link
    new = slice_set (slice_set backs y before) behind node

    apart : uses y (chain ++ (size + l) ∷ []) ≡ 0
    apart = free_apart free chains size l y s lt used

    behind_used : 0 < uses behind (chain ++ (size + l) ∷ [])
    behind_used = uses_at (chain ++ (size + l) ∷ []) at behind behind_is (within_end at (size + l) chain le)

    y_other : y ≢ behind
    y_other e = not_used y behind (chain ++ (size + l) ∷ []) apart behind_used (sym e)

    y_within : y < length backs
    y_within = let h : y < size = s.within y (omega (arith, used)) in let c = b.count in omega arith

    from : back_of new y ≡ before.0
    from = back-set_other (slice_set backs y before) behind y node y_other ∙ back-set_same backs y before y_within

    to : back_of new behind ≡ y
    to =
        back-set_same (slice_set backs y before) behind node
        (rw length-set (behind_within free chains backs size l at behind s b lt le behind_is))
        ∙ node_is

    apart_from : (z : ℕ) → z ≢ y → z ≢ behind → back_of new z ≡ back_of backs z
    apart_from z ne_y ne = back-set_other (slice_set backs y before) behind z node ne ∙ back-set_other backs y z before ne_y

    own_others : (z : ℕ) → z ≢ y → z ≢ get_or (chain ++ (size + l) ∷ []) at 0 → back_of new z ≡ back_of backs z
    own_others z ne_y ne = apart_from z ne_y (λ e. ne (e ∙ behind_is))

    others : (m : ℕ) → m < length chains → m ≢ l → (p : ℕ) → 0 < uses p (get_or chains m [] ++ (size + m) ∷ []) → back_of new p ≡ back_of backs p
    others m lt_m ne p used_p =
        apart_from p
        (not_used y p (get_or chains m [] ++ (size + m) ∷ []) (free_apart free chains size m y s lt_m used) used_p)
        (λ e. let none = apart_ends free chains size l m s lt lt_m ne p used_p in
        let h : uses behind (chain ++ (size + l) ∷ []) ≡ 0 = rw (sym e) none in
        absurd (omega (arith, h, behind_used)))

pub IsBacked-taken : (free : List ℕ) (chains : List (List ℕ)) (backs : List Link) (size l at behind : ℕ) (before : Link)
    → AreApart free chains size → IsBacked backs size chains → l < length chains → at < length (get_or chains l [])
    → behind ≡ get_or (get_or chains l [] ++ (size + l) ∷ []) (at + 1) 0 → before.0 ≡ get_or (0 ∷ get_or chains l []) at 0
    → IsBacked (slice_set backs behind before) size (slice_set chains l (remove (get_or chains l []) at))
IsBacked-taken free chains backs size l at behind before s b lt lt_at behind_plus before_is =
    backed-changed backs new chains size l (remove chain at) b lt (length-set backs behind before)
    (back-take (back_of backs) (back_of new) 0 (size + l) at chain lt_at (b.leads l lt) (own_once free chains size l s lt)
    (rw (sym behind_is) (to ∙ before_is)) own_others)
    others
  where
    chain : List ℕ
    chain = get_or chains l []

    new : List Link
    new = slice_set backs behind before

    behind_is : behind ≡ get_or (chain ++ (size + l) ∷ []) (suc at) 0
    behind_is = rw add-one at behind_plus

    behind_used : 0 < uses behind (chain ++ (size + l) ∷ [])
    behind_used = uses_at (chain ++ (size + l) ∷ []) (suc at) behind behind_is (within_end (suc at) (size + l) chain (omega (arith, lt_at)))

    to : back_of new behind ≡ before.0
    to = back-set_same backs behind before (behind_within free chains backs size l (suc at) behind s b lt (omega (arith, lt_at)) behind_is)

    own_others : (z : ℕ) → z ≢ get_or (chain ++ (size + l) ∷ []) (suc at) 0 → back_of new z ≡ back_of backs z
    own_others z ne = back-set_other backs behind z before (λ e. ne (e ∙ behind_is))

    others : (m : ℕ) → m < length chains → m ≢ l → (p : ℕ) → 0 < uses p (get_or chains m [] ++ (size + m) ∷ []) → back_of new p ≡ back_of backs p
    others m lt_m ne p used_p =
        back-set_other backs behind p before
        (λ e. let none = apart_ends free chains size l m s lt lt_m ne p used_p in
        let h : uses behind (chain ++ (size + l) ∷ []) ≡ 0 = rw (sym e) none in
        absurd (omega (arith, h, behind_used)))

-- the last node of a chain
pub back_last : (nodes : List Node) (backs : List Link) (chain : Chain) (end : ℕ) → LeadsBack backs end (chain_of nodes chain)
    → chain.len ≢ 0 → back_of backs end ≡ after nodes (chain.len - 1) chain.first.0
back_last nodes backs chain end leads some =
    let xs = chain_of nodes chain in
    let len = length-path nodes chain.len chain.first.0 in
    let whole = length_push xs end in
    let e : chain.len ≡ suc (chain.len - 1) = omega arith in
    let to : get_or (0 ∷ xs) chain.len 0 ≡ get_or xs (chain.len - 1) 0 = ap (λ (k : ℕ). get_or (0 ∷ xs) k 0) e in
    ap (back_of backs) (sym (get_or_push xs end 0 chain.len len))
    ∙ sym (get_or-map (back_of backs) (xs ++ end ∷ []) chain.len 0 0 (omega arith))
    ∙ ap (λ (t : List ℕ). get_or t chain.len 0) leads
    ∙ to
    ∙ path-get_or nodes (chain.len - 1) chain.len chain.first.0 (omega arith)

-- the node before a node
pub back_on_way : (nodes : List Node) (backs : List Link) (chain : Chain) (end k : ℕ) → LeadsBack backs end (chain_of nodes chain)
    → k < chain.len → k ≢ 0 → back_of backs (after nodes k chain.first.0) ≡ after nodes (k - 1) chain.first.0
back_on_way nodes backs chain end k leads lt some =
    let xs = chain_of nodes chain in
    let len = length-path nodes chain.len chain.first.0 in
    let whole = length_push xs end in
    let e : k ≡ suc (k - 1) = omega arith in
    let to : get_or (0 ∷ xs) k 0 ≡ get_or xs (k - 1) 0 = ap (λ (j : ℕ). get_or (0 ∷ xs) j 0) e in
    ap (back_of backs) (sym (path-get_or nodes k chain.len chain.first.0 lt) ∙ sym (get_or_append_left xs (end ∷ []) 0 k (omega arith)))
    ∙ sym (get_or-map (back_of backs) (xs ++ end ∷ []) k 0 0 (omega arith))
    ∙ ap (λ (t : List ℕ). get_or t k 0) leads
    ∙ to
    ∙ path-get_or nodes (k - 1) chain.len chain.first.0 (omega arith)
