-- Keys in order, and what a map of them has.
use Rattle.std.proofs.Common.{◌≡◌, ℕ, ◌+◌, ◌<◌, ◌≤◌, Bool, List, [], ◌∷◌, None, Some, Option, cond, refl, sym, ◌∙◌, ap, unwrap_or, true, false, eqb, ◌-◌, ◌≢◌, IsOk, OnOk, OnErr, inl, inr, Result, Ok, Err, arith}
use Rattle.std.specs.Ordering.{nat_cmp, is_eq, eq_by_cmp, ordering_then}
use Rattle.std.specs.Cmp.{IsTotalOrder, nat_cmp_total, eq_by_cmp_equiv}
use Rattle.std.specs.declared.cmp.Ordering.{Ordering}
use Rattle.std.specs.declared.cmp.Ordering.TheVariants.{Less, Equal, Greater}
use Rattle.std.proofs.lemmas.Map.Lookups.{CmpEqualImpliesEq, exact_pairs, exact_unsigned}
use Rattle.std.proofs.lemmas.Bool.Decides.{eqb_tells}
use Rattle.std.proofs.lemmas.Cmp.{on_total, then_total}
use Rattle.std.specs.FinMap.{FinMap, get, insert, from_entries, find, get-from_entries, get-insert, get-remove, get-empty, empty, remove, same_map}
use Rattle.std.specs.BTreeMap.{is_at}
use Rattle.tt_bits.specs.declared.times.Key.{Key}
use Rattle.tt_bits.specs.declared.times.Value.{Value}
use Rattle.tt_cbs.specs.KeyOrder.{value_cmp, key_cmp}
use Rattle.tt_cbs.specs.Counts.{count_at, bumped, dropped}
use Rattle.tt_cbs.specs.Kept.{at_key, IsPositive, HasNoZero}

exact_values : CmpEqualImpliesEq value_cmp
exact_values a b h = ap (λ (p : ℕ × ℕ). record { time = p.0; room = p.1 }) (exact_pairs nat_cmp nat_cmp exact_unsigned exact_unsigned (a.time, a.room) (b.time, b.room) h)

values_total : IsTotalOrder value_cmp
values_total = then_total (on_total (λ v. v.time) nat_cmp_total) (on_total (λ v. v.room) nat_cmp_total)

pub exact_keys : CmpEqualImpliesEq key_cmp
exact_keys a b h = ap (λ (p : ℕ × (Value × (ℕ × Value))). record { class = p.0; value = p.1.0; other = p.1.1.0; other_value = p.1.1.1 }) (exact_pairs nat_cmp (λ (p q : Value × (ℕ × Value)). ordering_then (value_cmp p.0 q.0) (ordering_then (nat_cmp p.1.0 q.1.0) (value_cmp p.1.1 q.1.1))) exact_unsigned (exact_pairs value_cmp (λ (p q : ℕ × Value). ordering_then (nat_cmp p.0 q.0) (value_cmp p.1 q.1)) exact_values (exact_pairs nat_cmp value_cmp exact_unsigned exact_values)) (a.class, (a.value, (a.other, a.other_value))) (b.class, (b.value, (b.other, b.other_value))) h)

pub keys_total : IsTotalOrder key_cmp
keys_total = then_total (on_total (λ k. k.class) nat_cmp_total) (then_total (on_total (λ k. k.value) values_total) (then_total (on_total (λ k. k.other) nat_cmp_total) (on_total (λ k. k.other_value) values_total)))

find_key : (es : List (Key × ℕ)) (q : Key) → find key_cmp q es ≡ at_key es q
find_key [] q = refl
find_key (e ∷ es) q = ap (cond (is_at (key_cmp q) e.0) (Some e.1)) (find_key es q)

-- what the map that the entries make has at a key
pub get_key : (es : List (Key × ℕ)) (q : Key) → get (from_entries {R = key_cmp} es) q ≡ at_key es q
get_key es q = get-from_entries keys_total es q ∙ find_key es q

-- entries that differ at one key make maps that differ there
pub one_set : (es fs : List (Key × ℕ)) (k : Key) (n : ℕ) → ((q : Key) → at_key fs q ≡ cond (is_at (key_cmp k) q) (Some n) (at_key es q)) → from_entries {R = key_cmp} fs ≡ insert (from_entries es) k n
one_set es fs k n h = same_map keys_total exact_keys _ _ (λ q.
    get_key fs q ∙ h q ∙ ap (λ b. cond b (Some n) (at_key es q)) ((eq_by_cmp_equiv keys_total).symm k q)
    ∙ sym (get-insert keys_total (from_entries es) k n q ∙ ap (cond (is_at (key_cmp q) k) (Some n)) (get_key es q)))

-- the count that the entries show
pub count_shown : (es : List (Key × ℕ)) (m : FinMap key_cmp ℕ) (q : Key) (o : Option ℕ) → o ≡ at_key es q → from_entries es ≡ m → unwrap_or o 0 ≡ count_at m q
count_shown es m q o found view = ap (λ t. unwrap_or t 0) (found ∙ sym (get_key es q)) ∙ ap (λ t. count_at t q) view

-- what the map is after its count at a key was raised
pub bump_shown : (es fs : List (Key × ℕ)) (m : FinMap key_cmp ℕ) (k : Key) (n : ℕ) → from_entries es ≡ m → n ≡ count_at m k → ((q : Key) → at_key fs q ≡ cond (is_at (key_cmp k) q) (Some (n + 1)) (at_key es q)) → from_entries fs ≡ bumped m k
bump_shown es fs m k n view is h = one_set es fs k (n + 1) h ∙ ap (λ t. insert t k (n + 1)) view ∙ ap (λ t. insert m k (t + 1)) is

-- entries without a key make the map without it
pub one_gone : (es fs : List (Key × ℕ)) (k : Key) → ((q : Key) → at_key fs q ≡ cond (is_at (key_cmp k) q) None (at_key es q)) → from_entries {R = key_cmp} fs ≡ remove (from_entries es) k
one_gone es fs k h = same_map keys_total exact_keys _ _ (λ q.
    get_key fs q ∙ h q ∙ ap (λ b. cond b None (at_key es q)) ((eq_by_cmp_equiv keys_total).symm k q)
    ∙ sym (get-remove keys_total (from_entries es) k q ∙ ap (cond (is_at (key_cmp q) k) None) (get_key es q)))

-- what it is after the last one at a key was taken out
pub last_gone : (es fs : List (Key × ℕ)) (m : FinMap key_cmp ℕ) (k : Key) (n : ℕ) → from_entries es ≡ m → n ≡ count_at m k → n ≡ 1 → ((q : Key) → at_key fs q ≡ cond (is_at (key_cmp k) q) None (at_key es q)) → from_entries fs ≡ dropped m k
last_gone es fs m k n view is one h =
    let e : count_at m k ≡ 1 = sym is ∙ one in
    rw e (one_gone es fs k h ∙ ap (λ t. remove t k) view)

no_eqb : (n k : ℕ) → n ≢ k → eqb n k ≡ false
no_eqb n k ne = elim (eqb_tells n k) [ inl t ↦ absurd (ne t.1) | inr f ↦ f.0 ]

-- what an answer gives where it is Ok
pub on_ok : {T E P : Type 0} → (r : Result T E) → OnOk r P → IsOk r → P
on_ok (Ok x) p ok = p
on_ok (Err x) p ok = cc

-- what it is after its count at a key was lowered
pub one_less : (es fs : List (Key × ℕ)) (m : FinMap key_cmp ℕ) (k : Key) (n : ℕ) → from_entries es ≡ m → n ≡ count_at m k → n ≢ 1 → ((q : Key) → at_key fs q ≡ cond (is_at (key_cmp k) q) (Some (n - 1)) (at_key es q)) → from_entries fs ≡ dropped m k
one_less es fs m k n view is more h =
    let e : count_at m k ≡ n = sym is in
    rw (e, no_eqb n 1 more) (one_set es fs k (n - 1) h ∙ ap (λ t. insert t k (n - 1)) view)

kept_by : {T E : Type 0} (r : Result T E) (o : Option ℕ) (n : ℕ) → OnErr r (o ≡ None) → n ≡ unwrap_or o 0 → 0 < n → IsOk r
kept_by (Ok x) o n none is some = refl
kept_by (Err x) o n none is some = absurd (let z : n ≡ 0 = is ∙ ap (λ t. unwrap_or t 0) none in omega arith)

-- where a key has a count, to set it takes no memory
pub kept_is_ok : {T E : Type 0} (r : Result T E) (es : List (Key × ℕ)) (m : FinMap key_cmp ℕ) (k : Key) (n : ℕ) → from_entries es ≡ m → OnErr r (at_key es k ≡ None) → n ≡ count_at m k → 0 < n → IsOk r
kept_is_ok r es m k n view none is some = kept_by r (at_key es k) n none (is ∙ sym (count_shown es m k (at_key es k) refl view)) some

equal_from : (o : Ordering) → is_eq o ≡ true → o ≡ Equal
equal_from Less e = cc
equal_from Equal e = refl
equal_from Greater e = cc

add_sub : (n : ℕ) → n + 1 - 1 ≡ n
add_sub n = omega arith

same_key : (m : FinMap key_cmp ℕ) (k q : Key) → eq_by_cmp key_cmp q k ≡ true → get m q ≡ get m k
same_key m k q e = ap (get m) (exact_keys q k (equal_from _ e))

equal_here : (k : Key) → eq_by_cmp key_cmp k k ≡ true
equal_here k = (eq_by_cmp_equiv keys_total).refl k

count_after_bump : (m : FinMap key_cmp ℕ) (k : Key) (n : ℕ) → count_at (insert m k n) k ≡ n
count_after_bump m k n = ap (λ t. unwrap_or t 0) (get-insert keys_total m k n k ∙ ap (λ b. cond b (Some n) (get m k)) (equal_here k))

put_back : (m : FinMap key_cmp ℕ) (k q : Key) (o : Option ℕ) (v : ℕ) (b : Bool) → get m k ≡ o → (b ≡ true → get m q ≡ get m k) → cond b o (cond b (Some v) (get m q)) ≡ get m q
put_back m k q o v true is same = sym (same refl ∙ is)
put_back m k q o v false is same = refl

-- To take a key out that was new, or to set the count that it had, gives the map back.
pub insert_back : (m : FinMap key_cmp ℕ) (k : Key) (n v : ℕ) → get m k ≡ Some n → insert (insert m k v) k n ≡ m
insert_back m k n v had = same_map keys_total exact_keys _ _ (λ q.
    get-insert keys_total (insert m k v) k n q ∙ ap (cond (eq_by_cmp key_cmp q k) (Some n)) (get-insert keys_total m k v q)
    ∙ put_back m k q (Some n) v (eq_by_cmp key_cmp q k) had (same_key m k q))

pub remove_back : (m : FinMap key_cmp ℕ) (k : Key) (v : ℕ) → get m k ≡ None → remove (insert m k v) k ≡ m
remove_back m k v new = same_map keys_total exact_keys _ _ (λ q.
    get-remove keys_total (insert m k v) k q ∙ ap (cond (eq_by_cmp key_cmp q k) None) (get-insert keys_total m k v q)
    ∙ put_back m k q None v (eq_by_cmp key_cmp q k) new (same_key m k q))

drop_after : (m : FinMap key_cmp ℕ) (k : Key) (o : Option ℕ) → get m k ≡ o → o ≢ Some 0 → dropped (bumped m k) k ≡ m
drop_after m k None is positive =
    let e : count_at (bumped m k) k ≡ 1 = count_after_bump m k _ ∙ ap (λ t. unwrap_or t 0 + 1) is in
    rw e (remove_back m k _ is)
drop_after m k (Some n) is positive =
    let e : count_at (bumped m k) k ≡ n + 1 = count_after_bump m k _ ∙ ap (λ t. unwrap_or t 0 + 1) is in
    let more : n + 1 ≢ 1 = λ z. positive (ap Some (let w : n ≡ 0 = omega arith in w)) in
    rw (e, no_eqb (n + 1) 1 more) (ap (insert (bumped m k) k) (add_sub n) ∙ insert_back m k n _ is)

-- a count that is raised and lowered is as it was
pub bump_undone : (m : FinMap key_cmp ℕ) (k : Key) → get m k ≢ Some 0 → dropped (bumped m k) k ≡ m
bump_undone m k positive = drop_after m k (get m k) refl positive

chosen_positive : (b : Bool) (n : ℕ) (x : Option ℕ) → 0 < n → x ≢ Some 0 → cond b (Some n) x ≢ Some 0
chosen_positive true n x some other e = let z : n ≡ 0 = cc in absurd (omega arith)
chosen_positive false n x some other e = other e

gone_positive : (b : Bool) (x : Option ℕ) → x ≢ Some 0 → cond b None x ≢ Some 0
gone_positive true x other e = cc
gone_positive false x other e = other e

-- no count is 0 after one was set above 0, or a key was taken out
pub put_positive : (es fs : List (Key × ℕ)) (k : Key) (n : ℕ) → IsPositive es → 0 < n → ((q : Key) → at_key fs q ≡ cond (is_at (key_cmp k) q) (Some n) (at_key es q)) → IsPositive fs
put_positive es fs k n positive some h = λ q z. chosen_positive (is_at (key_cmp k) q) n (at_key es q) some (positive q) (sym (h q) ∙ z)

pub drop_positive : (es fs : List (Key × ℕ)) (k : Key) → IsPositive es → ((q : Key) → at_key fs q ≡ cond (is_at (key_cmp k) q) None (at_key es q)) → IsPositive fs
drop_positive es fs k positive h = λ q z. gone_positive (is_at (key_cmp k) q) (at_key es q) (positive q) (sym (h q) ∙ z)

-- the same of a map that is seen as its entries
pub bump_back : (es : List (Key × ℕ)) (m m' : FinMap key_cmp ℕ) (k : Key) → from_entries es ≡ m → IsPositive es → m' ≡ bumped m k → dropped m' k ≡ m
bump_back es m m' k view positive is = ap (λ t. dropped t k) is ∙ bump_undone m k (λ z. positive k (sym (get_key es k) ∙ ap (λ t. get t k) view ∙ z))

-- a bump raises the count at its key by one
pub count_bumped : (m : FinMap key_cmp ℕ) (k : Key) → count_at (bumped m k) k ≡ count_at m k + 1
count_bumped m k = count_after_bump m k (count_at m k + 1)

get_bumped : (m : FinMap key_cmp ℕ) (k q : Key) → get (bumped m k) q ≡ cond (eq_by_cmp key_cmp q k) (Some (count_at m k + 1)) (get m q)
get_bumped m k q = get-insert keys_total m k (count_at m k + 1) q

-- no count is 0 in the empty map, nor after a bump
pub empty_positive : HasNoZero empty
empty_positive q e = let z : get (empty {X = ℕ} {R = key_cmp}) q ≡ None = get-empty key_cmp q in cc

pub bumped_positive : (m : FinMap key_cmp ℕ) (k : Key) → HasNoZero m → HasNoZero (bumped m k)
bumped_positive m k positive q e = chosen_positive (eq_by_cmp key_cmp q k) (count_at m k + 1) (get m q) (omega arith) (positive q) (sym (get_bumped m k q) ∙ e)

few_chosen : (b : Bool) (n : ℕ) (x y : Option ℕ) → (b ≡ true → x ≡ y) → n ≡ unwrap_or y 0 → unwrap_or (cond b (Some (n + 1)) x) 0 ≤ unwrap_or x 0 + 1
few_chosen true n x y same is = let e : unwrap_or x 0 ≡ n = ap (λ t. unwrap_or t 0) (same refl) ∙ sym is in omega (arith, e)
few_chosen false n x y same is = omega arith

-- a bump raises no count by more than one
pub count_few : (m : FinMap key_cmp ℕ) (k q : Key) → count_at (bumped m k) q ≤ count_at m q + 1
count_few m k q = rw (get_bumped m k q) (few_chosen (eq_by_cmp key_cmp q k) (count_at m k) (get m q) (get m k) (same_key m k q) refl)

other_count : (b : Bool) (n : ℕ) (x : Option ℕ) → b ≡ false → unwrap_or (cond b (Some n) x) 0 ≡ unwrap_or x 0
other_count true n x differ = absurd (cc differ)
other_count false n x differ = refl

-- a bump leaves the count at another key
pub count_other : (m : FinMap key_cmp ℕ) (k q : Key) → eq_by_cmp key_cmp q k ≡ false → count_at (bumped m k) q ≡ count_at m q
count_other m k q differ = rw (get_bumped m k q) (other_count (eq_by_cmp key_cmp q k) (count_at m k + 1) (get m q) differ)

-- keys that compare alike are one
pub key_is : (k q : Key) → eq_by_cmp key_cmp q k ≡ true → q ≡ k
key_is k q e = exact_keys q k (equal_from _ e)

-- the empty map has 0 at each key
pub count_empty : (q : Key) → count_at empty q ≡ 0
count_empty q = ap (λ t. unwrap_or t 0) (get-empty key_cmp q)
