-- Theorem. The order of keys, by their fields as they stand.
use Rattle.std.specs.Prelude.{ℕ, refl}
use Rattle.std.specs.Ordering.{nat_cmp, ordering_then}
use Rattle.std.specs.declared.cmp.Ordering.{Ordering}
use Rattle.std.specs.Coded.{Coded, code_by, coded×, coded_ℕ}
use Rattle.tt_bits.specs.declared.times.Key.{Key}
use Rattle.tt_bits.specs.declared.times.Value.{Value}

-- by the time, then by the room
abbrev pub value_cmp : Value → Value → Ordering
value_cmp a b = ordering_then (nat_cmp a.time b.time) (nat_cmp a.room b.room)

-- by the class, its value, the other class, and the value that it lost
abbrev pub key_cmp : Key → Key → Ordering
key_cmp a b = ordering_then (nat_cmp a.class b.class) (ordering_then (value_cmp a.value b.value) (ordering_then (nat_cmp a.other b.other) (value_cmp a.other_value b.other_value)))

-- A value and a key as tuples of their fields, so that a map of keys is a value of a model. Proofs alone need it.
abbrev pub coded_value : Coded Value
coded_value = code_by (ℕ × ℕ) (coded× coded_ℕ coded_ℕ) (λ v. (v.time, v.room)) (λ p. record { time = p.0; room = p.1 }) (λ _. refl)

abbrev pub coded_key : Coded Key
coded_key = code_by (ℕ × (Value × (ℕ × Value))) (coded× coded_ℕ (coded× coded_value (coded× coded_ℕ coded_value))) (λ k. (k.class, (k.value, (k.other, k.other_value)))) (λ p. record { class = p.0; value = p.1.0; other = p.1.1.0; other_value = p.1.1.1 }) (λ _. refl)
