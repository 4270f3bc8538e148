-- How many published classes are moved, once a class gets another value.
use Rattle.std.proofs.Common.{◌≡◌, ℕ, ◌+◌, ◌<◌, ◌≤◌, Bool, true, false, Option, List, length, ap, ◌∙◌, cond, arith}
use Rattle.std.specs.Prelude.{slice_set}
use Rattle.std.specs.Int.{from_bool}
use Rattle.tt_bits.specs.declared.times.Value.{Value}
use Rattle.tt_problem.specs.declared.parts.Parts.{Parts}
use Rattle.tt_published.specs.Timetable.{Timetable}
use Rattle.tt_published.specs.Published.{is_moved, moved_of}
use Rattle.tt_published.proofs.MovedLemmas.{moved_changed}

-- 1 for what holds, else 0
abbrev flag : Bool → ℕ
flag b = cond b 1 0

-- a truth value as a number
told : (b : Bool) (x : ℕ) → x ≡ from_bool b → x ≡ flag b
told true x is = is
told false x is = is

pub told_few : (b : Bool) (x : ℕ) → x ≡ from_bool b → x ≤ 1
told_few true x is = omega (arith, is)
told_few false x is = omega (arith, is)

-- how many are moved once a class has another value or none, where its flags before and then are numbers
pub moved_numbers : (p : Parts) (plan : List (Option Value)) (t : Timetable) (class : ℕ) (v : Option Value) (moved m n : ℕ) (was will : Bool) → class < length t.classes → moved ≡ moved_of p plan t
    → was ≡ is_moved p plan t class → will ≡ is_moved p (slice_set plan class v) t class → m ≡ from_bool was → n ≡ from_bool will → moved_of p (slice_set plan class v) t + m ≡ moved + n
moved_numbers p plan t class v moved m n was will within is was_is will_is m_is n_is =
    let first : m ≡ flag (is_moved p plan t class) = told was m m_is ∙ ap flag was_is in
    let next : n ≡ flag (is_moved p (slice_set plan class v) t class) = told will n n_is ∙ ap flag will_is in
    omega (arith, is, first, next, moved_changed p plan t class v within)
