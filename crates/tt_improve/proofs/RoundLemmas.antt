-- One round after another.
use Rattle.std.proofs.Common.{◌≡◌, ℕ, zero, suc, ◌+◌, ◌-◌, ◌<◌, ◌≤◌, Bool, true, false, cond, List, Option, Some, None, length, refl, sym, ap, ◌∙◌, arith, inl, inr}
use Rattle.std.specs.Prelude.{slice_get}
use Rattle.std.specs.Option.{option_and_then, option_map_or}
use Rattle.std.proofs.lemmas.Option.{slice_get_cases}
use Rattle.rand_core.specs.Stream.{Stream, next_u32}
use Rattle.tt_problem.specs.declared.parts.Parts.{Parts}
use Rattle.tt_state.specs.Snapshots.{Snapshot}
use Rattle.tt_draw.specs.Draws.{drawn, drawn_place}
use Rattle.tt_improve.specs.declared.targets.Target.{Target}
use Rattle.tt_improve.specs.Idle.{changed_at}
use Rattle.tt_improve.specs.Targets.{targets_of}
use Rattle.tt_improve.specs.Rounds.{Improvement, after_rounds, changed_by, round_more}
use Rattle.tt_improve.specs.Standing.{IsNoWorse}
use Rattle.tt_improve.specs.UnderWay.{so_far}

pub no_worse_same : (p : Parts) (s : Snapshot) → IsNoWorse p s s
no_worse_same p s = record { total = omega arith; hard = omega arith; statistics = refl; closures = refl; targets = refl; locked = λ class is. (refl, is) }

pub no_worse_next : (p : Parts) (s t u : Snapshot) → IsNoWorse p s t → IsNoWorse p t u → IsNoWorse p s u
no_worse_next p s t u one two = record {
  total = omega (arith, one.total, two.total);
  hard = omega (arith, one.hard, two.hard);
  statistics = two.statistics ∙ one.statistics;
  closures = two.closures ∙ one.closures;
  targets = two.targets ∙ one.targets;
  locked = λ class is. let first = one.locked class is in let next = two.locked class first.1 in (next.0 ∙ first.0, next.1);
}

-- goes on with a target, if there is one
abbrev go_on : Improvement → (Target → Improvement) → Option Target → Improvement
go_on m next target = option_map_or next target m

-- a round more, with the target that is drawn
after_one : (p : Parts) (n : ℕ) (random : Stream) (m : Improvement) (target : Target) → drawn (next_u32 random).0 (targets_of p m.snapshot) ≡ Some target
    → after_rounds p (suc n) random m ≡ after_rounds p n (next_u32 random).1 (round_more m (changed_by p m.snapshot target))
unfolding after_rounds
after_one p n random m target is = ap (go_on m (λ (o : Target). after_rounds p n (next_u32 random).1 (round_more m (changed_by p m.snapshot o)))) is

after_stop : (p : Parts) (n : ℕ) (random : Stream) (m : Improvement) → drawn (next_u32 random).0 (targets_of p m.snapshot) ≡ None → after_rounds p n random m ≡ m
unfolding after_rounds
after_stop p zero random m is = refl
after_stop p (suc n) random m is = ap (go_on m (λ (o : Target). after_rounds p n (next_u32 random).1 (round_more m (changed_by p m.snapshot o)))) is

after_none : (p : Parts) (random : Stream) (m : Improvement) → after_rounds p 0 random m ≡ m
unfolding after_rounds
after_none p random m = refl

-- how a round counts
counts : (s t : Snapshot) (made changed : ℕ) (changes : Bool) → (changes ≡ false → t ≡ s) → round_more (so_far s made changed) (cond changes (Some t) None) ≡ so_far t (made + 1) (changed + cond changes 1 0)
counts s t made changed true same = refl
counts s t made changed false same =
    ap (λ (x : Snapshot). so_far x (made + 1) changed) (sym (same refl)) ∙ ap (so_far t (made + 1)) none
  where
    none : changed ≡ changed + 0
    none = omega arith

-- a round on the target at a place
round_on : (p : Parts) (rounds made changed word : ℕ) (random left : Stream) (target : Target) (s t : Snapshot) (changes : Bool) → made < rounds → (word, left) ≡ next_u32 random
    → drawn word (targets_of p s) ≡ Some target → changed_by p s target ≡ cond changes (Some t) None → (changes ≡ false → t ≡ s)
    → after_rounds p (rounds - made) random (so_far s made changed) ≡ after_rounds p (rounds - (made + 1)) left (so_far t (made + 1) (changed + cond changes 1 0))
round_on p rounds made changed word random left target s t changes below drawn_word draws moves still =
    let more : rounds - made ≡ suc (rounds - (made + 1)) = omega arith in
    let the_word : word ≡ (next_u32 random).0 = ap (λ d. d.0) drawn_word in
    let the_rest : left ≡ (next_u32 random).1 = ap (λ d. d.1) drawn_word in
    ap (λ (n : ℕ). after_rounds p n random (so_far s made changed)) more
    ∙ after_one p (rounds - (made + 1)) random (so_far s made changed) target (ap (λ (w : ℕ). drawn w (targets_of p s)) (sym the_word) ∙ draws)
    ∙ ap (λ (w : Stream). after_rounds p (rounds - (made + 1)) w (round_more (so_far s made changed) (changed_by p s target))) (sym the_rest)
    ∙ ap (λ (o : Option Snapshot). after_rounds p (rounds - (made + 1)) left (round_more (so_far s made changed) o)) moves
    ∙ ap (after_rounds p (rounds - (made + 1)) left) (counts s t made changed changes still)

pub round_made : (p : Parts) (rounds made changed word place : ℕ) (random left : Stream) (targets : List Target) (s t : Snapshot) (changes : Bool) → made < rounds → (word, left) ≡ next_u32 random → targets ≡ targets_of p s
    → place ≡ drawn_place word (length targets) → place < length targets → changed_at p s targets place ≡ cond changes (Some t) None → (changes ≡ false → t ≡ s)
    → after_rounds p (rounds - made) random (so_far s made changed) ≡ after_rounds p (rounds - (made + 1)) left (so_far t (made + 1) (changed + cond changes 1 0))
round_made p rounds made changed word place random left targets s t changes below drawn_word same at within moves still =
    elim (slice_get_cases targets place).1 [
      | inl there ↦
          round_on p rounds made changed word random left there.0 s t changes below drawn_word
          (ap (drawn word) (sym same) ∙ ap (slice_get targets) (sym at) ∙ there.2)
          (sym (ap (option_and_then (changed_by p s)) there.2) ∙ moves) still
      | inr past ↦ absurd (omega (arith, past.0, within))
    ]

-- no target
pub rounds_stop : (p : Parts) (n word : ℕ) (random left : Stream) (targets : List Target) (m : Improvement) → (word, left) ≡ next_u32 random → targets_of p m.snapshot ≡ targets → None ≡ drawn word targets → after_rounds p n random m ≡ m
rounds_stop p n word random left targets m drawn_word same is =
    let the_word : word ≡ (next_u32 random).0 = ap (λ d. d.0) drawn_word in
    after_stop p n random m (ap (λ (w : ℕ). drawn w (targets_of p m.snapshot)) (sym the_word) ∙ ap (drawn word) same ∙ sym is)

-- no round left
pub rounds_done : (p : Parts) (rounds made : ℕ) (random : Stream) (m : Improvement) → rounds ≤ made → after_rounds p (rounds - made) random m ≡ m
rounds_done p rounds made random m all = let none : rounds - made ≡ 0 = omega arith in rw none (after_none p random m)
