-- What is read of files that may be longer than the limit.
use Rattle.std.proofs.Common.{◌≡◌, ◌≤◌, ◌+◌, ℕ, Bool, true, false, List, [], ◌∷◌, ◌++◌, None, Some, Option, Err, refl, subst, arith, length}
use Rattle.std.specs.Prelude.{IfSome, IsTrue, option_to_list}
use Rattle.std.specs.List.{AllByRecursion}
use Rattle.tt_io.specs.Causes.{most_read}
use Rattle.tt_io.specs.Whole.{TakesAtMost}
use Rattle.tt_io.specs.Lines.{Counts}
use Rattle.tt_desk.specs.declared.refusal.Outcome.{Outcome}
use Rattle.tt_top.specs.declared.end.End.{End}
use Rattle.tt_top.specs.declared.end.End.TheVariants.{Files, Sink, Memory, TooLong}
use Rattle.tt_top.specs.Run.{IsReadAtMost, ReadsWithin}
use Rattle.tt_top.specs.Phases.{HasAtMost, left_open}
use Rattle.tt_top.specs.Ends.{past_limit}

-- ---- one file

-- a file that was read whole is within the limit
pub held_told : (limit : ℕ) (holds : List ℕ → Option (List ℕ)) (name bytes : List ℕ) → ((all : List ℕ) → holds name ≡ Some all → (bytes ≡ all) × (length all ≤ limit)) → HasAtMost limit holds name
held_told limit holds name bytes fits = by (holds name) refl
  where
    by : (o : Option (List ℕ)) → holds name ≡ o → IfSome o (λ all. length all ≤ limit)
    by None is = tt
    by (Some all) is = (fits all is).1

-- what is taken of the open file is read of it
pub read_told : (most : ℕ) (holds : List ℕ → Option (List ℕ)) (name : List ℕ) (is_open : Bool) (left : Option (List ℕ)) → (IsTrue is_open → (all : List ℕ) → holds name ≡ Some all → TakesAtMost most all left) → IsReadAtMost most holds (left_open is_open left) name
read_told most holds name is_open left takes = by (holds name) refl
  where
    told : (all : List ℕ) (is_open : Bool) (left : Option (List ℕ)) → (IsTrue is_open → TakesAtMost most all left) → IfSome (left_open is_open left) (λ rest. length all ≤ length rest + most)
    told all true None takes = tt
    told all true (Some rest) takes = takes refl
    told all false left takes = tt

    by : (o : Option (List ℕ)) → holds name ≡ o → IfSome o (λ all. IfSome (left_open is_open left) (λ rest. length all ≤ length rest + most))
    by None is = tt
    by (Some all) is = told all is_open left (λ opened. takes opened all is)

-- nothing is told of a file that isn't open
pub unopened : (most : ℕ) (holds : List ℕ → Option (List ℕ)) (name : List ℕ) → IsReadAtMost most holds None name
unopened most holds name = by (holds name)
  where
    by : (o : Option (List ℕ)) → IfSome o (λ all. IfSome None (λ (rest : List ℕ). length all ≤ length rest + most))
    by None = tt
    by (Some all) = tt

-- of a file within the limit no more is read
pub within_read : (limit : ℕ) (holds : List ℕ → Option (List ℕ)) (left : Option (List ℕ)) (name : List ℕ) → HasAtMost limit holds name → IsReadAtMost (limit + most_read) holds left name
within_read limit holds left name within = by (holds name) within left
  where
    by : (o : Option (List ℕ)) → IfSome o (λ all. length all ≤ limit) → (left : Option (List ℕ)) → IfSome o (λ all. IfSome left (λ rest. length all ≤ length rest + (limit + most_read)))
    by None within left = tt
    by (Some all) within None = tt
    by (Some all) within (Some rest) = omega (arith, within)

-- ---- where the files hold the same

pub held_same : (most : ℕ) (holds now : List ℕ → Option (List ℕ)) → ((n : List ℕ) → now n ≡ holds n) → (more : Option (List ℕ)) → IfSome more (HasAtMost most now) → IfSome more (HasAtMost most holds)
held_same most holds now same None has = tt
held_same most holds now same (Some name) has = subst (λ (o : Option (List ℕ)). IfSome o (λ all. length all ≤ most)) (same name) has

pub read_same : (most : ℕ) (holds now : List ℕ → Option (List ℕ)) → ((n : List ℕ) → now n ≡ holds n) → (left : Option (List ℕ)) (more : Option (List ℕ)) → IfSome more (IsReadAtMost most now left) → IfSome more (IsReadAtMost most holds left)
read_same most holds now same left None read = tt
read_same most holds now same left (Some name) read = subst (λ (o : Option (List ℕ)). IfSome o (λ all. IfSome left (λ rest. length all ≤ length rest + most))) (same name) read

-- ---- one file after others

-- a last one, if there is one, after others within the limit
pub reads_after : (limit : ℕ) (holds : List ℕ → Option (List ℕ)) (left : Option (List ℕ)) (names : List (List ℕ)) (more : Option (List ℕ)) → AllByRecursion (HasAtMost limit holds) names → IfSome more (IsReadAtMost (limit + most_read) holds left) → ReadsWithin limit holds left (names ++ option_to_list more)
reads_after limit holds left [] None within read = tt
reads_after limit holds left [] (Some name) within read = read
reads_after limit holds left (name ∷ []) None within read = within_read limit holds left name within.0
reads_after limit holds left (name ∷ []) (Some last) within read = (within.0, read)
reads_after limit holds left (name ∷ next ∷ names) more within read = (within.0, reads_after limit holds left (next ∷ names) more within.1 read)

-- all within the limit
pub holds_after : (limit : ℕ) (holds : List ℕ → Option (List ℕ)) (first : List ℕ) (more : Option (List ℕ)) → HasAtMost limit holds first → IfSome more (HasAtMost limit holds) → AllByRecursion (HasAtMost limit holds) (first ∷ option_to_list more)
holds_after limit holds first None has rest = (has, tt)
holds_after limit holds first (Some name) has rest = (has, (rest, tt))

-- ---- the script

-- at most one byte beyond the limit is read of a script
pub script_read : (limit taken past : ℕ) (script : List ℕ) (left : Option (List ℕ)) → Counts 0 taken past (Some script) left → taken ≤ limit → past ≤ 1 → TakesAtMost (limit + 1) script left
script_read limit taken past script None counts most few = absurd counts
script_read limit taken past script (Some rest) counts most few = omega (arith, counts, most, few)

pub one_past : (e : End) → past_limit {T = Outcome} (Err e) ≤ 1
one_past Files = omega arith
one_past Sink = omega arith
one_past Memory = omega arith
one_past TooLong = omega arith

pub takes_more : (few most : ℕ) (all : List ℕ) (left : Option (List ℕ)) → few ≤ most → TakesAtMost few all left → TakesAtMost most all left
takes_more few most all None le takes = absurd takes
takes_more few most all (Some rest) le takes = omega (arith, le, takes)
