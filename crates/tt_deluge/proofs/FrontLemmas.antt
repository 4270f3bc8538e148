-- A trail that begins with another one.
use Rattle.std.proofs.Common.{◌≡◌, ℕ, ◌+◌, ◌≤◌, List, ◌++◌, Some, length, take, refl, sym, ap, ◌∙◌, arith}
use Rattle.std.specs.Prelude.{slice_get}
use Rattle.std.proofs.lemmas.List.{length-take, take_all, take_at, take-take}
use Rattle.std.proofs.lemmas.Option.{slice_get_within}
use Rattle.tt_state.specs.Snapshots.{Snapshot}
use Rattle.tt_deluge.specs.Standing.{BeginsWith}
use Rattle.tt_deluge.proofs.WalkLemmas.{get-take}

pub front-same : (xs : List Snapshot) → BeginsWith xs xs
front-same xs = take_all (length xs) xs (omega arith)

pub front-added : (xs ys all : List Snapshot) → all ≡ xs ++ ys → BeginsWith xs all
front-added xs ys all is = ap (take (length xs)) is ∙ take_at xs ys (length xs) refl

shorter : (xs ys : List Snapshot) → BeginsWith xs ys → length xs ≤ length ys
shorter xs ys begins = omega (arith, ap length begins, length-take (length xs) ys)

pub front-next : (xs ys zs : List Snapshot) → BeginsWith xs ys → BeginsWith ys zs → BeginsWith xs zs
front-next xs ys zs one two =
    sym (take-take (length xs) (length ys) zs (shorter xs ys one)) ∙ ap (take (length xs)) two ∙ one

-- what stands at a place of the front stands there in the whole
pub front-get : (xs ys : List Snapshot) (k : ℕ) (s : Snapshot) → BeginsWith xs ys → slice_get xs k ≡ Some s → slice_get ys k ≡ Some s
front-get xs ys k s begins is =
    sym (get-take ys (length xs) k (slice_get_within xs k s is)) ∙ ap (λ (l : List Snapshot). slice_get l k) begins ∙ is

-- going back to the last place of the front gives the front
pub front-back : (xs ys : List Snapshot) (place : ℕ) → BeginsWith xs ys → place + 1 ≡ length xs → take (place + 1) ys ≡ xs
front-back xs ys place begins last = ap (λ (n : ℕ). take n ys) last ∙ begins
