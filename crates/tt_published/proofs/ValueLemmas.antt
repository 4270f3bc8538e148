-- The value that is published of a class.
use Rattle.std.proofs.Common.{◌≡◌, ℕ, Bool, false, Option, Some, None, List, [], ◌∷◌, refl}
use Rattle.std.specs.Prelude.{is_some}
use Rattle.std.specs.List.{find}
use Rattle.tt_problem.specs.declared.parts.Parts.{Parts}
use Rattle.tt_plan.specs.Domain.{domain_of}
use Rattle.tt_published.specs.declared.meeting.Meeting.{Meeting}
use Rattle.tt_published.specs.Timetable.{Timetable, has_published, published_at}
use Rattle.tt_published.specs.Published.{is_same, published_value}

find_none : {A : Type 0} (test : A → Bool) (xs : List A) → ((x : A) → test x ≡ false) → find test xs ≡ None
find_none test [] fails = refl
find_none test (x ∷ xs) fails = rw (fails x) (find_none test xs fails)

-- a class that isn't published has no published value
pub unpublished : (p : Parts) (t : Timetable) (class : ℕ) → has_published t class ≡ false → published_value p t class ≡ None
unfolding published_value
unpublished p t class none =
    let at : published_at t class ≡ None = nothing (published_at t class) none in
    find_none (is_same p t class) (domain_of p class) (λ v. rw at refl)
  where
    nothing : (o : Option Meeting) → is_some o ≡ false → o ≡ None
    nothing None none = refl
    nothing (Some m) none = absurd (cc)
