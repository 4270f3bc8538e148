-- Seats in each class of a list.
use Rattle.std.proofs.Common.{◌≡◌, ℕ, true, List, [], ◌∷◌, None, refl}
use Rattle.std.specs.List.{list_all}
use Rattle.std.proofs.lemmas.Bool.{and_parts}
use Rattle.tt_problem.specs.declared.parts.Parts.{Parts}
use Rattle.tt_state.specs.Seats.{first_without_seat, has_seat}

-- where each class has a seat, there is no first one without
pub all_seats : (p : Parts) (lists : List (List ℕ)) (student : ℕ) (list : List ℕ) → list_all (has_seat p lists student) list ≡ true → first_without_seat p lists student list ≡ None
all_seats p lists student [] h = refl
all_seats p lists student (c ∷ list) h =
    let parts = and_parts (has_seat p lists student c) (list_all (has_seat p lists student) list) h in
    rw parts.0 (all_seats p lists student list parts.1)
