-- The text of a problem, part by part.
use Rattle.std.proofs.Common.{◌≡◌, ℕ, ◌*◌, ◌/◌, List, [], ◌++◌, codes, refl, sym, ap, ◌∙◌, append_assoc}
use Rattle.std.specs.Fmt.{digits}
use Rattle.rand_pcg.specs.Lcg.{Lcg}
use Rattle.serde_json.specs.Data.{Data}
use Rattle.serde_json.specs.Written.{compact_text}
use Rattle.serde_json.proofs.OnLiterals.{serde_json_on_literals}
use Rattle.tt_draw.specs.Draws.{seeded}
use Rattle.tt_make.specs.Draws.{draw_each}
use Rattle.tt_make.specs.Values.{list}
use Rattle.tt_make.specs.Rooms.{room}
use Rattle.tt_make.specs.Courses.{course, course_count}
use Rattle.tt_make.specs.Rules.{rule}
use Rattle.tt_make.specs.Students.{student}
use Rattle.tt_make.specs.Text.{problem_data, problem, room_count, make_text}

abbrev pub before_courses : List ℕ
before_courses = codes "{\"courses\":"

abbrev pub before_rules : List ℕ
before_rules = codes ",\"distributions\":"

abbrev pub before_rooms : List ℕ
before_rooms = codes ",\"name\":\"generated\",\"nrDays\":7,\"nrWeeks\":13,\"optimization\":{\"distribution\":1,\"room\":1,\"student\":2,\"time\":2},\"rooms\":"

abbrev pub before_students : List ℕ
before_students = codes ",\"slotsPerDay\":288,\"students\":"

pub problem_text : (rooms courses rules students : List Data) → compact_text (problem_data rooms courses rules students)
    ≡ before_courses ++ (compact_text (list courses) ++ (before_rules ++ (compact_text (list rules) ++ (before_rooms ++ (compact_text (list rooms) ++ (before_students ++ (compact_text (list students) ++ codes "}")))))))
unfolding problem_data serde_json_on_literals digits
problem_text rooms courses rules students = refl

-- what was appended last comes before the rest
then : {out before : List ℕ} (start part rest : List ℕ) → out ≡ before ++ rest → before ≡ start ++ part → out ≡ start ++ (part ++ rest)
then start part rest e is = e ∙ ap (λ (t : List ℕ). t ++ rest) is ∙ append_assoc start part rest

-- what was drawn in order, and written in the order of the keys
pub problem_drawn : (seed n m : ℕ) (start after_rooms after_courses after_rules : Lcg) (none rooms nothing a b c d e f g h out : List ℕ) → start ≡ seeded seed → m ≡ course_count n
    → none ≡ [] → rooms ≡ none ++ compact_text (list (draw_each 1 (room_count n) room start).0) → after_rooms ≡ (draw_each 1 (room_count n) room start).1
    → nothing ≡ [] → a ≡ nothing ++ before_courses → b ≡ a ++ compact_text (list (draw_each 1 m (course (room_count n) n) after_rooms).0)
    → after_courses ≡ (draw_each 1 m (course (room_count n) n) after_rooms).1
    → c ≡ b ++ before_rules → d ≡ c ++ compact_text (list (draw_each 0 (2 * (n / 4)) rule after_courses).0) → after_rules ≡ (draw_each 0 (2 * (n / 4)) rule after_courses).1
    → e ≡ d ++ before_rooms → f ≡ e ++ rooms → g ≡ f ++ before_students → h ≡ g ++ compact_text (list (draw_each 1 (15 * n / 4) (student m) after_rules).0)
    → out ≡ h ++ codes "}" → out ≡ make_text seed n
unfolding make_text problem
problem_drawn seed n m start after_rooms after_courses after_rules none rooms nothing a b c d e f g h out is_start is_m is_none is_rooms is_1 is_nothing is_a is_b is_2 is_c is_d is_3 is_e is_f is_g is_h is_out =
    let courses : List Data = (draw_each 1 m (course (room_count n) n) after_rooms).0 in
    let rules : List Data = (draw_each 0 (2 * (n / 4)) rule after_courses).0 in
    let students : List Data = (draw_each 1 (15 * n / 4) (student m) after_rules).0 in
    let first_rooms : List Data = (draw_each 1 (room_count n) room start).0 in
    let room_text : rooms ≡ compact_text (list first_rooms) = is_rooms ∙ ap (λ (t : List ℕ). t ++ compact_text (list first_rooms)) is_none in
    let parts : out ≡ nothing ++ (before_courses ++ (compact_text (list courses) ++ (before_rules ++ (compact_text (list rules) ++ (before_rooms ++ (rooms ++ (before_students ++ (compact_text (list students) ++ codes "}")))))))) =
    then nothing _ _ (then a _ _ (then b _ _ (then c _ _ (then d _ _ (then e _ _ (then f _ _ (then g _ _ is_out is_h) is_g) is_f) is_e) is_d) is_c) is_b) is_a in
    let text : out ≡ compact_text (problem_data first_rooms courses rules students) = parts ∙ rw (is_nothing, room_text) (sym (problem_text first_rooms courses rules students)) in
    text ∙ rw (is_3, is_2, is_1, is_m, is_start) refl
