-- The text of each object, from the pieces that are appended one after another.
use Rattle.std.proofs.Common.{◌≡◌, ℕ, zero, suc, ◌+◌, ◌-◌, ◌*◌, ◌%◌, ◌==◌, ◌∙◌, List, [], ◌∷◌, ◌++◌, Option, Some, None, inl, inr, map, refl, sym, ap, append_assoc}
use Rattle.std.specs.Prelude.{codes, decimal}
use Rattle.std.specs.Fmt.{digits}
use Rattle.std.proofs.lemmas.Bool.{cases_Bool}
use Rattle.rand_pcg.specs.Lcg.{Lcg}
use Rattle.json.specs.Print.{escape, quoted}
use Rattle.serde_json.specs.Data.{Data, object, member, no_members}
use Rattle.serde_json.specs.Written.{compact_text}
use Rattle.serde_json.proofs.OnLiterals.{serde_json_on_literals}
use Rattle.tt_make.specs.Values.{num, list, word_at}
use Rattle.tt_make.specs.Pieces.{parent_text, rooms_text, travel_text, closed_text, strength_text}
use Rattle.tt_make.specs.Draws.{Draws, draw_each}
use Rattle.tt_make.specs.Classes.{day_words, week_words, time, time_data, class_room_data, class_rooms, class, made_class}
use Rattle.tt_make.specs.Courses.{course_data, config_data, whole_data, whole_course, last_course, subpart_data}
use Rattle.tt_make.specs.Rooms.{room, room_data, travel, unavailable, travel_entry, friday_afternoon}
use Rattle.tt_make.specs.Students.{student, request}
use Rattle.tt_make.specs.Rules.{type_words, required_data, wished_data, turn_data, attendees_rule}

-- what was appended last comes before the rest
pub then : {out before : List ℕ} (start part rest : List ℕ) → out ≡ before ++ rest → before ≡ start ++ part → out ≡ start ++ (part ++ rest)
then start part rest e is = e ∙ ap (λ (t : List ℕ). t ++ rest) is ∙ append_assoc start part rest

pub word_quoted : (out a b c d text word : List ℕ) → escape word ≡ word → a ≡ out ++ text → b ≡ a ++ 34 ∷ [] → c ≡ b ++ word → d ≡ c ++ 34 ∷ [] → d ≡ out ++ (text ++ quoted word)
word_quoted out a b c d text word plain is_a is_b is_c is_d =
    then out text _ (then a (34 ∷ []) _ (then b word _ is_d is_c) is_b) is_a ∙ ap (λ (w : List ℕ). out ++ (text ++ 34 ∷ (w ++ 34 ∷ []))) (sym plain)

-- ---- words without a byte to escape

pub plain_word : (word same : List ℕ) → word ≡ same → escape same ≡ same → escape word ≡ word
plain_word word same is plain = rw is plain

word_plain : (words : List (List ℕ)) → map escape words ≡ words → (k : ℕ) → escape (word_at words k) ≡ word_at words k
word_plain [] is k = refl
word_plain (w ∷ ws) is zero = cc
word_plain (w ∷ ws) is (suc k) = let rest : map escape ws ≡ ws = cc in word_plain ws rest k

pub days_are_plain : (k : ℕ) → escape (word_at day_words k) ≡ word_at day_words k
unfolding serde_json_on_literals
days_are_plain k = word_plain day_words refl k

pub weeks_are_plain : (k : ℕ) → escape (word_at week_words k) ≡ word_at week_words k
unfolding serde_json_on_literals
weeks_are_plain k = word_plain week_words refl k

pub types_are_plain : (k : ℕ) → escape (word_at type_words k) ≡ word_at type_words k
unfolding serde_json_on_literals
types_are_plain k = word_plain type_words refl k

-- ---- the texts of objects

pub time_text : (days start length weeks penalty : ℕ) → compact_text (time_data days start length weeks penalty)
    ≡ (codes "{\"days\":" ++ quoted (word_at day_words days)) ++ ((codes ",\"length\":" ++ decimal (10 + 6 * length)) ++ ((codes ",\"penalty\":" ++ decimal penalty)
    ++ ((codes ",\"start\":" ++ decimal (96 + 12 * start)) ++ ((codes ",\"weeks\":" ++ quoted (word_at week_words weeks)) ++ codes "}"))))
unfolding time_data serde_json_on_literals digits
time_text days start length weeks penalty = refl

pub class_room_text : (id penalty : ℕ) → compact_text (class_room_data id penalty) ≡ (codes "{\"id\":" ++ decimal id) ++ ((codes ",\"penalty\":" ++ decimal penalty) ++ codes "}")
unfolding serde_json_on_literals digits
class_room_text id penalty = refl

pub class_text : (id : ℕ) (parent : Option ℕ) (rooms : Option (List Data)) (times : List Data) → compact_text (made_class id parent rooms times)
    ≡ (codes "{\"id\":" ++ decimal id) ++ (codes ",\"limit\":50" ++ (parent_text parent ++ (rooms_text rooms ++ (codes ",\"times\":" ++ (compact_text (list times) ++ codes "}")))))
unfolding made_class serde_json_on_literals digits
class_text id None None times = refl
class_text id (Some p) None times = refl
class_text id None (Some rooms) times = refl
class_text id (Some p) (Some rooms) times = refl

pub subpart_text : (id : ℕ) (classes : List Data) → compact_text (subpart_data id classes) ≡ codes "{\"classes\":" ++ (compact_text (list classes) ++ ((codes ",\"id\":" ++ decimal id) ++ codes "}"))
unfolding subpart_data serde_json_on_literals digits
subpart_text id classes = refl

abbrev pub before_subparts : ℕ → List ℕ
before_subparts k = codes "{\"configs\":[{\"id\":" ++ decimal k

abbrev pub after_subparts : ℕ → List ℕ
after_subparts k = codes "]}],\"id\":" ++ decimal k

pub two_text : (k : ℕ) (first second : Data) → compact_text (course_data k (list (first ∷ second ∷ [])))
    ≡ before_subparts k ++ (codes ",\"subparts\":[" ++ (compact_text first ++ (codes "," ++ (compact_text second ++ (after_subparts k ++ codes "}")))))
unfolding course_data config_data serde_json_on_literals digits
two_text k first second = simp append_assoc

pub one_text : (k : ℕ) (only : Data) → compact_text (course_data k (list (only ∷ [])))
    ≡ before_subparts k ++ (codes ",\"subparts\":[" ++ (compact_text only ++ (after_subparts k ++ codes "}")))
unfolding course_data config_data serde_json_on_literals digits
one_text k only = simp append_assoc

pub student_text : (id : ℕ) (wanted : List Data) → compact_text (object (member (codes "courses") (list wanted) (member (codes "id") (num id) no_members)))
    ≡ codes "{\"courses\":" ++ (compact_text (list wanted) ++ ((codes ",\"id\":" ++ decimal id) ++ codes "}"))
unfolding serde_json_on_literals digits
student_text id wanted = refl

pub room_text : (id : ℕ) (to_previous : Option Data) → compact_text (room_data id to_previous)
    ≡ (codes "{\"capacity\":60,\"id\":" ++ decimal id) ++ (travel_text to_previous ++ (closed_text id ++ codes "}"))
unfolding friday_afternoon serde_json_on_literals digits
room_text id None = elim (cases_Bool (id % 5 == 0)) [ inl t ↦ rw t refl | inr n ↦ rw n refl ]
room_text id (Some entries) = elim (cases_Bool (id % 5 == 0)) [ inl t ↦ rw t refl | inr n ↦ rw n refl ]

entry_text : (room value : ℕ) → travel_text (Some (list (travel_entry room value ∷ []))) ≡ (codes ",\"travel\":[{\"room\":" ++ decimal room) ++ ((codes ",\"value\":" ++ decimal value) ++ codes "}]")
unfolding serde_json_on_literals digits
entry_text room value = simp append_assoc

required_text : (type : List ℕ) (classes : List Data) → compact_text (required_data type classes)
    ≡ codes "{\"classes\":" ++ (compact_text (list classes) ++ (codes ",\"required\":true" ++ ((codes ",\"type\":" ++ quoted type) ++ codes "}")))
unfolding serde_json_on_literals
required_text type classes = refl

wished_text : (type : List ℕ) (penalty : ℕ) (classes : List Data) → compact_text (wished_data type penalty classes)
    ≡ codes "{\"classes\":" ++ (compact_text (list classes) ++ ((codes ",\"penalty\":" ++ decimal penalty) ++ ((codes ",\"type\":" ++ quoted type) ++ codes "}")))
unfolding serde_json_on_literals
wished_text type penalty classes = refl

abbrev pub four_classes : ℕ → List Data
four_classes k = num (4 * k - 3) ∷ num (4 * k - 2) ∷ num (4 * k - 1) ∷ num (4 * k) ∷ []

turn_text : (k penalty : ℕ) → compact_text (turn_data k penalty)
    ≡ codes "{\"classes\":" ++ (compact_text (list (four_classes k)) ++ (strength_text k penalty ++ ((codes ",\"type\":" ++ quoted (word_at type_words ((k - 1) % 19))) ++ codes "}")))
unfolding turn_data
turn_text k penalty = elim (cases_Bool ((k - 1) % 4 == 0)) [
  | inl t ↦ rw t (required_text (word_at type_words ((k - 1) % 19)) (four_classes k))
  | inr n ↦ rw n (wished_text (word_at type_words ((k - 1) % 19)) penalty (four_classes k))
]

four_text : (a b c d : ℕ) → compact_text (list (num a ∷ num b ∷ num c ∷ num d ∷ []))
    ≡ (codes "[" ++ decimal a) ++ ((codes "," ++ decimal b) ++ ((codes "," ++ decimal c) ++ ((codes "," ++ decimal d) ++ codes "]")))
four_text a b c d = refl

abbrev attendees_end : List ℕ
attendees_end = codes ",\"required\":true,\"type\":\"SameAttendees\"}"

attendees_text : (a b : ℕ) → compact_text (required_data (codes "SameAttendees") (num a ∷ num b ∷ []))
    ≡ (codes "{\"classes\":[" ++ decimal a) ++ ((codes "," ++ decimal b) ++ codes "],\"required\":true,\"type\":\"SameAttendees\"}")
unfolding serde_json_on_literals
attendees_text a b = ap (λ (t : List ℕ). codes "{\"classes\":[" ++ t)
    (append_assoc (decimal a) (44 ∷ (decimal b ++ 93 ∷ [])) attendees_end ∙ ap (λ (t : List ℕ). decimal a ++ 44 ∷ t) (append_assoc (decimal b) (93 ∷ []) attendees_end))

-- ---- what was appended piece by piece

-- the pieces are the text
shown : (out start pieces text : List ℕ) → out ≡ start ++ pieces → text ≡ pieces → out ≡ start ++ text
shown out start pieces text e is = e ∙ ap (λ (t : List ℕ). start ++ t) (sym is)

-- what was appended is a text by another name
pub extended : (new old slice part : List ℕ) → new ≡ old ++ slice → slice ≡ part → new ≡ old ++ part
extended new old slice part e is = e ∙ ap (λ (t : List ℕ). old ++ t) is

quoted_word : (new old word other : List ℕ) (key : List ℕ) → new ≡ old ++ (key ++ quoted word) → word ≡ other → new ≡ old ++ (key ++ quoted other)
quoted_word new old word other key e is = e ∙ ap (λ (w : List ℕ). old ++ (key ++ quoted w)) is

pub class_room_written : (id penalty : ℕ) (out a b c : List ℕ) → a ≡ out ++ (codes "{\"id\":" ++ decimal id) → b ≡ a ++ (codes ",\"penalty\":" ++ decimal penalty) → c ≡ b ++ codes "}" → c ≡ out ++ compact_text (class_room_data id penalty)
class_room_written id penalty out a b c is_a is_b is_c = shown _ out _ _ (then out _ _ (then a _ _ is_c is_b) is_a) (class_room_text id penalty)

pub time_written : (days start length weeks penalty : ℕ) (day week out a b c d e f : List ℕ) → day ≡ word_at day_words days → week ≡ word_at week_words weeks → a ≡ out ++ (codes "{\"days\":" ++ quoted day)
    → b ≡ a ++ (codes ",\"length\":" ++ decimal (10 + 6 * length)) → c ≡ b ++ (codes ",\"penalty\":" ++ decimal penalty) → d ≡ c ++ (codes ",\"start\":" ++ decimal (96 + 12 * start))
    → e ≡ d ++ (codes ",\"weeks\":" ++ quoted week) → f ≡ e ++ codes "}" → f ≡ out ++ compact_text (time_data days start length weeks penalty)
time_written days start length weeks penalty day week out a b c d e f is_day is_week is_a is_b is_c is_d is_e is_f =
    shown _ out _ _ (then out _ _ (then a _ _ (then b _ _ (then c _ _ (then d _ _ is_f (quoted_word e d week _ (codes ",\"weeks\":") is_e is_week)) is_d) is_c) is_b) (quoted_word a out day _ (codes "{\"days\":") is_a is_day))
    (time_text days start length weeks penalty)

pub subpart_written : (id : ℕ) (classes : List Data) (out a b c d : List ℕ) → a ≡ out ++ codes "{\"classes\":" → b ≡ a ++ compact_text (list classes) → c ≡ b ++ (codes ",\"id\":" ++ decimal id) → d ≡ c ++ codes "}"
    → d ≡ out ++ compact_text (subpart_data id classes)
subpart_written id classes out a b c d is_a is_b is_c is_d = shown _ out _ _ (then out _ _ (then a _ _ (then b _ _ is_d is_c) is_b) is_a) (subpart_text id classes)

pub entry_written : (room value : ℕ) (out a b c : List ℕ) → a ≡ out ++ (codes ",\"travel\":[{\"room\":" ++ decimal room) → b ≡ a ++ (codes ",\"value\":" ++ decimal value) → c ≡ b ++ codes "}]"
    → c ≡ out ++ travel_text (Some (list (travel_entry room value ∷ [])))
entry_written room value out a b c is_a is_b is_c = shown _ out _ _ (then out _ _ (then a _ _ is_c is_b) is_a) (entry_text room value)

pub turn_written : (k penalty : ℕ) (word out a b c d e : List ℕ) → word ≡ word_at type_words ((k - 1) % 19) → a ≡ out ++ codes "{\"classes\":" → b ≡ a ++ compact_text (list (four_classes k))
    → c ≡ b ++ strength_text k penalty → d ≡ c ++ (codes ",\"type\":" ++ quoted word) → e ≡ d ++ codes "}" → e ≡ out ++ compact_text (turn_data k penalty)
turn_written k penalty word out a b c d e is_word is_a is_b is_c is_d is_e =
    shown _ out _ _ (then out _ _ (then a _ _ (then b _ _ (then c _ _ is_e (quoted_word d c word _ (codes ",\"type\":") is_d is_word)) is_c) is_b) is_a) (turn_text k penalty)

pub four_written : (k1 k2 k3 k4 : ℕ) (out a b c d e : List ℕ) → a ≡ out ++ (codes "[" ++ decimal k1) → b ≡ a ++ (codes "," ++ decimal k2) → c ≡ b ++ (codes "," ++ decimal k3) → d ≡ c ++ (codes "," ++ decimal k4) → e ≡ d ++ codes "]"
    → e ≡ out ++ compact_text (list (num k1 ∷ num k2 ∷ num k3 ∷ num k4 ∷ []))
four_written k1 k2 k3 k4 out a b c d e is_a is_b is_c is_d is_e = shown _ out _ _ (then out _ _ (then a _ _ (then b _ _ (then c _ _ is_e is_d) is_c) is_b) is_a) (four_text k1 k2 k3 k4)

pub attendees_written : (k : ℕ) (out a b c : List ℕ) → a ≡ out ++ (codes "{\"classes\":[" ++ decimal (4 * k - 3)) → b ≡ a ++ (codes "," ++ decimal (4 * k - 1)) → c ≡ b ++ codes "],\"required\":true,\"type\":\"SameAttendees\"}"
    → c ≡ out ++ compact_text (attendees_rule k)
unfolding attendees_rule
attendees_written k out a b c is_a is_b is_c = shown _ out _ _ (then out _ _ (then a _ _ is_c is_b) is_a) (attendees_text (4 * k - 3) (4 * k - 1))

pub class_written : (empty times out a b c d e f g : List ℕ) (rooms id : ℕ) (parent : Option ℕ) (start between : Lcg) → empty ≡ [] → times ≡ empty ++ compact_text (list (draw_each 0 6 (λ i. time) start).0)
    → between ≡ (draw_each 0 6 (λ i. time) start).1 → a ≡ out ++ (codes "{\"id\":" ++ decimal id) → b ≡ a ++ codes ",\"limit\":50" → c ≡ b ++ parent_text parent → d ≡ c ++ rooms_text (class_rooms rooms id between).0
    → e ≡ d ++ codes ",\"times\":" → f ≡ e ++ times → g ≡ f ++ codes "}" → g ≡ out ++ compact_text (class rooms parent id start).0
unfolding class
class_written empty times out a b c d e f g rooms id parent start between is_empty is_times is_between is_a is_b is_c is_d is_e is_f is_g =
    let drawn : List Data = (draw_each 0 6 (λ i. time) start).0 in
    let now : Lcg = (draw_each 0 6 (λ i. time) start).1 in
    let is_text : times ≡ compact_text (list drawn) = is_times ∙ ap (λ (t : List ℕ). t ++ compact_text (list drawn)) is_empty in
    let rooms_now = is_d ∙ ap (λ (l : Lcg). c ++ rooms_text (class_rooms rooms id l).0) is_between in
    shown _ out _ _ (then out _ _ (then a _ _ (then b _ _ (then c _ _ (then d _ _ (then e _ _ is_g (extended f e _ _ is_f is_text)) is_e) rooms_now) is_c) is_b) is_a) (class_text id parent (class_rooms rooms id now).0 drawn)

pub class_words : (rooms id : ℕ) (parent : Option ℕ) (start between after : Lcg) → between ≡ (draw_each 0 6 (λ i. time) start).1 → after ≡ (class_rooms rooms id between).1 → after ≡ (class rooms parent id start).1
unfolding class
class_words rooms id parent start between after is_between is_after = is_after ∙ ap (λ (l : Lcg). (class_rooms rooms id l).1) is_between

abbrev parents : ℕ → ℕ → ℕ → Draws (List Data)
parents rooms k count = draw_each (4 * k - 3) count (λ id. class rooms None id)

abbrev children : ℕ → ℕ → Draws (List Data)
children rooms k = draw_each (4 * k - 1) 2 (λ id. class rooms (Some (id - 2)) id)

pub whole_written : (out a b c d e f g : List ℕ) (rooms k : ℕ) (start between : Lcg) → a ≡ out ++ before_subparts k → b ≡ a ++ codes ",\"subparts\":["
    → c ≡ b ++ compact_text (subpart_data (2 * k - 1) (draw_each (4 * k - 3) 2 (λ id. class rooms None id) start).0) → between ≡ (draw_each (4 * k - 3) 2 (λ id. class rooms None id) start).1 → d ≡ c ++ codes ","
    → e ≡ d ++ compact_text (subpart_data (2 * k) (draw_each (4 * k - 1) 2 (λ id. class rooms (Some (id - 2)) id) between).0) → f ≡ e ++ after_subparts k → g ≡ f ++ codes "}" → g ≡ out ++ compact_text (whole_course rooms k start).0
unfolding whole_course whole_data
whole_written out a b c d e f g rooms k start between is_a is_b is_c is_between is_d is_e is_f is_g =
    let now : Lcg = (parents rooms k 2 start).1 in
    let second = is_e ∙ ap (λ (l : Lcg). d ++ compact_text (subpart_data (2 * k) (children rooms k l).0)) is_between in
    shown _ out _ _ (then out _ _ (then a _ _ (then b _ _ (then c _ _ (then d _ _ (then e _ _ is_g is_f) second) is_d) is_c) is_b) is_a)
    (two_text k (subpart_data (2 * k - 1) (parents rooms k 2 start).0) (subpart_data (2 * k) (children rooms k now).0))

pub whole_words : (rooms k : ℕ) (start between after : Lcg) → between ≡ (draw_each (4 * k - 3) 2 (λ id. class rooms None id) start).1
    → after ≡ (draw_each (4 * k - 1) 2 (λ id. class rooms (Some (id - 2)) id) between).1 → after ≡ (whole_course rooms k start).1
unfolding whole_course
whole_words rooms k start between after is_between is_after = is_after ∙ ap (λ (l : Lcg). (children rooms k l).1) is_between

pub last_written : (out a b c d e : List ℕ) (rooms count k : ℕ) (start : Lcg) → a ≡ out ++ before_subparts k → b ≡ a ++ codes ",\"subparts\":["
    → c ≡ b ++ compact_text (subpart_data (2 * k - 1) (draw_each (4 * k - 3) count (λ id. class rooms None id) start).0) → d ≡ c ++ after_subparts k → e ≡ d ++ codes "}" → e ≡ out ++ compact_text (last_course rooms count k start).0
unfolding last_course
last_written out a b c d e rooms count k start is_a is_b is_c is_d is_e =
    shown _ out _ _ (then out _ _ (then a _ _ (then b _ _ (then c _ _ is_e is_d) is_c) is_b) is_a) (one_text k (subpart_data (2 * k - 1) (parents rooms k count start).0))

pub last_words : (rooms count k : ℕ) (start after : Lcg) → after ≡ (draw_each (4 * k - 3) count (λ id. class rooms None id) start).1 → after ≡ (last_course rooms count k start).1
unfolding last_course
last_words rooms count k start after is_after = is_after

pub student_written : (out a b c d : List ℕ) (courses id : ℕ) (start : Lcg) → a ≡ out ++ codes "{\"courses\":" → b ≡ a ++ compact_text (list (draw_each 0 4 (λ i. request courses) start).0)
    → c ≡ b ++ (codes ",\"id\":" ++ decimal id) → d ≡ c ++ codes "}" → d ≡ out ++ compact_text (student courses id start).0
unfolding student
student_written out a b c d courses id start is_a is_b is_c is_d = shown _ out _ _ (then out _ _ (then a _ _ (then b _ _ is_d is_c) is_b) is_a) (student_text id (draw_each 0 4 (λ i. request courses) start).0)

pub student_words : (courses id : ℕ) (start after : Lcg) → after ≡ (draw_each 0 4 (λ i. request courses) start).1 → after ≡ (student courses id start).1
unfolding student
student_words courses id start after is_after = is_after

pub room_written : (out a b c d : List ℕ) (id : ℕ) (start : Lcg) → a ≡ out ++ (codes "{\"capacity\":60,\"id\":" ++ decimal id) → b ≡ a ++ travel_text (travel id start).0
    → c ≡ b ++ closed_text id → d ≡ c ++ codes "}" → d ≡ out ++ compact_text (room id start).0
unfolding room
room_written out a b c d id start is_a is_b is_c is_d = shown _ out _ _ (then out _ _ (then a _ _ (then b _ _ is_d is_c) is_b) is_a) (room_text id (travel id start).0)

pub room_words : (id : ℕ) (start after : Lcg) → after ≡ (travel id start).1 → after ≡ (room id start).1
unfolding room
room_words id start after is_after = is_after
