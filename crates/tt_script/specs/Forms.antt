-- Theorem. The forms of a line, and the command of each.
use Rattle.std.specs.Prelude.{ℕ, ◌≤◌, ⊤, IsTrue, IsSome, List, [], ◌∷◌, Option, None, Some, option_map, if◌then◌else◌, codes, bytes_eq}
use Rattle.tt_base.specs.Limits.{most_id, most_slot}
use Rattle.std.specs.Option.{option_zip}
use Rattle.tt_text.specs.Decimal.{decimal_of, at_most}
use Rattle.tt_script.specs.declared.command.Command.{Command}
use Rattle.tt_script.specs.declared.command.Command.TheVariants.{Assign, Unassign, Force, Section, Drop, Enrol, EnrolAll, Search, Repair, Place, Improve, Deluge, Recall, Close, Reopen, Lock, LockAll, Unlock, UnlockAll, Undo, Publish, Draft, Totals, Violations, Costs, Explain, Why, Values, Meets, Student, Stats, Suggest, Quit}
use Rattle.tt_script.specs.declared.reading.NamedValue.{NamedValue}
use Rattle.tt_script.specs.declared.reading.Turns.{Turns}
use Rattle.tt_script.specs.declared.reading.Chosen.{Chosen}
use Rattle.tt_script.specs.declared.reading.Chosen.TheVariants.{All, One}
use Rattle.tt_script.specs.declared.reading.Closing.{Closing}
use Rattle.tt_bits.specs.BitWords.{bit_word}

-- ---- words

-- an id, or the number of a time: a decimal number up to 4,294,967,295
abbrev pub id_of : List ℕ → Option ℕ
id_of word = at_most most_id (decimal_of word)

-- an id for each word
abbrev pub ids_of : List (List ℕ) → Option (List ℕ)
ids_of [] = Some []
ids_of (word ∷ words) = option_map (λ b. b.0 ∷ b.1) (option_zip (id_of word) (ids_of words))

-- a room: its id, or '-' for none
abbrev pub room_or_none : List ℕ → Option (Option ℕ)
room_or_none word = if bytes_eq word (codes "-") then Some None else option_map Some (id_of word)

-- the most turns
abbrev pub most_turns : ℕ
most_turns = 1000000

-- a number of turns
abbrev pub count_of : List ℕ → Option ℕ
count_of word = at_most most_turns (decimal_of word)

-- a seed: up to 18,446,744,073,709,551,615
abbrev pub seed_of : List ℕ → Option ℕ
seed_of word = at_most 18446744073709551615 (decimal_of word)

-- a number of slots: up to 65,535
abbrev pub slot_of : List ℕ → Option ℕ
slot_of word = at_most most_slot (decimal_of word)

-- ---- what follows the word of a command

-- `C T R`: a class, the number of a time, and a room
abbrev pub named_value_of : List (List ℕ) → Option NamedValue
named_value_of (class ∷ time ∷ room ∷ []) = option_map (λ v. record { class = v.0; time = v.1.0; room = v.1.1 }) (option_zip (id_of class) (option_zip (id_of time) (room_or_none room)))
named_value_of words = None

-- `N SEED`: a number of turns, and the seed
abbrev pub turns_of : List (List ℕ) → Option Turns
turns_of (count ∷ seed ∷ []) = option_map (λ t. record { count = t.0; seed = t.1 }) (option_zip (count_of count) (seed_of seed))
turns_of words = None

-- `ROOM DAYS START LENGTH WEEKS`: a room, and when it is closed
abbrev pub closing_of : List (List ℕ) → Option Closing
closing_of (room ∷ days ∷ start ∷ length ∷ weeks ∷ []) =
    option_map (λ c. record { room = c.0; days = c.1.0; start = c.1.1.0; length = c.1.1.1.0; weeks = c.1.1.1.1 })
    (option_zip (id_of room) (option_zip (bit_word days) (option_zip (slot_of start) (option_zip (slot_of length) (bit_word weeks)))))
closing_of words = None

-- `C`, `S` or `ROOM`: one id
abbrev pub lone_id : List (List ℕ) → Option ℕ
lone_id (word ∷ []) = id_of word
lone_id words = None

-- a depth: 1, 2 or 3
abbrev pub depth_of : List ℕ → Option ℕ
depth_of word =
    if bytes_eq word (codes "1") then Some 1
    else if bytes_eq word (codes "2") then Some 2
    else if bytes_eq word (codes "3") then Some 3
    else None

-- `C DEPTH`: a class, and a depth
abbrev pub suggest_of : List (List ℕ) → Option Command
suggest_of (class ∷ depth ∷ []) = option_map (λ s. Suggest s.0 s.1) (option_zip (id_of class) (depth_of depth))
suggest_of words = None

-- `all`, or one id
abbrev pub chosen_of : List (List ℕ) → Option Chosen
chosen_of (word ∷ []) = if bytes_eq word (codes "all") then Some All else option_map One (id_of word)
chosen_of words = None

-- the command for all, or the one for the class or student with this id
abbrev pub for_chosen : Command → (ℕ → Command) → Chosen → Command
for_chosen all one All = all
for_chosen all one (One id) = one id

-- `S C1 C2 ..`: a student, and then any number of classes
abbrev pub section_of : List (List ℕ) → Option Command
section_of [] = None
section_of (student ∷ classes) = option_map (λ s. Section s.0 s.1) (option_zip (id_of student) (ids_of classes))

-- nothing
abbrev pub no_more_words : Command → List (List ℕ) → Option Command
no_more_words command [] = Some command
no_more_words command (word ∷ words) = None

-- ---- the table of commands

-- the command that asks of a class or a student, by its first word and those after it
abbrev pub question_of : List ℕ → List (List ℕ) → Option Command
question_of word words =
    if bytes_eq word (codes "explain") then option_map Explain (lone_id words)
    else if bytes_eq word (codes "why") then option_map (λ v. Why v.class v.time v.room) (named_value_of words)
    else if bytes_eq word (codes "values") then option_map Values (lone_id words)
    else if bytes_eq word (codes "meets") then option_map Meets (lone_id words)
    else if bytes_eq word (codes "student") then option_map Student (lone_id words)
    else if bytes_eq word (codes "stats") then option_map Stats (lone_id words)
    else if bytes_eq word (codes "suggest") then suggest_of words
    else None

-- the command that locks, goes back, publishes, asks or ends, by its first word and those after it
abbrev pub other_command : List ℕ → List (List ℕ) → Option Command
other_command word words =
    if bytes_eq word (codes "lock") then option_map (for_chosen LockAll Lock) (chosen_of words)
    else if bytes_eq word (codes "unlock") then option_map (for_chosen UnlockAll Unlock) (chosen_of words)
    else if bytes_eq word (codes "undo") then no_more_words Undo words
    else if bytes_eq word (codes "publish") then no_more_words Publish words
    else if bytes_eq word (codes "draft") then no_more_words Draft words
    else if bytes_eq word (codes "totals") then no_more_words Totals words
    else if bytes_eq word (codes "violations") then no_more_words Violations words
    else if bytes_eq word (codes "costs") then no_more_words Costs words
    else if bytes_eq word (codes "quit") then no_more_words Quit words
    else question_of word words

-- the command that the words of a line are, if they are in one of these forms
abbrev pub command_of : List (List ℕ) → Option Command
command_of [] = None
command_of (word ∷ words) =
    if bytes_eq word (codes "assign") then option_map (λ v. Assign v.class v.time v.room) (named_value_of words)
    else if bytes_eq word (codes "unassign") then option_map Unassign (lone_id words)
    else if bytes_eq word (codes "force") then option_map (λ v. Force v.class v.time v.room) (named_value_of words)
    else if bytes_eq word (codes "section") then section_of words
    else if bytes_eq word (codes "drop") then option_map Drop (lone_id words)
    else if bytes_eq word (codes "enrol") then option_map (for_chosen EnrolAll Enrol) (chosen_of words)
    else if bytes_eq word (codes "search") then option_map (λ t. Search t.count t.seed) (turns_of words)
    else if bytes_eq word (codes "repair") then option_map (λ t. Repair t.count t.seed) (turns_of words)
    else if bytes_eq word (codes "place") then option_map (λ t. Place t.count t.seed) (turns_of words)
    else if bytes_eq word (codes "improve") then option_map (λ t. Improve t.count t.seed) (turns_of words)
    else if bytes_eq word (codes "deluge") then option_map (λ t. Deluge t.count t.seed) (turns_of words)
    else if bytes_eq word (codes "recall") then no_more_words Recall words
    else if bytes_eq word (codes "close") then option_map (λ c. Close c.room c.days c.start c.length c.weeks) (closing_of words)
    else if bytes_eq word (codes "reopen") then option_map Reopen (lone_id words)
    else other_command word words

-- The first word is `section`, and the others are in its form.
abbrev pub IsSectionLine : List (List ℕ) → Type 0
IsSectionLine [] = ⊥
IsSectionLine (word ∷ words) = IsTrue (bytes_eq word (codes "section")) × IsSome (section_of words)

-- ---- what a command that was read holds

-- a depth is 1, 2 or 3
pub record IsDepth (depth : ℕ) : Type 0 where
  pub some : 1 ≤ depth
  pub few : depth ≤ 3

abbrev pub HasDepth : Command → Type 0
HasDepth (Suggest class depth) = IsDepth depth
HasDepth _ = ⊤
