-- How a run follows the plain one.
use Rattle.std.proofs.Common.{◌≡◌, ◌≢◌, ◌≤◌, ◌<◌, ℕ, Bool, List, [], ◌∷◌, ◌++◌, None, Some, Option, Result, Ok, Err, refl, sym, ◌∙◌, ap, append_assoc, subst, arith, inl, inr, length, take}
use Rattle.std.specs.Prelude.{◌⊎◌, ◌+◌, IfErr, IfSome, IsOk, IsSome, option_and_then, option_to_list}
use Rattle.std.specs.List.{concat}
use Rattle.std.proofs.lemmas.List.{append-nil, length-append}
use Rattle.std.proofs.Math.Seq.{take-length}
use Rattle.tt_io.specs.Causes.{Writes, AsksAll, one_more}
use Rattle.tt_io.specs.Whole.{WritesFront}
use Rattle.tt_io.proofs.WrittenLemmas.{none_written, nothing_written}
use Rattle.tt_base.specs.Chain.{◌>>=◌}
use Rattle.tt_desk.specs.Desk.{Session}
use Rattle.tt_top.specs.declared.end.End.{End}
use Rattle.tt_top.specs.declared.end.End.TheVariants.{Files, Sink, Memory, TooLong}
use Rattle.tt_top.specs.declared.end.Done.TheVariants.{Served}
use Rattle.tt_top.specs.declared.end.Input.{Input}
use Rattle.tt_top.specs.declared.end.Input.TheVariants.{Problem, Published}
use Rattle.tt_top.specs.declared.end.InputFault.{InputFault}
use Rattle.tt_top.specs.Words.{FileWords, first_words, file_words}
use Rattle.tt_top.specs.PlainRun.{PlainRun, Phase, text_of, last_phase, script_phase}
use Rattle.tt_top.specs.Run.{Outside, IsFront, IsFirst, IsOwn, Follows, HasCauses, AsksInOrder}
use Rattle.tt_top.specs.Ends.{input_status, end_status, done_status, done_by, status_of, WritesFirst, WritesLess, IsFaultyAt, Fetches}
use Rattle.tt_top.proofs.FetchLemmas.{whole_front}
use Rattle.tt_top.proofs.EndLemmas.{over_four, at_most_one, three_or_four, none_first}

-- ---- what was written, as a text

pub first_wrote : (before now : Option (List ℕ)) (pieces : List (List ℕ)) → WritesFirst before now pieces → (text : List ℕ) × Writes before now text × IsFirst text pieces
first_wrote before now pieces some = (concat (take some.0 pieces), some.1, (some.0, refl))

pub front_wrote : (before now : Option (List ℕ)) (whole : List ℕ) → WritesFront before now whole → (text : List ℕ) × Writes before now text × IsFront text whole
front_wrote before None whole front = ([], tt, (whole, refl))
front_wrote None (Some now) whole front = absurd front
front_wrote (Some before) (Some now) whole front = (front.0, front.3, (front.1, front.2))

pub less_wrote : (before now : Option (List ℕ)) (whole : List ℕ) → WritesLess before now whole → (text : List ℕ) × Writes before now text × (IsFront text whole × (length text < length whole))
less_wrote before now whole less = (less.0, less.4, ((less.1, less.2), omega (arith, ap length less.2, length-append less.0 less.1, less.3)))

-- a front of some words is one of all
pub front_of_front : {A : Type 0} (xs ys zs : List A) → IsFront xs ys → IsFront xs (ys ++ zs)
front_of_front xs ys zs front = (front.0 ++ zs, ap (λ t. t ++ zs) front.1 ∙ append_assoc xs front.0 zs)

pub front_length : {A : Type 0} (xs ys : List A) → IsFront xs ys → length xs ≤ length ys
front_length xs ys front = omega (arith, ap length front.1, length-append xs front.0)

-- ---- the plain run, by its phases

pub if_some : {A : Type 0} (o : Option A) (P : A → Type 0) → ((x : A) → P x) → IfSome o P
if_some None P all = tt
if_some (Some x) P all = all x

pub if_both : {A : Type 0} (o : Option A) (P Q R : A → Type 0) → ((x : A) → P x → Q x → R x) → IfSome o P → IfSome o Q → IfSome o R
if_both None P Q R both p q = tt
if_both (Some x) P Q R both p q = both x p q

-- what comes after a phase that is this, where it is told
pub told_phase : {A B : Type 0} (phase x : Phase A) (f : A → Phase B) (P : Phase B → Type 0) → P (Err None) → (phase ≢ Err None → phase ≡ x) → P (x >>= f) → P (phase >>= f)
told_phase {A} {B} (Err None) x f P none is some = none
told_phase {A} {B} (Err (Some r)) x f P none is some = subst (λ (phase : Phase A). P (phase >>= f)) (sym (is (λ e. cc e))) some
told_phase {A} {B} (Ok y) x f P none is some = subst (λ (phase : Phase A). P (phase >>= f)) (sym (is (λ e. cc e))) some

-- a run whose first phase, where it is told, is this
pub told_run : {A : Type 0} (phase x : Phase A) (f : A → Phase PlainRun) (P : PlainRun → Type 0) → (phase ≢ Err None → phase ≡ x) → IfSome (last_phase (x >>= f)) P → IfSome (last_phase (phase >>= f)) P
told_run phase x f P is some = told_phase phase x f (λ q. IfSome (last_phase q) P) tt is some

-- any run, by how its first phase ends
pub any_run : {A : Type 0} (phase : Phase A) (f : A → Phase PlainRun) (P : PlainRun → Type 0) → IfErr phase (λ ended. IfSome ended P) → ((x : A) → IfSome (last_phase (f x)) P) → IfSome (last_phase (phase >>= f)) P
any_run (Ok x) f P ended later = later x
any_run (Err None) f P ended later = tt
any_run (Err (Some r)) f P ended later = ended

-- what comes after a script that is told
pub script_then : {B : Type 0} (holds : List ℕ → Option (List ℕ)) (word : Option (List ℕ)) (f : List ℕ → B) (P : Phase B → Type 0) → P (Err None) → ((script : List ℕ) → script_phase holds word ≡ Ok script → P (Ok (f script))) → P (script_phase holds word >>= λ s. Ok (f s))
script_then {B} holds None f P none all = all [] refl
script_then {B} holds (Some name) f P none all = by (holds name) refl
  where
    by : (o : Option (List ℕ)) → holds name ≡ o → P (script_phase holds (Some name) >>= λ s. Ok (f s))
    by None is = rw is none
    by (Some bytes) is = rw is (all bytes (rw is refl))

-- a run whose script is told
pub told_script : (holds : List ℕ → Option (List ℕ)) (word : Option (List ℕ)) (f : List ℕ → PlainRun) (P : PlainRun → Type 0) → ((script : List ℕ) → script_phase holds word ≡ Ok script → P (f script)) → IfSome (last_phase (script_phase holds word >>= λ s. Ok (f s))) P
told_script holds word f P all = script_then holds word f (λ q. IfSome (last_phase q) P) tt all

pub script_told : (holds : List ℕ → Option (List ℕ)) (word : Option (List ℕ)) (P : List ℕ → Type 0) → ((script : List ℕ) → script_phase holds word ≡ Ok script → P script) → IfSome (option_and_then holds word) P
script_told holds None P all = tt
script_told holds (Some name) P all = by (holds name) refl
  where
    by : (o : Option (List ℕ)) → holds name ≡ o → IfSome (holds name) P
    by None is = rw is tt
    by (Some bytes) is = rw is (all bytes (rw is refl))

-- ---- how a run follows the plain one

not_own : (e : End) → e ≢ TooLong → IsOwn (end_status e) → ⊥
not_own Files ne own = elim own [ inl le ↦ over_four Files le | inr is ↦ omega arith ]
not_own Sink ne own = elim own [ inl le ↦ over_four Sink le | inr is ↦ omega arith ]
not_own Memory ne own = elim own [ inl le ↦ over_four Memory le | inr is ↦ omega arith ]
not_own TooLong ne own = ne refl

module _ (o : Outside) (names : List (List ℕ)) (r : PlainRun) where
  -- the whole plain run
  pub follows_whole : (status : ℕ) → status ≡ r.status → names ≡ r.names → Writes o.before.written o.now.written (text_of r) → Follows r o names status
  follows_whole status is asked all = record {
    whole = λ own. all;
    ended = λ own. is;
    asked = λ own. asked;
    front = (text_of r, all, whole_front (text_of r));
    pieces = λ ne. (text_of r, all, (length r.pieces, ap concat (sym (take-length r.pieces))));
    first = ([], sym asked ∙ sym (append-nil names));
    complete = λ nf ns. inl is;
  }

  -- a part of it
  pub follows_part : (e : End) → e ≢ TooLong → HasCauses o (end_status e) → IsFront names r.names → WritesFront o.before.written o.now.written (text_of r) → (e ≢ Sink → WritesFirst o.before.written o.now.written r.pieces)
      → Follows r o names (end_status e)
  follows_part e ne causes asked front pieces = record {
    whole = λ own. absurd (not_own e ne own);
    ended = λ own. absurd (not_own e ne own);
    asked = λ own. absurd (not_own e ne own);
    front = front_wrote _ _ _ front;
    pieces = λ six. first_wrote _ _ _ (pieces (λ is. six (ap end_status is)));
    first = asked;
    complete = by e ne causes;
  }
    where
      by : (e : End) → e ≢ TooLong → HasCauses o (end_status e) → o.now.files ≢ one_more o.before.files → o.now.sink ≢ one_more o.before.sink → (end_status e ≡ r.status) ⊎ (end_status e ≡ 7)
      by Files ne causes nf ns = absurd (nf (causes.files refl))
      by Sink ne causes nf ns = absurd (ns (causes.sink refl))
      by Memory ne causes nf ns = inr refl
      by TooLong ne causes nf ns = absurd (ne refl)

  -- nothing of it
  pub follows_none : (e : End) → e ≢ TooLong → HasCauses o (end_status e) → IsFront names r.names → o.now.written ≡ o.before.written → Follows r o names (end_status e)
  follows_none e ne causes asked same = follows_part e ne causes asked (none_written _ _ (text_of r) same) (λ no. none_first _ _ r.pieces same)

-- ---- names

asks_append : (a b c : Option (List (List ℕ))) (xs ys : List (List ℕ)) → AsksAll a b xs → AsksAll b c ys → AsksAll a c (xs ++ ys)
asks_append a b None xs ys first second = tt
asks_append a None (Some c) xs ys first second = absurd second
asks_append None (Some b) (Some c) xs ys first second = absurd first
asks_append (Some a) (Some b) (Some c) xs ys first second = second ∙ ap (λ t. t ++ ys) first ∙ append_assoc a xs ys

none_asked : (before now : Option (List (List ℕ))) → now ≡ before → AsksAll before now []
none_asked before None same = tt
none_asked None (Some now) same = absurd (cc same)
none_asked (Some before) (Some now) same = let is : now ≡ before = cc in is ∙ sym (append-nil before)

module _ (words : FileWords) (o : Outside) where
  all_words : length (first_words words) ≤ length (file_words words)
  all_words = let is : length (file_words words) ≡ length (first_words words) + length (option_to_list words.script) = length-append (first_words words) (option_to_list words.script) in omega arith

  -- where no name was asked for
  pub asks_none : o.now.asked ≡ o.before.asked → o.now.written ≡ o.before.written → AsksInOrder words o [] 7
  asks_none same quiet = record {
    asked = none_asked o.before.asked o.now.asked same;
    first = (file_words words, refl);
    some = λ ne. absurd (ne refl);
    all = λ le. absurd (omega (arith, le));
    faulty_problem = λ is. absurd (omega (arith, is));
    faulty_published = λ is. absurd (omega (arith, is));
    quiet = λ five ne few. nothing_written _ _ quiet;
  }

  -- where the run ended in a phase before the script
  pub asks_early : {A : Type 0} {limit : ℕ} {holds : List ℕ → Option (List ℕ)} {left : Option (List ℕ)} (phase : Phase A) (r : Result (Result A InputFault) End) (e : End) → (e ≢ Sink → o.now.written ≡ o.before.written) → (fetches : Fetches words limit holds left phase o.before.asked o.now.asked r) → AsksInOrder words o fetches.names (end_status e)
  asks_early phase r e quiet fetches = record {
    asked = fetches.asked;
    first = front_of_front fetches.names (first_words words) (option_to_list words.script) fetches.first;
    some = λ _. fetches.some;
    all = λ le. absurd (over_four e (omega arith));
    faulty_problem = λ is. absurd (over_four e (omega arith));
    faulty_published = λ is. absurd (over_four e (omega arith));
    quiet = λ five ne few. nothing_written _ _ (quiet (λ is. ne (ap end_status is)));
  }

  -- with a fault
  pub asks_faulty : {A : Type 0} {limit : ℕ} {holds : List ℕ → Option (List ℕ)} {left : Option (List ℕ)} (phase : Phase A) (f : InputFault) → (fetches : Fetches words limit holds left phase o.before.asked o.now.asked (Ok (Err f))) → AsksInOrder words o fetches.names (input_status f.input)
  asks_faulty phase f fetches = record {
    asked = fetches.asked;
    first = front_of_front fetches.names (first_words words) (option_to_list words.script) fetches.first;
    some = λ _. fetches.some;
    all = λ le. absurd (let three = (three_or_four f.input).0 in omega arith);
    faulty_problem = λ is. one f.input fetches.each is;
    faulty_published = λ is. two f.input fetches.each is;
    quiet = λ five ne few. absurd (let four = (three_or_four f.input).1 in omega (arith, four, five));
  }
    where
      one : (input : Input) → IsFaultyAt words fetches.names input → input_status input ≡ 3 → fetches.names ≡ words.problem ∷ []
      one Problem at is = at
      one Published at is = absurd (omega arith)

      two : (input : Input) → IsFaultyAt words fetches.names input → input_status input ≡ 4 → IsSome words.published × (fetches.names ≡ first_words words)
      two Problem at is = absurd (omega arith)
      two Published at is = at

  -- where there is no script, and all went well
  pub asks_all : {A : Type 0} {limit : ℕ} {holds : List ℕ → Option (List ℕ)} {left : Option (List ℕ)} (phase : Phase A) (x : A) (status : ℕ) → words.script ≡ None → status ≤ 1 → (fetches : Fetches words limit holds left phase o.before.asked o.now.asked (Ok (Ok x))) → AsksInOrder words o fetches.names status
  asks_all phase x status none few fetches = record {
    asked = fetches.asked;
    first = front_of_front fetches.names (first_words words) (option_to_list words.script) fetches.first;
    some = λ _. fetches.some;
    all = λ _. rw none (fetches.each ∙ sym (append-nil (first_words words)));
    faulty_problem = λ is. absurd (omega arith);
    faulty_published = λ is. absurd (omega arith);
    quiet = λ five ne less. absurd (omega arith);
  }

  -- where the script was asked for, if there is one
  pub asks_served : {limit : ℕ} {holds : List ℕ → Option (List ℕ)} {left : Option (List ℕ)} (phase : Phase Session) (mid : Option (List (List ℕ))) (session : Session) (r : Result Bool End) → (words.script ≡ None → IsOk r) → Fetches words limit holds left phase o.before.asked mid (Ok (Ok session)) → AsksAll mid o.now.asked (option_to_list words.script) → AsksInOrder words o (file_words words) (status_of (done_by r))
  asks_served phase mid session r done fetches more = record {
    asked = asks_append _ mid _ (first_words words) (option_to_list words.script) (rw fetches.each at fetches.asked) more;
    first = whole_front (file_words words);
    some = λ _. omega arith;
    all = λ _. refl;
    faulty_problem = λ is. absurd (not_faulty r (inl is));
    faulty_published = λ is. absurd (not_faulty r (inr is));
    quiet = λ five ne few. absurd (asked_script r done five few);
  }
    where
      not_faulty : (r : Result Bool End) → (status_of (done_by r) ≡ 3) ⊎ (status_of (done_by r) ≡ 4) → ⊥
      not_faulty (Ok refused) is = let le : done_status (Served refused) ≤ 1 = at_most_one refused in elim is [ inl three ↦ omega arith | inr four ↦ omega arith ]
      not_faulty (Err e) is = over_four e (elim is [ inl three ↦ omega arith | inr four ↦ omega arith ])

      no_script : (script : Option (List ℕ)) (n : ℕ) → n + length (option_to_list script) ≤ n → script ≡ None
      no_script None n few = refl
      no_script (Some word) n few = absurd (omega arith)

      -- a run that ends early, and that is served where there is no script, asked for the script
      asked_script : (r : Result Bool End) → (words.script ≡ None → IsOk r) → 5 ≤ status_of (done_by r) → length (file_words words) ≤ length (first_words words) → ⊥
      asked_script (Ok refused) done five few = let le : done_status (Served refused) ≤ 1 = at_most_one refused in omega arith
      asked_script (Err e) done five few =
          let all : length (file_words words) ≡ length (first_words words) + length (option_to_list words.script) = length-append (first_words words) (option_to_list words.script) in
          let ok : IsOk {T = Bool} (Err e) = done (no_script words.script (length (first_words words)) (omega (arith, all, few))) in
          cc ok
