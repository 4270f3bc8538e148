-- How the phases of a run that checks a solution file follow the plain run.
use Rattle.std.proofs.Common.{◌≡◌, ◌≢◌, ◌≤◌, ℕ, List, [], ◌∷◌, None, Some, Option, Result, Ok, Err, refl, sym, ◌∙◌, ap, subst, arith}
use Rattle.std.specs.Prelude.{IfOk, IfErr, IfSome, IsOk, IsSome}
use Rattle.std.proofs.lemmas.List.{append-nil}
use Rattle.tt_io.specs.Causes.{Writes}
use Rattle.tt_io.specs.Whole.{WritesFront}
use Rattle.tt_io.proofs.WrittenLemmas.{WritesFront-first, nothing_written}
use Rattle.tt_problem.specs.declared.parts.Parts.{Parts}
use Rattle.tt_published.specs.Timetable.{Timetable}
use Rattle.tt_base.specs.Chain.{◌>>=◌}
use Rattle.tt_top.specs.declared.end.End.{End}
use Rattle.tt_top.specs.declared.end.End.TheVariants.{Files, Sink, Memory, TooLong}
use Rattle.tt_top.specs.declared.end.Done.{Done}
use Rattle.tt_top.specs.declared.end.Input.TheVariants.{Published}
use Rattle.tt_top.specs.declared.end.InputFault.{InputFault}
use Rattle.tt_top.specs.declared.verify_run.Check.{Check}
use Rattle.tt_top.specs.Words.{FileWords, verify_words}
use Rattle.tt_top.specs.PlainRun.{PlainRun, Phase, text_of, ends, last_phase, problem_phase, timetable_phase, checking, verify_run}
use Rattle.tt_top.specs.Phases.{solution_phase, check_phase}
use Rattle.tt_top.specs.Run.{Outside, IsFront, Follows, HasCauses, ReadsWithin, AsksInOrder, IsVerifyRun}
use Rattle.tt_top.specs.Ends.{faulty_file, end_status, done_status, status_of, HasEndCause, Agrees, Fetches}
use Rattle.tt_top.specs.Checks.{check_text, check_status, check_run, check_seen}
use Rattle.tt_top.proofs.FetchLemmas.{EndNames, names_then, names_problem, names_timetable, rest_within}
use Rattle.tt_top.proofs.EndLemmas.{at_most_one, three_or_four, end_is_no_usage, same_cause, done_cause, no_cause, other_end, has_causes, most_status, none_first}
use Rattle.tt_top.proofs.FollowLemmas.{follows_whole, follows_part, follows_none, asks_early, asks_faulty, asks_all}

-- ---- what is found of the solution

pub found_agrees : (limit : ℕ) (holds : List ℕ → Option (List ℕ)) (names : List (List ℕ)) (p : Parts) (name : List ℕ) (t : Timetable) (c : Check) → Agrees names (timetable_phase limit holds names p name) (Ok (Ok t)) → checking names p t ≡ check_run names c
    → Agrees names (solution_phase limit holds names p name) (check_seen names (Ok (Ok c)))
found_agrees limit holds names p name t c agrees is = λ told. rw (agrees (λ untold. told (rw untold refl)), is) refl

-- files that hold the same give the same
pub solution_same : (limit : ℕ) (holds now : List ℕ → Option (List ℕ)) (names : List (List ℕ)) (p : Parts) (name : List ℕ) → ((n : List ℕ) → now n ≡ holds n) → solution_phase limit now names p name ≡ solution_phase limit holds names p name
solution_same limit holds now names p name same = rw (same name) refl

-- the problem is the first name of each run that ends before a solution is found
pub check_within : (limit : ℕ) (holds : List ℕ → Option (List ℕ)) (problem solution : List ℕ) → EndNames (IsFront (problem ∷ [])) (check_phase limit holds problem solution)
check_within limit holds problem solution =
    let names = problem ∷ solution ∷ [] in
    names_then (IsFront (problem ∷ [])) (problem_phase limit holds problem) (λ p. solution_phase limit holds names p solution) (names_problem (IsFront (problem ∷ [])) limit holds problem ([], refl))
    (λ p. names_then (IsFront (problem ∷ [])) (timetable_phase limit holds names p solution) (λ t. Ok (checking names p t)) (names_timetable (IsFront (problem ∷ [])) limit holds names p solution (solution ∷ [], refl)) (λ t. tt))

-- and after a problem both names
pub solution_within : (limit : ℕ) (holds : List ℕ → Option (List ℕ)) (problem solution : List ℕ) (p : Parts) → (problem_phase limit holds problem ≢ Err None → problem_phase limit holds problem ≡ Ok p) → EndNames (IsFront (problem ∷ solution ∷ [])) (check_phase limit holds problem solution)
solution_within limit holds problem solution p first =
    let names = problem ∷ solution ∷ [] in
    rest_within (IsFront names) (problem_phase limit holds problem) (λ p. solution_phase limit holds names p solution) p first
    (names_then (IsFront names) (timetable_phase limit holds names p solution) (λ t. Ok (checking names p t)) (names_timetable (IsFront names) limit holds names p solution ([], refl)) (λ t. tt))

-- a fault of the solution is one of a file that is named
pub solution_named : (names : List (List ℕ)) (word : List ℕ) (r : Result (Result Check InputFault) End) → IfOk r (λ l. IfErr l (λ f. f.input ≡ Published)) → IfOk (check_seen names r) (λ l. IfErr l (λ f. (f.input ≡ Published) × IsSome (Some word)))
solution_named names word (Ok (Ok c)) input = tt
solution_named names word (Ok (Err f)) input = (input, refl)
solution_named names word (Err e) input = tt

-- and both files were read
pub seen_ok : (names : List (List ℕ)) (r : Result (Result Check InputFault) End) → IsOk (check_seen names r) → IsOk r
seen_ok names (Ok l) ok = refl
seen_ok names (Err e) ok = absurd (cc ok)

-- ---- the plain run, by its phases

told_last : (phase x : Phase PlainRun) (P : PlainRun → Type 0) → (phase ≢ Err None → phase ≡ x) → IfSome (last_phase x) P → IfSome (last_phase phase) P
told_last (Err None) x P is some = tt
told_last (Err (Some r)) x P is some = subst (λ (phase : Phase PlainRun). IfSome (last_phase phase) P) (sym (is (λ e. cc e))) some
told_last (Ok r) x P is some = subst (λ (phase : Phase PlainRun). IfSome (last_phase phase) P) (sym (is (λ e. cc e))) some

any_last : (phase : Phase PlainRun) (P Q : PlainRun → Type 0) → ((r : PlainRun) → P r → Q r) → IfErr phase (λ ended. IfSome ended P) → IfOk phase P → IfSome (last_phase phase) Q
any_last (Ok r) P Q all ended done = all r done
any_last (Err None) P Q all ended done = tt
any_last (Err (Some r)) P Q all ended done = all r ended

ok_then : {A : Type 0} (phase : Phase A) (f : A → Phase PlainRun) (P : PlainRun → Type 0) → ((x : A) → IfOk (f x) P) → IfOk (phase >>= f) P
ok_then (Ok x) f P later = later x
ok_then (Err ended) f P later = tt

-- where a solution was checked, both names were asked for
check_names : (limit : ℕ) (holds : List ℕ → Option (List ℕ)) (problem solution : List ℕ) → IfOk (check_phase limit holds problem solution) (λ r. r.names ≡ problem ∷ solution ∷ [])
check_names limit holds problem solution =
    let names = problem ∷ solution ∷ [] in
    ok_then (problem_phase limit holds problem) (λ p. solution_phase limit holds names p solution) (λ r. r.names ≡ names) (λ p. ok_then (timetable_phase limit holds names p solution) (λ t. Ok (checking names p t)) (λ r. r.names ≡ names) (λ t. refl))

if_ok : {A : Type 0} (phase : Phase A) (P Q : A → Type 0) → ((x : A) → P x → Q x) → IfOk phase P → IfOk phase Q
if_ok (Ok x) P Q all some = all x some
if_ok (Err ended) P Q all some = tt

-- ---- the answer of a run

module _ (problem solution : List ℕ) (limit : ℕ) (o : Outside) where
  abbrev words : FileWords
  words = verify_words problem solution

  abbrev both : List (List ℕ)
  both = problem ∷ solution ∷ []

  abbrev phase : Phase PlainRun
  phase = check_phase limit o.holds problem solution

  is_verify_run : (names : List (List ℕ)) (r : Result Done End) → IfSome (verify_run limit o.holds problem solution) (λ p. Follows p o names (status_of r)) → AsksInOrder words o names (status_of r) → HasCauses o (status_of r) → status_of r ≢ 2 → ReadsWithin limit o.holds o.now.left names → IsVerifyRun problem solution limit o (status_of r)
  is_verify_run names r plain asks causes no_usage reads = record { names = names; run = record { plain = plain; asks = asks; causes = causes; at_most = most_status r; no_usage = no_usage; reads = reads } }

  -- ---- before anything is written

  module _ (e : End) (fetches : Fetches words limit o.holds o.now.left phase o.before.asked o.now.asked (Err e)) where
    any_verify_run : (P : PlainRun → Type 0) → ((r : PlainRun) → IsFront fetches.names r.names → P r) → IfSome (verify_run limit o.holds problem solution) P
    any_verify_run P all =
        any_last phase (λ r. IsFront fetches.names r.names) P all fetches.within
        (if_ok phase (λ r. r.names ≡ both) (λ r. IsFront fetches.names r.names) (λ r is. (fetches.first.0, is ∙ fetches.first.1)) (check_names limit o.holds problem solution))

    pub unchecked_run : o.now.written ≡ o.before.written → o.now.sink ≡ o.before.sink → e ≢ Sink → HasEndCause {T = Result Check InputFault} Files o.before.files o.now.files (Err e) → IsVerifyRun problem solution limit o (end_status e)
    unchecked_run same kept no_sink files =
        let causes : HasCauses o (end_status e) = has_causes o (Err e) (same_cause Files _ _ e files) (other_end Sink e _ _ kept no_sink) in
        is_verify_run fetches.names (Err e) (by e refl causes) (asks_early words o phase (Err e) e (λ _. same) fetches) causes (end_is_no_usage e) fetches.reads
      where
        by : (x : End) → e ≡ x → HasCauses o (end_status e) → IfSome (verify_run limit o.holds problem solution) (λ p. Follows p o fetches.names (end_status e))
        by Files is causes = any_verify_run _ (λ r front. follows_none o fetches.names r e (λ long. cc (sym is ∙ long)) causes front same)
        by Sink is causes = absurd (no_sink is)
        by Memory is causes = any_verify_run _ (λ r front. follows_none o fetches.names r e (λ long. cc (sym is ∙ long)) causes front same)
        by TooLong is causes =
            told_last phase (ends fetches.names [] 8) _ (rw is at fetches.agrees) (follows_whole o fetches.names (record { pieces = []; status = 8; names = fetches.names }) (end_status e) (ap end_status is) refl (nothing_written _ _ same))

  -- ---- where this was found

  module _ (l : Result Check InputFault) (fetches : Fetches words limit o.holds o.now.left phase o.before.asked o.now.asked (check_seen both (Ok l))) (files : HasEndCause {T = Result Check InputFault} Files o.before.files o.now.files (Ok l)) where
    -- it was written
    pub checked_run : (done : Done) → done_status done ≡ check_status l → Writes o.before.written o.now.written (check_text l) → o.now.sink ≡ o.before.sink → IsVerifyRun problem solution limit o (done_status done)
    checked_run done is all kept = by l fetches (has_causes o (Ok done) (done_cause Files _ _ l done files) (record { rose = λ is. absurd cc; same = λ _. kept })) is all
      where
        by : (l : Result Check InputFault) → Fetches words limit o.holds o.now.left phase o.before.asked o.now.asked (check_seen both (Ok l)) → HasCauses o (done_status done) → done_status done ≡ check_status l → Writes o.before.written o.now.written (check_text l) → IsVerifyRun problem solution limit o (done_status done)
        by (Ok c) fetches causes is all =
            let one : check_status (Ok c) ≤ 1 = at_most_one c.violations in
            let few : done_status done ≤ 1 = omega (arith, one, is) in
            is_verify_run fetches.names (Ok done) (told_last phase (Ok (check_run both c)) _ fetches.agrees (follows_whole o fetches.names (check_run both c) (done_status done) is fetches.each (rw (append-nil c.reply) all)))
            (asks_all words o phase (check_run both c) (done_status done) refl few fetches) causes (λ two. omega (arith, few, two)) fetches.reads
        by (Err f) fetches causes is all =
            let line = (faulty_file f).line in
            let asks : AsksInOrder words o fetches.names (done_status done) = rw is (asks_faulty words o phase f fetches) in
            is_verify_run fetches.names (Ok done)
            (told_last phase (ends fetches.names (line ∷ []) (check_status (Err f))) _ fetches.agrees (follows_whole o fetches.names (record { pieces = line ∷ []; status = check_status (Err f); names = fetches.names }) (done_status done) is refl (rw (append-nil line) all)))
            asks causes (λ two. let three = (three_or_four f.input).0 in omega (arith, three, is, two)) fetches.reads

    -- it wasn't written whole
    pub unwritten_run : (e : End) → (e ≡ Memory → o.now.written ≡ o.before.written) → WritesFront o.before.written o.now.written (check_text l) → e ≢ Files → e ≢ TooLong → HasEndCause {T = Unit {0}} Sink o.before.sink o.now.sink (Err e) → IsVerifyRun problem solution limit o (end_status e)
    unwritten_run e memory front no_files no_limit sink =
        by l fetches (has_causes o (Err e) (no_cause Files e _ _ l files no_files) (same_cause Sink _ _ e sink)) front
      where
        kept : e ≢ Sink → o.now.written ≡ o.before.written
        kept ne = by e memory no_files no_limit ne
          where
            by : (e : End) → (e ≡ Memory → o.now.written ≡ o.before.written) → e ≢ Files → e ≢ TooLong → e ≢ Sink → o.now.written ≡ o.before.written
            by Files memory no_files no_limit ne = absurd (no_files refl)
            by Sink memory no_files no_limit ne = absurd (ne refl)
            by Memory memory no_files no_limit ne = memory refl
            by TooLong memory no_files no_limit ne = absurd (no_limit refl)

        part : (names : List (List ℕ)) (r : PlainRun) → HasCauses o (end_status e) → IsFront names r.names → WritesFront o.before.written o.now.written (text_of r) → Follows r o names (end_status e)
        part names r causes asked front = follows_part o names r e no_limit causes asked front (λ ne. none_first _ _ r.pieces (kept ne))

        by : (l : Result Check InputFault) → Fetches words limit o.holds o.now.left phase o.before.asked o.now.asked (check_seen both (Ok l)) → HasCauses o (end_status e) → WritesFront o.before.written o.now.written (check_text l) → IsVerifyRun problem solution limit o (end_status e)
        by (Ok c) fetches causes front =
            is_verify_run fetches.names (Err e)
            (told_last phase (Ok (check_run both c)) _ fetches.agrees (part fetches.names (check_run both c) causes ([], sym fetches.each ∙ sym (append-nil fetches.names)) (WritesFront-first _ _ c.reply [] front)))
            (asks_early words o phase (Ok (Ok (check_run both c))) e kept fetches) causes (end_is_no_usage e) fetches.reads
        by (Err f) fetches causes front =
            let line = (faulty_file f).line in
            is_verify_run fetches.names (Err e)
            (told_last phase (ends fetches.names (line ∷ []) (check_status (Err f))) _ fetches.agrees
            (part fetches.names (record { pieces = line ∷ []; status = check_status (Err f); names = fetches.names }) causes ([], sym (append-nil fetches.names)) (WritesFront-first _ _ line [] front)))
            (asks_early words o phase (Ok (Err f)) e kept fetches) causes (end_is_no_usage e) fetches.reads
