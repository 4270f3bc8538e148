-- How the lines of a script that is read piece by piece are answered.
use Rattle.std.proofs.Common.{◌≡◌, ◌≢◌, ◌≤◌, ◌<◌, ◌+◌, ◌-◌, ℕ, Bool, true, false, List, [], ◌∷◌, ◌++◌, None, Some, Option, Ok, Err, refl, sym, ap, ◌∙◌, subst, append_assoc, arith, inl, inr, take, length, replicate}
use Rattle.std.specs.Prelude.{Result, IfOk, IfErr, OnOk, ◌||◌, ◌&&◌, ◌⊎◌, nat_lt, not}
use Rattle.std.specs.List.{list_any}
use Rattle.std.specs.Io.KnownBytes.{IsAtEnd}
use Rattle.std.proofs.lemmas.List.{length-append, length-replicate}
use Rattle.std.proofs.lemmas.List.Folds.{list_any-append}
use Rattle.std.proofs.lemmas.Bool.Decides.{nat_tests}
use Rattle.std.proofs.Math.Seq.{take-append-add}
use Rattle.tt_io.specs.Causes.{Writes}
use Rattle.tt_io.specs.Whole.{Grows, WritesFront}
use Rattle.tt_io.specs.Lines.{Reader, new_reader, has_line_end, leading_line, after_line, to_come, Counts, StopsIn, most_line}
use Rattle.tt_io.proofs.WrittenLemmas.{Writes-append, grows_by_front, grows_by_none}
use Rattle.tt_desk.specs.declared.refusal.Refusal.TheVariants.{BadLine}
use Rattle.tt_desk.specs.declared.refusal.Outcome.{Outcome}
use Rattle.tt_desk.specs.declared.refusal.Outcome.TheVariants.{Skipped, Accepted, Refused, Ended}
use Rattle.tt_script.specs.Script.{lines_of, line_of}
use Rattle.tt_desk.specs.Causes.{IsMemoryCause}
use Rattle.tt_desk.specs.Lines.{refusal_line}
use Rattle.tt_desk.specs.Desk.{Session, line_step}
use Rattle.tt_desk.specs.Replies.{is_end, is_refused, reply_of, refuses}
use Rattle.tt_top.specs.declared.end.End.{End}
use Rattle.tt_top.specs.declared.end.End.TheVariants.{Files, Sink, Memory, TooLong}
use Rattle.tt_top.specs.Pieces.{whole_lines, ends_script, has_quit, is_long_script, answered_part, taken_of}
use Rattle.tt_top.specs.Ends.{Answers, AnswersLine, EndsScript, Serves, ServesNext, ServesSome, TakesLine, WritesFirst, WritesReplies, past_limit, replies_to, replies_within}
use Rattle.tt_top.proofs.ServeLemmas.{HasSent-more, HasSent-all, HasSent-first, HasSent-front, HasSent-same, replies-last, refuses-next, refused_more, reply_is_next}
use Rattle.tt_top.proofs.AnsweredLemmas.{quit_ends, HasAnswered, answered_none, answered_more, answered_last, follows, HasLeft, left_all, left_sent, left_next, left_wants}
use Rattle.tt_top.proofs.PieceLemmas.{first_of_lines, cut_at_end, leading_one, IsWhole, whole_empty, whole_more, lines_more, whole_is, taken_front, limit_front}

-- ---- how far a script is served

-- What was served so far ends where a line ends, and the rest is served as if it were read alone.
pub record AtLine (d : Session) (script : List ℕ) (before : Option (List ℕ)) (d' : Session) (now : Option (List ℕ)) (rest : List ℕ) : Type 0 where
  pub done : List ℕ
  pub parts : script ≡ done ++ rest
  pub whole : IsWhole done
  pub answered : HasAnswered d (lines_of done) before d' now

-- The lines of the script are those that were answered so far, and those of what is still to come.
pub record IsServed (limit : ℕ) (d : Session) (script : List ℕ) (before : Option (List ℕ)) (d' : Session) (refused : Bool) (now : Option (List ℕ)) (reader : Reader) (left : Option (List ℕ)) : Type 0 where
  pub rest : List ℕ
  pub later : to_come reader left ≡ Some rest
  pub so_far : HasLeft d (lines_of script) before d' now (lines_of rest)
  pub refused_is : (refused || refuses d' (lines_of rest)) ≡ refuses d (lines_of script)
  pub at_line : reader.ended ≡ false → AtLine d script before d' now rest
  pub met : reader.ended ≡ true → IsAtEnd left
  pub counts : Counts 0 reader.bytes_read 0 (Some script) left
  pub most : reader.bytes_read ≤ limit

-- nothing is served yet
pub served_none : (limit : ℕ) (d : Session) (script : List ℕ) (before left : Option (List ℕ)) (reader : Reader) → reader ≡ new_reader → left ≡ Some script → IsServed limit d script before d false before reader left
served_none limit d script before left reader is told = rw (is, told) (record {
  rest = script;
  later = refl;
  so_far = left_all d (lines_of script) before;
  refused_is = refl;
  at_line = λ _. record { done = []; parts = refl; whole = whole_empty; answered = answered_none d before };
  met = λ ended. absurd (cc ended);
  counts = omega arith;
  most = omega arith;
})

-- one more line
line_served : (d : Session) (script : List ℕ) (before : Option (List ℕ)) (mid_d : Session) (mid : Option (List ℕ)) (rest : List ℕ) (d' : Session) (now : Option (List ℕ)) (outcome : Outcome)
    → AtLine d script before mid_d mid rest → has_line_end rest ≡ true → Answers (leading_line rest) mid now mid_d d' outcome → is_end outcome ≡ false → AtLine d script before d' now (after_line rest)
line_served d script before mid_d mid rest d' now outcome at ends answers goes =
    let line = leading_line rest in
    let lines_are : lines_of (at.done ++ (line ++ 10 ∷ [])) ≡ lines_of at.done ++ line ∷ [] = lines_more at.done line at.whole (leading_one rest) in
    record {
      done = at.done ++ (line ++ 10 ∷ []);
      parts = at.parts ∙ ap (λ t. at.done ++ t) (cut_at_end rest ends ∙ sym (append_assoc line (10 ∷ []) (after_line rest))) ∙ sym (append_assoc at.done (line ++ 10 ∷ []) (after_line rest));
      whole = whole_more at.done line at.whole (leading_one rest);
      answered = subst (λ (t : List (List ℕ)). HasAnswered d t before d' now) (sym lines_are) (answered_more d (lines_of at.done) before mid_d mid at.answered line now d' outcome answers goes);
    }

pub counts_then : (script : List ℕ) (mid now past : ℕ) (left_mid left : Option (List ℕ)) → Counts 0 mid 0 (Some script) left_mid → Counts mid now past left_mid left → Counts 0 now past (Some script) left
counts_then script mid now past None left first second = absurd first
counts_then script mid now past (Some xs) None first second = absurd second
counts_then script mid now past (Some xs) (Some ys) first second = omega (arith, first, second)

-- the end of the file stays met
met_then : (old new : Bool) (left left' : Option (List ℕ)) → (old ≡ true → IsAtEnd left) → (old ≡ true → left' ≡ left) → (new ≡ true → (old ≡ true) ⊎ IsAtEnd left') → new ≡ true → IsAtEnd left'
met_then old new left left' met same ended is = elim (ended is) [ inl was ↦ rw (same was) (met was) | inr end ↦ end ]

-- one that goes on was not ended before
was_going : (old new : Bool) → (old ≡ true → new ≡ true) → new ≡ false → old ≡ false
was_going true new stays goes = absurd (cc (sym (stays refl) ∙ goes))
was_going false new stays goes = refl

-- ---- one more line

-- How a reader moves in a step, but for what it gives: so many bytes past the limit are read.
pub record Moves (limit past : ℕ) (reader reader' : Reader) (left left' : Option (List ℕ)) : Type 0 where
  pub ended : reader'.ended ≡ true → (reader.ended ≡ true) ⊎ IsAtEnd left'
  pub stays : reader.ended ≡ true → reader'.ended ≡ true
  pub same : reader.ended ≡ true → left' ≡ left
  pub bytes_read : Counts reader.bytes_read reader'.bytes_read past left left'
  pub most : reader'.bytes_read ≤ limit

module _ (limit : ℕ) (d : Session) (script : List ℕ) (before : Option (List ℕ)) (mid_d : Session) (refused : Bool) (mid : Option (List ℕ)) (reader : Reader) (left : Option (List ℕ)) (served : IsServed limit d script before mid_d refused mid reader left) where
  -- a line that doesn't end the script
  pub served_more : (d' : Session) (now : Option (List ℕ)) (reader' : Reader) (left' : Option (List ℕ)) (outcome : Outcome)
      → ServesNext served.rest mid now mid_d d' reader' left' (Ok outcome) → Moves limit 0 reader reader' left left' → is_end outcome ≡ false → IsServed limit d script before d' (refused || is_refused outcome) now reader' left'
  served_more d' now reader' left' outcome next moves goes = elim next [
    | inl e ↦ absurd (let f : is_end outcome ≡ true = ap is_end e.outcome_is in cc (sym f ∙ goes))
    | inr a ↦
        let line = leading_line served.rest in
        let cut = first_of_lines served.rest a.taken.some in
        record {
          rest = after_line served.rest;
          later = a.taken.later;
          so_far = left_next d (lines_of script) before mid_d mid (lines_of served.rest) d' now line (lines_of (after_line served.rest)) outcome served.so_far cut a.answered goes;
          refused_is = refused_more refused (is_refused outcome) _ _ _ served.refused_is (refuses-next mid_d d' (lines_of served.rest) line (lines_of (after_line served.rest)) outcome cut a.answered.session a.answered.outcome_is goes);
          at_line = λ on. line_served d script before mid_d mid served.rest d' now outcome (served.at_line (was_going reader.ended reader'.ended moves.stays on)) (a.taken.last on) a.answered goes;
          met = met_then reader.ended reader'.ended left left' served.met moves.same moves.ended;
          counts = counts_then script reader.bytes_read reader'.bytes_read 0 left left' served.counts moves.bytes_read;
          most = moves.most;
        }
  ]

-- ---- the end of a script

-- where the end of the file was met, the script isn't longer than the limit
short_script : (limit : ℕ) (script : List ℕ) (taken : ℕ) (left : Option (List ℕ)) → Counts 0 taken 0 (Some script) left → IsAtEnd left → taken ≤ limit → is_long_script limit script ≡ false
short_script limit script taken None counts end most = absurd counts
short_script limit script taken (Some xs) counts end most =
    let is : nat_lt limit (length script) ≡ false = let len : length script ≡ taken = (let none : length xs ≡ 0 = ap length end in omega (arith, counts, none)) in grind (arith, nat_tests, len, most) in
    rw is refl

-- the end of the file, after all lines
ended_here : (limit : ℕ) (d : Session) (script : List ℕ) (before : Option (List ℕ)) (mid_d : Session) (refused : Bool) (mid : Option (List ℕ)) (reader : Reader) (left : Option (List ℕ)) (served : IsServed limit d script before mid_d refused mid reader left)
    → (d' : Session) (now : Option (List ℕ)) (reader' : Reader) (left' : Option (List ℕ)) (outcome : Outcome) → EndsScript served.rest mid now mid_d d' reader' outcome → Moves limit 0 reader reader' left left'
    → Serves limit before now d script left' (Ok (refused || is_refused outcome))
ended_here limit d script before mid_d refused mid reader left served d' now reader' left' outcome e moves =
    let met = met_then reader.ended reader'.ended left left' served.met moves.same moves.ended e.met in
    let counts = counts_then script reader.bytes_read reader'.bytes_read 0 left left' served.counts moves.bytes_read in
    let refused_is = rw e.none at served.refused_is in
    let sent = rw e.none at (left_sent d (lines_of script) before mid_d mid (lines_of served.rest) served.so_far) in
    (short_script limit script reader'.bytes_read left' counts met moves.most, rw e.outcome_is refused_is, HasSent-all before now _ (HasSent-same before mid now _ _ sent e.written))

-- the lines within the limit are those of a front, and those of what follows it
lines_within : (limit : ℕ) (script done rest : List ℕ) → script ≡ done ++ rest → IsWhole done → length done ≤ limit → lines_of (whole_lines (take limit script)) ≡ lines_of done ++ lines_of (whole_lines (take (limit - length done) rest))
lines_within limit script done rest parts whole few =
    let more = take (limit - length done) rest in
    let front : take limit script ≡ done ++ more =
    (let n : limit ≡ length done + (limit - length done) = omega (arith, few) in
    ap (take limit) parts ∙ ap (λ k. take k (done ++ rest)) n ∙ take-append-add done rest (limit - length done)) in
    ap (λ t. lines_of (whole_lines t)) front ∙ ap lines_of (whole.kept more) ∙ whole.lines (whole_lines more)

-- what is served ends with `quit` within the limit
quits_within : (limit : ℕ) (script done rest : List ℕ) → script ≡ done ++ rest → IsWhole done → length done ≤ limit → list_any (λ line. ends_script (line_of line)) (lines_of done) ≡ true → is_long_script limit script ≡ false
quits_within limit script done rest parts whole few quits_is =
    let has : has_quit (take limit script) ≡ true =
    ap (list_any (λ l. ends_script (line_of l))) (lines_within limit script done rest parts whole few)
    ∙ list_any-append (λ l. ends_script (line_of l)) (lines_of done) (lines_of (whole_lines (take (limit - length done) rest))) ∙ rw quits_is refl in
    by (nat_lt limit (length script)) (has_quit (take limit script)) has
  where
    by : (a b : Bool) → b ≡ true → (a && not b) ≡ false
    by true b is = ap not is
    by false b is = refl

only_end : (outcome : Outcome) → is_end outcome ≡ true → is_refused outcome ≡ false
only_end Skipped is = refl
only_end Accepted is = refl
only_end (Refused r) is = absurd (cc is)
only_end Ended is = refl

refuses-last : (d : Session) (lines : List (List ℕ)) (line : List ℕ) (rest : List (List ℕ)) (outcome : Outcome) → lines ≡ line ∷ rest → (line_step d line).outcome ≡ outcome → is_end outcome ≡ true → refuses d lines ≡ (is_refused outcome || false)
refuses-last d lines line rest outcome cut becomes ends = rw (cut, becomes, ends) refl

lengths : (limit taken : ℕ) (done rest hand script : List ℕ) (left : Option (List ℕ)) (reader : Reader) → reader.ended ≡ false → reader.hand ≡ hand → script ≡ done ++ rest → to_come reader left ≡ Some rest → Counts 0 taken 0 (Some script) left → taken ≤ limit → length done ≤ limit
lengths limit taken done rest hand script None reader on hand_is parts later counts most = absurd counts
lengths limit taken done rest hand script (Some xs) reader on hand_is parts later counts most =
    let e : Some (reader.hand ++ xs) ≡ Some rest = rw on at later in
    let is : reader.hand ++ xs ≡ rest = cc in
    omega (arith, ap length parts, length-append done rest, ap length is, length-append reader.hand xs, counts, most)

-- `quit`, as the last line that was answered
quit_here : (limit : ℕ) (d : Session) (script : List ℕ) (before : Option (List ℕ)) (mid_d : Session) (refused : Bool) (mid : Option (List ℕ)) (reader : Reader) (left : Option (List ℕ)) (served : IsServed limit d script before mid_d refused mid reader left)
    → (d' : Session) (now : Option (List ℕ)) (reader' : Reader) (left' : Option (List ℕ)) (outcome : Outcome) → AnswersLine served.rest mid now mid_d d' reader' left' outcome → Moves limit 0 reader reader' left left' → is_end outcome ≡ true
    → Serves limit before now d script left' (Ok (refused || is_refused outcome))
quit_here limit d script before mid_d refused mid reader left served d' now reader' left' outcome a moves ends =
    let line = leading_line served.rest in
    let cut = first_of_lines served.rest a.taken.some in
    let counts = counts_then script reader.bytes_read reader'.bytes_read 0 left left' served.counts moves.bytes_read in (
      by reader'.ended refl,
      refused_is refused (is_refused outcome) _ _ (only_end outcome ends) (refuses-last mid_d (lines_of served.rest) line _ outcome cut a.answered.outcome_is ends) served.refused_is,
      HasSent-all before now _ (HasSent-more before mid now _ _ (reply_of (line_step mid_d line)) _ (left_sent d (lines_of script) before mid_d mid (lines_of served.rest) served.so_far) a.answered.written (replies-last mid_d d' (lines_of served.rest) line _ outcome cut a.answered.session a.answered.outcome_is ends)),
    )
  where
    refused_is : (so_far one later all : Bool) → one ≡ false → later ≡ (one || false) → (so_far || later) ≡ all → (so_far || one) ≡ all
    refused_is so_far true later all goes is sum = absurd (cc goes)
    refused_is so_far false later all goes is sum = ap (λ t. so_far || t) (sym is) ∙ sum

    by : (on : Bool) → reader'.ended ≡ on → is_long_script limit script ≡ false
    by true is = short_script limit script reader'.bytes_read left' (counts_then script reader.bytes_read reader'.bytes_read 0 left left' served.counts moves.bytes_read) (met_then reader.ended reader'.ended left left' served.met moves.same moves.ended is) moves.most
    by false is =
        let at = served.at_line (was_going reader.ended reader'.ended moves.stays is) in
        let line = leading_line served.rest in
        let one = leading_one served.rest in
        let done = at.done ++ (line ++ 10 ∷ []) in
        let parts : script ≡ done ++ after_line served.rest = at.parts ∙ ap (λ t. at.done ++ t) (cut_at_end served.rest (a.taken.last is) ∙ sym (append_assoc line (10 ∷ []) (after_line served.rest))) ∙ sym (append_assoc at.done (line ++ 10 ∷ []) (after_line served.rest)) in
        let last : list_any (λ l. ends_script (line_of l)) (lines_of done) ≡ true =
        ap (list_any (λ l. ends_script (line_of l))) (lines_more at.done line at.whole one) ∙ list_any-append (λ l. ends_script (line_of l)) (lines_of at.done) (line ∷ []) ∙ rw (at.answered.no_quit, ← quit_ends mid_d line, a.answered.outcome_is, ends) refl in
        quits_within limit script done (after_line served.rest) parts (whole_more at.done line at.whole one)
        (lengths limit reader'.bytes_read done (after_line served.rest) reader'.hand script left' reader' is refl parts a.taken.later (counts_then script reader.bytes_read reader'.bytes_read 0 left left' served.counts moves.bytes_read) moves.most)
        last

module _ (limit : ℕ) (d : Session) (script : List ℕ) (before : Option (List ℕ)) (mid_d : Session) (refused : Bool) (mid : Option (List ℕ)) (reader : Reader) (left : Option (List ℕ)) (served : IsServed limit d script before mid_d refused mid reader left) where
  -- a script that is ended, by its end or by `quit`
  pub served_end : (d' : Session) (now : Option (List ℕ)) (reader' : Reader) (left' : Option (List ℕ)) (outcome : Outcome)
      → ServesNext served.rest mid now mid_d d' reader' left' (Ok outcome) → Moves limit 0 reader reader' left left' → is_end outcome ≡ true → Serves limit before now d script left' (Ok (refused || is_refused outcome))
  served_end d' now reader' left' outcome next moves ends = elim next [
    | inl e ↦ ended_here limit d script before mid_d refused mid reader left served d' now reader' left' outcome e moves
    | inr a ↦ quit_here limit d script before mid_d refused mid reader left served d' now reader' left' outcome a moves ends
  ]

  -- the whole lines so far are within the limit
  few_done : (at : AtLine d script before mid_d mid served.rest) → reader.ended ≡ false → length at.done ≤ limit
  few_done at on = lengths limit reader.bytes_read at.done served.rest reader.hand script left reader on refl at.parts served.later served.counts served.most

  -- the replies so far are the first of those within the limit
  sent_within : AtLine d script before mid_d mid served.rest → reader.ended ≡ false → WritesFirst before mid (replies_within limit d script)
  sent_within at on = by (is_long_script limit script) refl
    where
      by : (long : Bool) → is_long_script limit script ≡ long → WritesFirst before mid (replies_within limit d script)
      by false is = rw is (HasSent-first before mid _ _ (left_sent d (lines_of script) before mid_d mid (lines_of served.rest) served.so_far))
      by true is =
          let later = lines_of (whole_lines (take (limit - length at.done) served.rest)) in
          let all : replies_to d (lines_of (whole_lines (take limit script))) ≡ replies_to d (lines_of at.done) ++ replies_to mid_d later =
          ap (replies_to d) (lines_within limit script at.done served.rest at.parts at.whole (few_done at on)) ∙ follows d (lines_of at.done) before mid_d mid at.answered later in
          rw is (HasSent-first before mid _ (replies_to mid_d later) (record { sent = replies_to d (lines_of at.done); parts = all; written = at.answered.written }))

  -- a line that was taken is one of those within the limit
  next_within : (reader' : Reader) (left' : Option (List ℕ)) → TakesLine served.rest reader' left' → Moves limit 0 reader reader' left left' → (later : List (List ℕ)) × HasLeft d (lines_of (answered_part limit script)) before mid_d mid (leading_line served.rest ∷ later)
  next_within reader' left' takes moves = by (is_long_script limit script) refl
    where
      counts : Counts 0 reader'.bytes_read 0 (Some script) left'
      counts = counts_then script reader.bytes_read reader'.bytes_read 0 left left' served.counts moves.bytes_read

      going : is_long_script limit script ≡ true → (ended : Bool) → reader'.ended ≡ ended → reader'.ended ≡ false
      going long true is = absurd (cc (sym long ∙ short_script limit script reader'.bytes_read left' counts (met_then reader.ended reader'.ended left left' served.met moves.same moves.ended is) moves.most))
      going long false is = is

      by : (long : Bool) → is_long_script limit script ≡ long → (later : List (List ℕ)) × HasLeft d (lines_of (answered_part limit script)) before mid_d mid (leading_line served.rest ∷ later)
      by false is =
          let now_left : List (List ℕ) → Type 0 = λ left. HasLeft d (lines_of script) before mid_d mid left in
          (lines_of (after_line served.rest), rw is (subst now_left (first_of_lines served.rest takes.some) served.so_far))
      by true is =
          let on = going is reader'.ended refl in
          let at = served.at_line (was_going reader.ended reader'.ended moves.stays on) in
          let line = leading_line served.rest in
          let done = at.done ++ (line ++ 10 ∷ []) in
          let parts : script ≡ done ++ after_line served.rest = at.parts ∙ ap (λ t. at.done ++ t) (cut_at_end served.rest (takes.last on) ∙ sym (append_assoc line (10 ∷ []) (after_line served.rest))) ∙ sym (append_assoc at.done (line ++ 10 ∷ []) (after_line served.rest)) in
          let few : length done ≤ limit = lengths limit reader'.bytes_read done (after_line served.rest) reader'.hand script left' reader' on refl parts takes.later counts moves.most in
          let later = lines_of (whole_lines (take (limit - length done) (after_line served.rest))) in
          let lines_are : lines_of (whole_lines (take limit script)) ≡ lines_of at.done ++ (line ∷ later) =
          lines_within limit script done (after_line served.rest) parts (whole_more at.done line at.whole (leading_one served.rest)) few
          ∙ ap (λ t. t ++ later) (lines_more at.done line at.whole (leading_one served.rest)) ∙ append_assoc (lines_of at.done) (line ∷ []) later in
          (later, rw is (record { done = lines_of at.done; parts = lines_are; answered = at.answered }))

  -- what was answered of a script of which a read fails
  failed_here : (now : Option (List ℕ)) (left' : Option (List ℕ)) → now ≡ mid → AtLine d script before mid_d mid served.rest → reader.ended ≡ false → StopsIn served.rest [] left' → Serves limit before now d script left' (Err Files)
  failed_here now left' same at on stops =
      let taken : taken_of script left' ≡ at.done ++ stops.part =
      ap (taken_of script) stops.left_is ∙ ap (λ t. taken_of t (Some stops.rest)) (at.parts ∙ ap (λ t. at.done ++ t) stops.parts ∙ sym (append_assoc at.done stops.part stops.rest)) ∙ taken_front (at.done ++ stops.part) stops.rest in
      let whole : whole_lines (taken_of script left') ≡ at.done = ap whole_lines taken ∙ whole_is at.done stops.part at.whole stops.no_end in
      (rw same (sent_within at on), rw (whole, same) at.answered.written, ap (λ t. list_any (λ l. ends_script (line_of l)) (lines_of t)) whole ∙ at.answered.no_quit)

  -- what was answered of a script that goes on beyond the limit
  too_long_here : (now : Option (List ℕ)) (reader' : Reader) (left' : Option (List ℕ)) (b : ℕ) → now ≡ mid → AtLine d script before mid_d mid served.rest → StopsIn served.rest (b ∷ []) left' → Moves limit 1 reader reader' left left' → limit ≤ reader'.bytes_read
      → Serves limit before now d script left' (Err TooLong)
  too_long_here now reader' left' b same at stops moves least =
      let parts : script ≡ (at.done ++ stops.part) ++ (b ∷ stops.rest) = at.parts ∙ ap (λ t. at.done ++ t) stops.parts ∙ sym (append_assoc at.done stops.part (b ∷ stops.rest)) in
      let counts : Counts 0 reader'.bytes_read 1 (Some script) (Some stops.rest) = subst (λ (t : Option (List ℕ)). Counts 0 reader'.bytes_read 1 (Some script) t) stops.left_is (counts_then script reader.bytes_read reader'.bytes_read 1 left left' served.counts moves.bytes_read) in
      let count : length (at.done ++ stops.part) ≡ limit = omega (arith, ap length parts, length-append (at.done ++ stops.part) (b ∷ stops.rest), counts, moves.most, least) in
      let front : take limit script ≡ at.done ++ stops.part = ap (take limit) parts ∙ limit_front limit (at.done ++ stops.part) (b ∷ stops.rest) count in
      let whole : whole_lines (take limit script) ≡ at.done = ap whole_lines front ∙ whole_is at.done stops.part at.whole stops.no_end in
      let no_quit : has_quit (take limit script) ≡ false = ap (λ t. list_any (λ l. ends_script (line_of l)) (lines_of t)) whole ∙ at.answered.no_quit in
      let long : nat_lt limit (length script) ≡ true = (let more : limit < length script = omega (arith, counts, moves.most, least) in grind (arith, nat_tests, more)) in
      let is : is_long_script limit script ≡ true = rw (long, no_quit) refl in
      (is, rw (is, whole, same) at.answered.written)

  -- a script that is not served to its end
  pub served_err : (d' : Session) (now : Option (List ℕ)) (reader' : Reader) (left' : Option (List ℕ)) (e : End)
      → ServesNext served.rest mid now mid_d d' reader' left' (Err e) → Moves limit (past_limit {T = Outcome} (Err e)) reader reader' left left' → ((e ≡ Files) ⊎ (e ≡ TooLong) → reader.ended ≡ false) → (e ≡ TooLong → limit ≤ reader'.bytes_read)
      → Serves limit before now d script left' (Err e)
  served_err d' now reader' left' Files next moves on long = failed_here now left' next.0 (served.at_line (on (inl refl))) (on (inl refl)) next.1
  served_err d' now reader' left' Sink next moves on long =
      let line = leading_line served.rest in
      let within = next_within reader' left' next.0 moves in
      let n = reply_is_next mid_d (line ∷ within.0) line within.0 refl in
      HasSent-front before mid now _ _ (reply_of (line_step mid_d line)) n.0 (left_sent d (lines_of (answered_part limit script)) before mid_d mid (line ∷ within.0) within.1) next.1 n.1
  served_err d' now reader' left' Memory next moves on long =
      let line = leading_line served.rest in
      let within = next_within reader' left' next.0 moves in
      left_wants d (lines_of (answered_part limit script)) before mid_d mid now (line ∷ within.0) line within.0 within.1 refl next.1 next.2
  served_err d' now reader' left' TooLong next moves on long = too_long_here now reader' left' next.1.0 next.0 (served.at_line (on (inr refl))) next.1.1 moves (long refl)

-- ---- the answer to the next line

-- a line that is too long is bad, whatever it holds
pub long_step : (d : Session) (line : List ℕ) → most_line < length line → line_step d line ≡ record { session = d; outcome = Refused BadLine; lines = [] }
unfolding line_step
long_step d line long =
    let is : nat_lt most_line (length line) ≡ true = grind (arith, nat_tests, long) in
    rw is refl

-- what the answer to a line leaves, whatever becomes of it
pub next_answered : (text : List ℕ) (before now : Option (List ℕ)) (d d' : Session) (reader : Reader) (left : Option (List ℕ)) (r : Result Outcome End)
    → 0 < length text → to_come reader left ≡ Some (after_line text) → (reader.ended ≡ false → has_line_end text ≡ true)
    → OnOk r ((line_step d (leading_line text)).session ≡ d') → IfOk r (λ outcome. (line_step d (leading_line text)).outcome ≡ outcome) → OnOk r (Writes before now (reply_of (line_step d (leading_line text))))
    → (r ≡ Err Memory → now ≡ before) → (r ≡ Err Memory → IsMemoryCause d (leading_line text)) → (r ≡ Err Sink → WritesFront before now (reply_of (line_step d (leading_line text))))
    → r ≢ Err Files → r ≢ Err TooLong → ServesNext text before now d d' reader left r
next_answered text before now d d' reader left (Ok outcome) some later cut session outcome_is written memory wants front no_files no_limit =
    inr (record { taken = record { some = some; later = later; last = cut }; answered = record { session = session; outcome_is = outcome_is; written = written } })
next_answered text before now d d' reader left (Err Files) some later cut session outcome_is written memory wants front no_files no_limit = absurd (no_files refl)
next_answered text before now d d' reader left (Err Sink) some later cut session outcome_is written memory wants front no_files no_limit = (record { some = some; later = later; last = cut }, front refl)
next_answered text before now d d' reader left (Err Memory) some later cut session outcome_is written memory wants front no_files no_limit = (record { some = some; later = later; last = cut }, memory refl, wants refl)
next_answered text before now d d' reader left (Err TooLong) some later cut session outcome_is written memory wants front no_files no_limit = absurd (no_limit refl)

-- the answer to a line that is too long
refused_line : (d : Session) (line : List ℕ) (before now : Option (List ℕ)) (outcome : Outcome) → most_line < length line → outcome ≡ Refused BadLine → Writes before now (refusal_line BadLine) → Answers line before now d d outcome
refused_line d line before now outcome long outcome_is written =
    let step = long_step d line long in
    record { session = ap (λ s. s.session) step; outcome_is = ap (λ s. s.outcome) step ∙ sym outcome_is; written = rw step written }

-- what the answer to a line that is too long leaves, whatever becomes of it
pub next_refused : (text : List ℕ) (before now : Option (List ℕ)) (d : Session) (reader : Reader) (left : Option (List ℕ)) (r : Result Outcome End)
    → most_line < length (leading_line text) → 0 < length text → to_come reader left ≡ Some (after_line text) → (reader.ended ≡ false → has_line_end text ≡ true)
    → IfOk r (λ outcome. outcome ≡ Refused BadLine) → OnOk r (Writes before now (refusal_line BadLine)) → WritesFront before now (refusal_line BadLine) → IfErr r (λ e. e ≡ Sink) → ServesNext text before now d d reader left r
next_refused text before now d reader left (Ok outcome) long some later cut outcome_is written front only =
    inr (record { taken = record { some = some; later = later; last = cut }; answered = refused_line d (leading_line text) before now outcome long outcome_is written })
next_refused text before now d reader left (Err Files) long some later cut outcome_is written front only = absurd (cc only)
next_refused text before now d reader left (Err Sink) long some later cut outcome_is written front only = (record { some = some; later = later; last = cut }, rw (long_step d (leading_line text) long) front)
next_refused text before now d reader left (Err Memory) long some later cut outcome_is written front only = absurd (cc only)
next_refused text before now d reader left (Err TooLong) long some later cut outcome_is written front only = absurd (cc only)

-- what the answer to a line leaves, whatever the line is
pub some_answered : (line : List ℕ) (before now : Option (List ℕ)) (d d' : Session) (r : Result Outcome End)
    → OnOk r ((line_step d line).session ≡ d') → IfOk r (λ outcome. (line_step d line).outcome ≡ outcome) → OnOk r (Writes before now (reply_of (line_step d line)))
    → (r ≡ Err Memory → now ≡ before) → r ≢ Err Files → r ≢ Err TooLong → ServesSome before now d d' r
some_answered line before now d d' (Ok outcome) session outcome_is written memory no_files no_limit = inr (line, record { session = session; outcome_is = outcome_is; written = written })
some_answered line before now d d' (Err Files) session outcome_is written memory no_files no_limit = absurd (no_files refl)
some_answered line before now d d' (Err Sink) session outcome_is written memory no_files no_limit = λ ne. absurd (ne refl)
some_answered line before now d d' (Err Memory) session outcome_is written memory no_files no_limit = λ ne. memory refl
some_answered line before now d d' (Err TooLong) session outcome_is written memory no_files no_limit = absurd (no_limit refl)

-- whatever the answer is, what is written only grew
pub grown_by_answer : (before now : Option (List ℕ)) (reply : List ℕ) (r : Result Outcome End) → OnOk r (Writes before now reply) → (r ≡ Err Memory → now ≡ before) → (r ≡ Err Sink → WritesFront before now reply) → r ≢ Err Files → r ≢ Err TooLong
    → Grows before now
grown_by_answer before now reply (Ok outcome) written memory front no_files no_limit = (reply, written)
grown_by_answer before now reply (Err Files) written memory front no_files no_limit = absurd (no_files refl)
grown_by_answer before now reply (Err Sink) written memory front no_files no_limit = grows_by_front before now reply (front refl)
grown_by_answer before now reply (Err Memory) written memory front no_files no_limit = grows_by_none before now (memory refl)
grown_by_answer before now reply (Err TooLong) written memory front no_files no_limit = absurd (no_limit refl)

-- there is a line of each length
line_of_length : (n : ℕ) → (line : List ℕ) × (length line ≡ n)
line_of_length n = (replicate n 0, length-replicate n 0)

-- the same of the answer to a line that is too long
pub some_refused : (before now : Option (List ℕ)) (d : Session) (r : Result Outcome End) → IfOk r (λ outcome. outcome ≡ Refused BadLine) → OnOk r (Writes before now (refusal_line BadLine)) → IfErr r (λ e. e ≡ Sink) → ServesSome before now d d r
some_refused before now d (Ok outcome) outcome_is written only =
    let long = line_of_length 65537 in
    inr (long.0, refused_line d long.0 before now outcome (omega (arith, long.1)) outcome_is written)
some_refused before now d (Err e) outcome_is written only = λ ne. absurd (ne only)

-- what only grew, twice
pub grows_then : (a b c : Option (List ℕ)) → Grows a b → Grows b c → Grows a c
grows_then a b c first second = (first.0 ++ second.0, Writes-append a b c first.0 second.0 first.1 second.1)

-- a text with a long line isn't empty
pub some_of : (text : List ℕ) → most_line < length (leading_line text) → 0 < length text
some_of [] long = absurd (omega (arith, long))
some_of (b ∷ bs) long = omega arith

-- ---- lines that were answered, whatever they are

-- the lines answered so far
pub record SomeAnswered (before now : Option (List ℕ)) (d d' : Session) : Type 0 where
  pub lines : List (List ℕ)
  pub had : HasAnswered d lines before d' now

pub some_none : (before : Option (List ℕ)) (d : Session) → SomeAnswered before before d d
some_none before d = record { lines = []; had = answered_none d before }

pub some_more : (before mid now : Option (List ℕ)) (d mid_d d' : Session) (outcome : Outcome) → SomeAnswered before mid d mid_d → ServesSome mid now mid_d d' (Ok outcome) → is_end outcome ≡ false → SomeAnswered before now d d'
some_more before mid now d mid_d d' outcome so_far serves goes = elim serves [
  | inl e ↦ absurd (cc (sym e.1 ∙ goes))
  | inr a ↦ record { lines = so_far.lines ++ a.0 ∷ []; had = answered_more d so_far.lines before mid_d mid so_far.had a.0 now d' outcome a.1 goes }
]

pub some_end : (before mid now : Option (List ℕ)) (d mid_d d' : Session) (outcome : Outcome) → SomeAnswered before mid d mid_d → ServesSome mid now mid_d d' (Ok outcome) → is_end outcome ≡ true → WritesReplies before now d
some_end before mid now d mid_d d' outcome so_far serves ends = elim serves [
  | inl e ↦ (so_far.lines, rw e.0 so_far.had.written)
  | inr a ↦ (so_far.lines ++ a.0 ∷ [], answered_last d so_far.lines before mid_d mid so_far.had a.0 now d' outcome a.1 ends)
]

pub some_err : (before mid now : Option (List ℕ)) (d mid_d d' : Session) (e : End) → SomeAnswered before mid d mid_d → ServesSome mid now mid_d d' (Err e) → e ≢ Sink → WritesReplies before now d
some_err before mid now d mid_d d' e so_far serves ne = (so_far.lines, rw (serves ne) so_far.had.written)
