-- How a run ends, and what one phase after another leaves.
use Rattle.std.proofs.Common.{◌≡◌, ◌≢◌, ◌≤◌, ◌<◌, ℕ, Bool, true, false, List, [], ◌++◌, None, Some, Option, Result, Ok, Err, refl, sym, ◌∙◌, ap, subst, append_assoc, arith, inl, inr, length, take, drop}
use Rattle.std.specs.Prelude.{◌⊎◌}
use Rattle.std.specs.List.{concat}
use Rattle.std.specs.Result.{result_and}
use Rattle.std.proofs.lemmas.List.{take-append-drop}
use Rattle.std.proofs.lemmas.List.Folds.{concat-append}
use Rattle.std.proofs.Math.Seq.{take-length}
use Rattle.tt_io.specs.Causes.{Writes}
use Rattle.tt_io.specs.Whole.{WritesFront}
use Rattle.tt_io.proofs.WrittenLemmas.{Writes-append, nothing_written}
use Rattle.tt_top.specs.declared.end.End.{End}
use Rattle.tt_top.specs.declared.end.End.TheVariants.{Files, Sink, Memory, TooLong}
use Rattle.tt_top.specs.declared.end.Done.{Done}
use Rattle.tt_top.specs.declared.end.Done.TheVariants.{Served, Faulty, Made, Verified, Usage}
use Rattle.tt_top.specs.declared.end.Input.{Input}
use Rattle.tt_top.specs.declared.end.Input.TheVariants.{Problem, Published}
use Rattle.tt_top.specs.Run.{Outside, HasCauses}
use Rattle.tt_top.specs.Ends.{input_status, end_status, done_status, done_by, status_of, HasEndCause, WritesFirst, WritesLess}

-- ---- statuses

-- an end is no answer of 0 to 4
pub over_four : (e : End) → end_status e ≤ 4 → ⊥
over_four Files le = omega arith
over_four Sink le = omega arith
over_four Memory le = omega arith
over_four TooLong le = omega arith

pub end_is_no_usage : (e : End) → end_status e ≢ 2
end_is_no_usage e is = over_four e (omega arith)

pub at_most_one : (refused : Bool) → done_status (Served refused) ≤ 1
at_most_one true = omega arith
at_most_one false = omega arith

pub three_or_four : (input : Input) → (3 ≤ input_status input) × (input_status input ≤ 4)
three_or_four Problem = (omega arith, omega arith)
three_or_four Published = (omega arith, omega arith)

pub at_most_four : (input : Input) → input_status input ≤ 4
at_most_four input = (three_or_four input).1

pub few_done : (done : Done) → done_status done ≤ 4
few_done (Served refused) = let le : done_status (Served refused) ≤ 1 = at_most_one refused in omega arith
few_done (Faulty input) = (three_or_four input).1
few_done Made = omega arith
few_done (Verified violations) = let le : done_status (Verified violations) ≤ 1 = at_most_one violations in omega arith
few_done Usage = omega arith

not_five : (done : Done) → (done_status done ≡ 5) ⊎ (done_status done ≡ 6) → ⊥
not_five done is = let le = few_done done in elim is [ inl five ↦ omega arith | inr six ↦ omega arith ]

is_five : (r : Result Done End) → status_of r ≡ 5 → r ≡ Err Files
is_five (Ok done) is = absurd (not_five done (inl is))
is_five (Err Files) is = refl
is_five (Err Sink) is = absurd (omega arith)
is_five (Err Memory) is = absurd (omega arith)
is_five (Err TooLong) is = absurd (omega arith)

pub is_six : (r : Result Done End) → status_of r ≡ 6 → r ≡ Err Sink
is_six (Ok done) is = absurd (not_five done (inr is))
is_six (Err Files) is = absurd (omega arith)
is_six (Err Sink) is = refl
is_six (Err Memory) is = absurd (omega arith)
is_six (Err TooLong) is = absurd (omega arith)

pub is_seven : (r : Result Done End) → status_of r ≡ 7 → r ≡ Err Memory
is_seven (Ok done) is = absurd (let few = few_done done in omega arith)
is_seven (Err Files) is = absurd (omega arith)
is_seven (Err Sink) is = absurd (omega arith)
is_seven (Err Memory) is = refl
is_seven (Err TooLong) is = absurd (omega arith)

pub most_status : (r : Result Done End) → status_of r ≤ 8
most_status (Ok done) = let few = few_done done in omega arith
most_status (Err Files) = omega arith
most_status (Err Sink) = omega arith
most_status (Err Memory) = omega arith
most_status (Err TooLong) = omega arith

-- ---- causes

same_end : {T U : Type 0} (x y : End) → ◌≡◌ {A = Result T End} (Err x) (Err y) → ◌≡◌ {A = Result U End} (Err x) (Err y)
same_end x y is = let same : x ≡ y = cc in ap Err same

pub same_cause : {T U : Type 0} (which : End) (before now : ℕ) (x : End) → HasEndCause {T = T} which before now (Err x) → HasEndCause {T = U} which before now (Err x)
same_cause which before now x cause = record {
  rose = λ is. cause.rose (same_end x which is);
  same = λ ne. cause.same (λ is. ne (same_end x which is));
}

-- a phase after one that went well
pub cause_after : {T U : Type 0} (which : End) (before mid now : ℕ) (value : T) (r : Result U End) → HasEndCause {T = T} which before mid (Ok value) → HasEndCause which mid now r → HasEndCause which before now r
cause_after which before mid now value r first second =
    let same : mid ≡ before = first.same (λ is. cc) in
    subst (λ (n : ℕ). HasEndCause which n now r) same second

-- a phase that goes well, with another value
pub done_cause : {T U : Type 0} (which : End) (before now : ℕ) (x : T) (y : U) → HasEndCause {T = T} which before now (Ok x) → HasEndCause {T = U} which before now (Ok y)
done_cause which before now x y cause = record {
  rose = λ is. absurd cc;
  same = λ _. cause.same (λ is. cc);
}

-- a script that was served, or its end, as the end of the run
pub served_cause : (which : End) (before now : ℕ) (r : Result Bool End) → HasEndCause which before now r → HasEndCause which before now (done_by r)
served_cause which before now (Ok refused) cause = done_cause which before now refused (Served refused) cause
served_cause which before now (Err e) cause = same_cause which before now e cause

-- a phase that fails, after one that went well, by another end
pub no_cause : {T U : Type 0} (which e : End) (before now : ℕ) (value : T) → HasEndCause {T = T} which before now (Ok value) → e ≢ which → HasEndCause {T = U} which before now (Err e)
no_cause which e before now value first ne = record {
  rose = λ is. absurd (ne (let same : e ≡ which = cc in same));
  same = λ _. first.same (λ is. cc);
}

-- a phase that fails by another end
pub other_end : {U : Type 0} (which e : End) (before now : ℕ) → now ≡ before → e ≢ which → HasEndCause {T = U} which before now (Err e)
other_end which e before now kept ne = record {
  rose = λ is. absurd (ne (let same : e ≡ which = cc in same));
  same = λ _. kept;
}

-- what a write that came last makes of the causes
pub cause_of_write : {T : Type 0} (which : End) (before now : ℕ) (value : T) (r : Result (Unit {0}) End) → HasEndCause which before now r → HasEndCause which before now (result_and r (Ok value))
cause_of_write which before now value (Ok x) cause = record { rose = λ is. absurd (cc is); same = λ _. cause.same (λ is. cc) }
cause_of_write which before now value (Err e) cause = same_cause which before now e cause

-- a write that doesn't end so leaves the cause as it was
pub cause_kept : {T : Type 0} (which : End) (before now : ℕ) (value : T) (r : Result (Unit {0}) End) → HasEndCause which before now (Ok value) → r ≢ Err which → HasEndCause which before now (result_and r (Ok value))
cause_kept which before now value (Ok x) first ne = first
cause_kept which before now value (Err e) first ne = no_cause which e before now value first (λ is. ne (ap Err is))

pub has_causes : (o : Outside) (r : Result Done End) → HasEndCause Files o.before.files o.now.files r → HasEndCause Sink o.before.sink o.now.sink r → HasCauses o (status_of r)
has_causes o r files sink = record {
  files = λ is. files.rose (is_five r is);
  sink = λ is. sink.rose (is_six r is);
  files_same = λ ne. files.same (λ is. ne (ap status_of is));
  sink_same = λ ne. sink.same (λ is. ne (ap status_of is));
}

-- ---- pieces

pub none_first : (before now : Option (List ℕ)) (pieces : List (List ℕ)) → now ≡ before → WritesFirst before now pieces
none_first before now pieces same = (0, nothing_written before now same)

pub whole_first : (before now : Option (List ℕ)) (pieces : List (List ℕ)) → Writes before now (concat pieces) → WritesFirst before now pieces
whole_first before now pieces all = (length pieces, rw (take-length pieces) all)

pub first_front : (before now : Option (List ℕ)) (pieces : List (List ℕ)) → WritesFirst before now pieces → WritesFront before now (concat pieces)
first_front before None pieces some = tt
first_front None (Some now) pieces some = absurd some.1
first_front (Some before) (Some now) pieces some =
    (concat (take some.0 pieces), concat (drop some.0 pieces), sym (ap concat (take-append-drop some.0 pieces)) ∙ concat-append (take some.0 pieces) (drop some.0 pieces), some.1)

-- nothing of a text that isn't empty
pub none_less : (before now : Option (List ℕ)) (text : List ℕ) → now ≡ before → 0 < length text → WritesLess before now text
none_less before now text same some = ([], text, refl, some, nothing_written before now same)

-- less of what comes after a text that was written
pub less_after : (before mid now : Option (List ℕ)) (head text : List ℕ) → Writes before mid head → WritesLess mid now text → WritesLess before now (head ++ text)
less_after before mid now head text first less =
    (head ++ less.0, less.1, ap (λ t. head ++ t) less.2 ∙ sym (append_assoc head less.0 less.1), less.3, Writes-append before mid now head less.0 first less.4)
