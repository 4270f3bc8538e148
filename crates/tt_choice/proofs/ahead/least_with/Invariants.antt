use Rattle.std.proofs.Common.{◌≡◌, ℕ, ◌<◌, ◌≤◌, true, length, count_by}
use Rattle.tt_choice.specs.Standings.{situation_in}
use Rattle.tt_choice.proofs.ahead.least_with.Given as goal

abbrev pub invariant-loop-class : goal.invariant-loop-class
invariant-loop-class l =
    let s = situation_in l.standing in
    record {
      each : (c : ℕ) → l.fn.span.first ≤ c → c < l.class → s.has_seat c ≡ true → l.least ≤ count_by (λ d. s.conflicts d c) l.front;
      few : l.least ≤ length l.front;
    }
