use Rattle.std.proofs.Common.{ℕ, ◌+◌, ◌<◌, ◌≤◌, length}
use Rattle.tt_choice.specs.Ahead.{IsSureOf}
use Rattle.tt_choice.specs.Standings.{situation_in}
use Rattle.tt_choice.proofs.ahead.least_pairs.Given as goal

abbrev pub invariant-loop-class : goal.invariant-loop-class
invariant-loop-class l = record {
  each : (c : ℕ) → l.fn.span.first ≤ c → c < l.class → IsSureOf (situation_in l.standing) c l.rest l.least;
  few : l.least ≤ length l.standing.already.now + length l.rest;
}
