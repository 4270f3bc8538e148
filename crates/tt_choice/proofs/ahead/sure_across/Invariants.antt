use Rattle.std.proofs.Common.{ℕ, ◌+◌, ◌*◌, ◌≤◌, drop}
use Rattle.tt_choice.specs.Ahead.{IsAcross}
use Rattle.tt_choice.specs.Standings.{situation_in}
use Rattle.tt_choice.proofs.ahead.sure_across.Given as goal

abbrev pub invariant-loop-span : goal.invariant-loop-span
invariant-loop-span l =
    let s = situation_in l.standing in
    record {
      across : (n : ℕ) → IsAcross s l.front (drop l.span-index l.rest) n → IsAcross s l.front l.rest (l.pairs + n);
      few : l.pairs ≤ l.span-index * 20000;
    }
