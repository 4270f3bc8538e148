use Rattle.std.proofs.Common.{◌≡◌, drop}
use Rattle.std.specs.Prelude.{◌&&◌, not}
use Rattle.std.specs.List.{find}
use Rattle.tt_improve.specs.Classes.{is_free}
use Rattle.tt_deluge.specs.ClassRounds.{has_value, next_free, values_from}
use Rattle.tt_deluge.proofs.classes.next_free.Given as goal

abbrev pub invariant-loop-k : goal.invariant-loop-k
invariant-loop-k l =
    let p = l.fn.state.problem in
    let s = l.fn.state.present in
    record {
      problem : l.state.problem ≡ p;
      present : l.state.present ≡ s;
      entries : l.state.entries ≡ l.fn.state.entries;
      walk : find (λ v. is_free p s l.class v && not (has_value s l.class v)) (drop l.k (values_from p l.class l.place)) ≡ next_free p s l.class l.place;
    }
