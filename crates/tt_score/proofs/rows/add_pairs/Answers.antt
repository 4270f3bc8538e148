use Rattle.std.proofs.Common.{◌<◌, ◌∙◌, ◌++◌, length, map, sym, ap, arith}
use Rattle.std.proofs.lemmas.List.{append-nil, take_all}
use Rattle.std.proofs.lemmas.List.Elements.{All-get_or}
use Rattle.tt_score.specs.Rows.{pair_of}
use Rattle.tt_score.proofs.RowLemmas.{pair-more, pairs-count}
use Rattle.tt_score.proofs.rows.add_pairs.Goals as goal

pub loop-other-init : goal.loop-other-init
loop-other-init c = record { pairs = sym (append-nil c.args.pairs.now.items); capacity = omega arith }

pub bounds-numbers-other : goal.bounds-numbers-other
bounds-numbers-other c = All-get_or (λ other. other < length c.args.numbers.now) c.args.touched.now c.loop-other.other-index 0 c.loop-other-test.true c.requires.within

pub unwrap-requires : goal.unwrap-requires
unwrap-requires c =
    let i = c.loop-other.other-index in
    let count = pairs-count c.args.pairs.now.items c.loop-other.pairs.items c.args.numbers.now c.args.touched.now i (omega (arith, c.loop-other-test.true)) c.loop-other.invariant.pairs in
    c.push.ensures.succeeds (omega (arith, c.loop-other.pairs.ok.0, count, c.loop-other-test.true, c.requires.room, c.loop-other.invariant.capacity))

pub loop-other-preserved : goal.loop-other-preserved
loop-other-preserved c =
    let more = rw c.unwrap.ensures at c.push.ensures.items in
    record {
      pairs = pair-more c.args.pairs.now.items c.loop-other.pairs.items c.push.new.self.items c.args.numbers.now c.args.touched.now c.loop-other.other-index c.loop-other-test.true c.loop-other.invariant.pairs more;
      capacity = omega (arith, c.loop-other.invariant.capacity, c.push.ensures.capacity);
    }

pub returns-clause-pairs : goal.returns-clause-pairs
returns-clause-pairs c = c.loop-other.invariant.pairs ∙ ap (λ l. c.args.pairs.now.items ++ map (pair_of c.args.numbers.now) l) (take_all c.loop-other.other-index c.args.touched.now c.loop-other-test.false)
