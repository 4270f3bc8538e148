use Rattle.std.proofs.Common.{◌∙◌, ◌<◌, None, length, refl, ap, sym, arith}
use Rattle.std.specs.Prelude.{slice_index_or}
use Rattle.std.proofs.lemmas.List.{length-set}
use Rattle.std.proofs.lemmas.List.Elements.{All-get_or}
use Rattle.tt_score.specs.declared.rows.JointClass.{JointClass}
use Rattle.tt_score.specs.Near.{is_close}
use Rattle.tt_score.proofs.NearLemmas.{at_any, close_step, one_more}
use Rattle.tt_score.proofs.near.list_close.Goals as goal

pub loop-pair-preserved : goal.loop-pair-preserved
loop-pair-preserved c =
    let before = c.loop-pair.invariant in
    let d : JointClass = record { class = 0; number = 0 } in
    let pair = slice_index_or c.args.row.now c.loop-pair.pair-index d in
    let within = All-get_or (λ (pair : JointClass). pair.class < length c.args.slots.now) c.args.row.now c.loop-pair.pair-index d c.loop-pair-test.true c.requires.within in
    let there = at_any c.args.slots.now pair.class None c.index-slots-pair.result within c.index-slots-pair.is in
    record {
      long = length-set c.loop-pair.close c.loop-pair.count pair ∙ before.long;
      few = one_more c.is_close.result c.from-count.result c.loop-pair.count c.loop-pair.pair-index c.from-count.ensures before.few;
      close = close_step c.args.slots.now c.args.row.now d c.loop-pair.pair-index c.args.time.now c.args.most c.loop-pair.close c.loop-pair.count c.from-count.result c.is_close.result pair c.loop-pair-test.true refl
          (omega (arith, before.few, before.long, c.loop-pair-test.true, c.requires.room)) (c.is_close.ensures ∙ ap (λ o. is_close c.args.time.now o c.args.most) (sym there)) c.from-count.ensures before.close;
    }
