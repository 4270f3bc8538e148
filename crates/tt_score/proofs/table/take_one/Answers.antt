use Rattle.std.proofs.Common.{◌≡◌, ◌∙◌, arith, sym, ap}
use Rattle.std.specs.Prelude.{slice_index_or}
use Rattle.tt_score.specs.declared.rows.JointClass.{JointClass}
use Rattle.tt_score.proofs.NearLemmas.{at_any}
use Rattle.tt_score.proofs.TableLemmas.{last-goes}
use Rattle.tt_score.proofs.table.take_one.Goals as goal

pub returns-clause-one : goal.returns-clause-one
returns-clause-one c = λ _.
    let row = c.args.pairs.now.items in
    let out = c.swap_remove.result in
    let here : slice_index_or row c.in-Some.at out ≡ out = sym c.swap_remove.ensures.value in
    let read = c.index.ensures in
    let some = c.if-number-eq0.false in
    let one = c.if-number-gt1.false in
    let within = rw c.as_slice.ensures.value at c.in-Some.ensures.within in
    let same = sym here ∙ at_any row c.in-Some.at out c.index.result.now within read in
    let first : c.index.result.now.number ≡ 1 = omega (arith, some, one) in
    let number : out.number ≡ 1 = ap (λ (pair : JointClass). pair.number) same ∙ first in
    rw c.swap_remove.ensures.items (last-goes row c.in-Some.at out c.args.class within (rw c.as_slice.ensures.value at (c.in-Some.ensures.class out)) (ap (λ (pair : JointClass). pair.number) here ∙ number))
