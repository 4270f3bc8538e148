use Rattle.std.proofs.Common.{arith, refl}
use Rattle.tt_least.proofs.NarrowLemmas.{places-narrowed, IsUseless, narrowed-trans, narrowed-out}
use Rattle.tt_least.proofs.narrow.drop_orphans.Goals as goal
use Rattle.tt_least.proofs.narrow.drop_orphans.Goals.{then-is_orphan, else-is_orphan}

pub is_orphan-requires-clause-places : goal.is_orphan-requires-clause-places
is_orphan-requires-clause-places c = places-narrowed c.args.table.now 0 c.args.table.now.size c.args.level.now c.loop-class.level (c.loop-class.invariant 0) c.requires.places

pub index_mut-requires : goal.index_mut-requires
index_mut-requires c =
    let places = places-narrowed c.args.table.now 0 c.args.table.now.size c.args.level.now c.loop-class.level (c.loop-class.invariant 0) c.requires.places in
    omega (arith, places.left, c.requires.table.sized.few)

pub loop-class-preserved : goal.loop-class-preserved
loop-class-preserved c = λ limit.
    let t = c.args.table.now in
    elim c.if-is_orphan.branch [
      | then-is_orphan w ↦
          let useless : IsUseless t c.loop-class.level limit c.loop-class.class = record { each = λ choice h allowed listed. let free = c.is_orphan.ensures w.if-is_orphan.true choice h allowed in absurd (cc (free, listed)) } in
          rw w.level-is (narrowed-trans t limit c.args.level.now c.loop-class.level _ (c.loop-class.invariant limit)
          (narrowed-out t limit c.loop-class.class c.loop-class.level _ c.requires.table (omega arith, omega arith) useless refl refl))
      | else-is_orphan w ↦ rw w.level-is (c.loop-class.invariant limit)
    ]
