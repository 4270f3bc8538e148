use Rattle.std.proofs.Common.{◌≡◌, true, false, length, take, get_or, refl, sym, ap, ◌∙◌, arith}
use Rattle.std.proofs.lemmas.List.{get_or-take, with_items_is}
use Rattle.std.proofs.lemmas.Option.{slice_get-get_or}
use Rattle.tt_least.specs.Judged.{is_flagged}
use Rattle.tt_least.specs.Searches.{IsAlone}
use Rattle.tt_least.proofs.ChoiceLemmas.{span-at}
use Rattle.tt_least.proofs.LeastLemmas.{alone-sought, choice-left, inside-read, no-span, ready-after}
use Rattle.tt_least.proofs.SeekLemmas.{inside-in}
use Rattle.tt_least.proofs.SettleLemmas.{alone-class, alone-keeps}
use Rattle.tt_least.proofs.settle.exists_with.Goals as goal

pub has-requires-clause-class : goal.has-requires-clause-class
has-requires-clause-class c = inside-in c.args.table.now c.args.part c.args.class c.requires.table c.requires.part c.requires.class

pub returns-then-not-has-clause-none : goal.returns-then-not-has-clause-none
returns-then-not-has-clause-none c = λ e choice those class allowed.
    let t = c.args.table.now in
    let left = c.args.search.now.left.items in
    let gone : is_flagged t left c.args.class ≡ false = cc in
    let flagged : is_flagged t left (get_or choice c.args.part 0) ≡ true = choice-left t left choice c.args.part c.requires.part those in
    let no : ⊥ = cc in
    absurd no

pub leave_alone-requires-clause-from : goal.leave_alone-requires-clause-from
leave_alone-requires-clause-from c =
    (span-at c.args.table.now c.args.part no-span c.requires.table c.requires.part).0

pub leave_alone-requires-clause-within : goal.leave_alone-requires-clause-within
leave_alone-requires-clause-within c =
    let span = span-at c.args.table.now c.args.part no-span c.requires.table c.requires.part in
    let long : length c.copy_from_slice.new.self ≡ c.args.table.now.size = ap length (c.copy_from_slice.ensures.after ∙ c.as_slice-2.ensures.value) ∙ c.requires.ready.room.left in
    omega (arith, span.2, long, c.requires.table.sized.few)

pub leave_alone-requires-clause-class : goal.leave_alone-requires-clause-class
leave_alone-requires-clause-class c =
    inside-read c.args.table.now c.args.part c.args.class no-span c.requires.part c.requires.class

pub returns : goal.returns
returns c =
    let t = c.args.table.now in
    let search = c.args.search.now in
    let span = get_or t.subparts.now c.args.part no-span in
    let at = slice_get-get_or t.subparts.now c.args.part no-span c.requires.part in
    let deep = with_items_is search.levels c.exists.new.levels (c.exists.auto.levels ∙ c.as_mut_slice.ensures.len) in
    let trial = with_items_is search.trial c.leave_alone.new.left (c.leave_alone.ensures.long ∙ c.copy_from_slice.ensures.len ∙ c.as_mut_slice-trial.ensures.len) in
    let new : c.as_slice-3.result.now ≡ c.leave_alone.new.left = c.as_slice-3.ensures.value ∙ trial in
    let was : c.copy_from_slice.new.self ≡ search.left.items = c.copy_from_slice.ensures.after ∙ c.as_slice-2.ensures.value in
    let alone : IsAlone t.first span c.args.class search.left.items c.as_slice-3.result.now = rw (new, sym was) c.leave_alone.ensures in
    let front = take (length t.subparts.now) c.exists.new.scratch.best.items in
    record {
      ready = ready-after t search _ c.requires.ready c.exists.ensures.ready (rw deep c.exists.ensures.levels)
          (ap length deep ∙ c.exists.auto.levels ∙ ap length c.as_mut_slice.ensures.value) refl
          (ap length trial ∙ c.leave_alone.ensures.long ∙ c.copy_from_slice.ensures.len ∙ ap length c.as_mut_slice-trial.ensures.value);
      left = refl;
      some = λ e. alone-sought t c.args.part c.args.class c.args.limit span search.left.items c.as_slice-3.result.now c.requires.table at alone front (c.exists.ensures.some e);
      with = λ e. sym (get_or-take (length t.subparts.now) c.exists.new.scratch.best.items c.args.part 0 c.requires.part)
          ∙ alone-class t c.args.part c.args.class span search.left.items c.as_slice-3.result.now c.requires.table at alone front c.requires.part (c.exists.ensures.some e).is_left;
      none = λ e choice those class allowed. (c.exists.ensures.none e).each choice
          (alone-keeps t c.args.part c.args.class span search.left.items c.as_slice-3.result.now c.requires.table at alone choice those class) allowed;
      best = c.exists.ensures.best;
    }
