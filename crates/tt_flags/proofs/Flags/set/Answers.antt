use Rattle.std.proofs.Common.{◌<◌, false, length, ◌/◌, arith}
use Rattle.tt_flags.proofs.CountLemmas.{set_flag, less_in_block, less_in_all, few_in_block, few_in_all, told_small, own_block, at_any}
use Rattle.tt_flags.proofs.Flags.set.Goals as goal

pub overflow_sub-index : goal.overflow_sub-index
overflow_sub-index c =
    let i = c.self.inside in
    let within : c.args.number < length i.flags.items = rw (← c.self.view_is) at c.requires.number in
    let at = at_any i.counts.items (c.args.number / 128) 0 _ (own_block _ _ _ _ c.self.invariant within) c.index-2.ensures in
    let is = at_any i.flags.items c.args.number false _ within c.index.ensures in
    less_in_block i.flags.items i.counts.items i.count c.args.number _ _ _ c.self.invariant within at is c.from-less.ensures

pub overflow_add-index : goal.overflow_add-index
overflow_add-index c =
    let i = c.self.inside in
    let within : c.args.number < length i.flags.items = rw (← c.self.view_is) at c.requires.number in
    let at = at_any i.counts.items (c.args.number / 128) 0 _ (own_block _ _ _ _ c.self.invariant within) c.index-2.ensures in
    omega (arith, few_in_block i.flags.items i.counts.items i.count c.args.number _ c.self.invariant within at, told_small _ _ c.from-more.ensures)

pub overflow_sub-self : goal.overflow_sub-self
overflow_sub-self c =
    let i = c.self.inside in
    let within : c.args.number < length i.flags.items = rw (← c.self.view_is) at c.requires.number in
    let is = at_any i.flags.items c.args.number false _ within c.index.ensures in
    less_in_all i.flags.items i.counts.items i.count c.args.number _ _ c.self.invariant within is c.from-less.ensures

pub invariant_of-self : goal.invariant_of-self
invariant_of-self c =
    let i = c.self.inside in
    let within : c.args.number < length i.flags.items = rw (← c.self.view_is) at c.requires.number in
    let at = at_any i.counts.items (c.args.number / 128) 0 _ (own_block _ _ _ _ c.self.invariant within) c.index-2.ensures in
    let is = at_any i.flags.items c.args.number false _ within c.index.ensures in
    set_flag i.flags.items i.counts.items i.count c.args.number _ _ _ _ c.args.flag c.self.invariant within at is c.from-less.ensures c.from-more.ensures

pub overflow_add-self : goal.overflow_add-self
overflow_add-self c =
    let i = c.self.inside in
    let within : c.args.number < length i.flags.items = rw (← c.self.view_is) at c.requires.number in
    let at = at_any i.counts.items (c.args.number / 128) 0 _ (own_block _ _ _ _ c.self.invariant within) c.index-2.ensures in
    let is = at_any i.flags.items c.args.number false _ within c.index.ensures in
    let after = set_flag i.flags.items i.counts.items i.count c.args.number _ _ _ _ c.args.flag c.self.invariant within at is c.from-less.ensures c.from-more.ensures in
    omega (arith, few_in_all _ _ _ after, after.few)
