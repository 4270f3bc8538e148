use Rattle.std.proofs.Common.{◌≡◌, ◌∙◌, ℕ, Bool, true, false, cond, Some, None, refl, sym}
use Rattle.tt_base.specs.Lists.{is_listed}
use Rattle.tt_base.proofs.ListLemmas.{listed_turned}
use Rattle.tt_choice.specs.Least.{Situation}
use Rattle.tt_choice.specs.Searched.{parent_needed}
use Rattle.tt_choice.specs.Standings.{situation_in}
use Rattle.tt_choice.proofs.standing.Standing.parent_needed.Goals as goal

needed : (s : Situation) (c p : ℕ) (taken : Bool) → s.parent_of c ≡ Some p → is_listed p s.already ≡ taken → parent_needed s c ≡ cond taken None (Some p)
needed s c p taken is there = rw (is, there) refl

-- src/standing.rt:127:5
pub returns-in-Some : goal.returns-in-Some
returns-in-Some c =
    let p = c.in-Some.parent in
    let s = situation_in c.args.self.now in
    let is : s.parent_of c.args.class ≡ Some p = sym c.parent_of.ensures ∙ c.in-Some.is in
    let there : is_listed p s.already ≡ false = sym (listed_turned p s.already) ∙ sym c.contains.ensures.value ∙ c.if-not-contains.true in
    sym (needed s c.args.class p false is there)

-- src/standing.rt:127:5
pub returns-in_default : goal.returns-in_default
returns-in_default c =
    let p = c.in-Some.parent in
    let s = situation_in c.args.self.now in
    let is : s.parent_of c.args.class ≡ Some p = sym c.parent_of.ensures ∙ c.in-Some.is in
    let there : is_listed p s.already ≡ true = sym (listed_turned p s.already) ∙ sym c.contains.ensures.value ∙ c.if-not-contains.false in
    sym (needed s c.args.class p true is there)
