use Rattle.std.proofs.Common.{◌≡◌, ◌∙◌, ◌⊎◌, inl, inr, ℕ, ◌+◌, ◌-◌, ◌*◌, ◌<◌, ◌≤◌, Bool, false, List, length, get_or, take, drop, length-take, length-drop, arith, rules}
use Rattle.std.proofs.lemmas.Bool.{cases_lt}
use Rattle.std.proofs.lemmas.List.{places}
use Rattle.std.proofs.lemmas.Slice.{overwrites}
use Rattle.std.proofs.lemmas.Nat.{row_fits}
use borrow.Rule.Slice.PartMut.{put_mid}
use Rattle.tt_choice.specs.Searched.{either_conflicts}
use Rattle.tt_choice.specs.Standings.{situation_in}
use Rattle.tt_choice.proofs.searched.fill_conflicts.Goals as goal

row-new : (a k : ℕ) (xs ys : List Bool) (i : ℕ) → length ys ≡ k → a + k ≤ length xs → i < k → get_or (put_mid a k xs ys) (a + i) false ≡ get_or ys i false
row-new a k xs ys i long room lt = search (rules, places)

row-before : (a k : ℕ) (xs ys : List Bool) (i : ℕ) → a ≤ length xs → i < a → get_or (put_mid a k xs ys) i false ≡ get_or xs i false
row-before a k xs ys i room lt = search (rules, places)

row-long : (a k : ℕ) (xs ys : List Bool) → a + k ≤ length xs → length ys ≡ k → length (put_mid a k xs ys) ≡ length xs
row-long a k xs ys room long = search (rules, overwrites)

-- with one row more, each row so far says what it has to
row-more : (place size count k : ℕ) (old row : List Bool) (test : ℕ → ℕ → Bool) → k ≡ count → place * size + k ≤ length old → count ≤ size → length row ≡ k
    → ((j l : ℕ) → j < place → l < count → get_or old (j * size + l) false ≡ test j l) → ((l : ℕ) → l < count → get_or row l false ≡ test place l)
    → (j l : ℕ) → j < place + 1 → l < count → get_or (put_mid (place * size) k old row) (j * size + l) false ≡ test j l
row-more place size count k old row test same room within long before here j l lt few = by_row (cases_lt j place)
  where
    by_row : (j < place) ⊎ (place ≤ j) → get_or (put_mid (place * size) k old row) (j * size + l) false ≡ test j l
    by_row (inl below) =
        let fits : j * size + size ≤ place * size = row_fits j size place size below (omega arith) in
        row-before (place * size) k old row (j * size + l) (omega arith) (omega arith) ∙ before j l below few
    by_row (inr last) =
        let e : j ≡ place = omega arith in
        rw e (row-new (place * size) k old row l long room (omega arith) ∙ here l few)

-- src/searched.rt:94:5
pub loop-place-preserved : goal.loop-place-preserved
loop-place-preserved c =
    let s = situation_in c.args.standing.now in
    let start = c.loop-place.place * c.args.size in
    let k = start + c.args.count - start in
    let old = c.loop-place.conflicts in
    let row = c.fill_row.new.row in
    let same : k ≡ c.args.count = omega arith in
    let fits : start + c.args.size ≤ c.args.size * c.args.size = row_fits c.loop-place.place c.args.size c.args.size c.args.size (omega (arith, c.loop-place-test.true, c.requires.within)) (omega arith) in
    let room : start + k ≤ length old = omega (arith, fits, same, c.requires.within, c.requires.room, c.loop-place.invariant.long) in
    let long : length row ≡ k = omega (arith, c.fill_row.ensures.long, length-take k (drop start old), length-drop start old, room) in
    let read : length (take k (drop start old)) ≡ c.args.count = omega (arith, same, length-take k (drop start old), length-drop start old, room) in
    record {
      long = row-long start k old row room long ∙ c.loop-place.invariant.long;
      each = row-more c.loop-place.place c.args.size c.args.count k old row (λ j l. either_conflicts s (c.args.first + j) (c.args.first + l)) same room c.requires.within long c.loop-place.invariant.each
          (λ l few. c.fill_row.ensures.each l (omega (arith, few, read)));
    }
