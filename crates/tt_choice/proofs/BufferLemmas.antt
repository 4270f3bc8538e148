-- Buffers that are written over keep their room.
use Rattle.std.proofs.Common.{◌≡◌, ℕ, ◌≤◌, List, Option, Some, None, length, arith, sym, ◌∙◌}
use Rattle.std.specs.Prelude.{Vec, IfSome}
use Rattle.std.specs.Vec.{with_items}
use Rattle.tt_choice.specs.declared.buffers.ChoiceBuffers.{ChoiceBuffers}
use Rattle.tt_choice.specs.declared.course.Found.{Found}
use Rattle.tt_choice.specs.Least.{Situation}
use Rattle.tt_choice.specs.Ready.{HasRoomFor}
use Rattle.tt_choice.specs.Found.{IsFoundIn}

-- a buffer that is written over keeps its length
pub length-with_items : {X Z : Type 0} (v : Vec X Z) (ws : List X) → length (with_items v ws).items ≡ length v.items
length-with_items v ws = sym (with_items v ws).ok.0 ∙ v.ok.0

module _ (count : ℕ) (b : ChoiceBuffers) (ws : List ℕ) (room : HasRoomFor count b) where
  -- the buffer of what is sure is written over
  pub room-ahead : HasRoomFor count (record b { ahead = with_items b.ahead ws })
  room-ahead = record {
    ahead = omega (arith, length-with_items b.ahead ws, room.ahead);
    front = room.front;
    best = room.best;
    before = room.before;
    search = room.search;
  }

  -- the buffer of the best is written over
  pub room-best : HasRoomFor count (record b { best = with_items b.best ws })
  room-best = record {
    ahead = room.ahead;
    front = room.front;
    best = omega (arith, length-with_items b.best ws, room.best);
    before = omega (arith, length-with_items b.best ws, room.before);
    search = room.search;
  }

  -- the buffer of the best before is written over
  pub room-before : HasRoomFor count (record b { before = with_items b.before ws })
  room-before = record {
    ahead = room.ahead;
    front = room.front;
    best = room.best;
    before = omega (arith, length-with_items b.before ws, room.before);
    search = room.search;
  }

-- what is found is within a buffer that is as long
pub within-longer : (s : Situation) (best other : List ℕ) (found : Option Found) → length best ≤ length other → IfSome found (IsFoundIn s best) → IfSome found (λ choice. choice.count ≤ length other)
within-longer s best other None long h = tt
within-longer s best other (Some f) long h = omega (arith, h.within)
