-- Theorem. Why a line is refused, and what is written then.
use Rattle.std.specs.Prelude.{ℕ, List, ◌++◌, codes}
use Rattle.tt_explain.specs.Why.{block_text}
use Rattle.tt_text.specs.Fields.{field}
use Rattle.tt_desk.specs.declared.refusal.Refusal.{Refusal}
use Rattle.tt_desk.specs.declared.refusal.Refusal.TheVariants.{BadLine, NoSuchClass, NoSuchStudent, NoSuchTime, RoomNotListed, NoSuchRoom, NotPlaced, Blocked, Held, NoEnrolment, NoSeat, NotSectioned, NothingToUndo, NotReady, NothingPublished, BadTime, NothingClosed, TooManyTries, TooManyClosures, Locked, NotLocked}

-- the number and the words of a refusal
abbrev pub refusal_text : Refusal → List ℕ
refusal_text BadLine = codes "10 bad line"
refusal_text NoSuchClass = codes "11 no such class"
refusal_text NoSuchStudent = codes "12 no such student"
refusal_text NoSuchTime = codes "13 no such time"
refusal_text RoomNotListed = codes "14 room not in the list"
refusal_text NoSuchRoom = codes "15 no such room"
refusal_text NotPlaced = codes "16 not placed"
refusal_text (Blocked reason) = codes "17 " ++ block_text reason
refusal_text (Held class) = field (codes "17 blocked locked ") class
refusal_text NoEnrolment = codes "18 no valid enrolment"
refusal_text (NoSeat class) = field (codes "19 no seat in class ") class
refusal_text NotSectioned = codes "20 not sectioned"
refusal_text NothingToUndo = codes "21 nothing to undo"
refusal_text (NotReady unplaced unsectioned hard) = field (codes "22 not ready ") unplaced ++ field (codes " ") unsectioned ++ field (codes " ") hard
refusal_text NothingPublished = codes "23 nothing published"
refusal_text BadTime = codes "24 bad time"
refusal_text NothingClosed = codes "25 nothing closed"
refusal_text TooManyTries = codes "26 too many tries"
refusal_text TooManyClosures = codes "27 too many closures"
refusal_text Locked = codes "28 locked"
refusal_text NotLocked = codes "29 not locked"
