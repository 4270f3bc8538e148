-- Theorem. The number of each fault of a file, as it is printed.
use Rattle.std.specs.Prelude.{ℕ}
use Rattle.tt_fields.specs.declared.faults.Wrong.{Wrong}
use Rattle.tt_fields.specs.declared.faults.Wrong.TheVariants.{NoJson, NotOfKind, OutOfRange, IdTwice, UnknownId, NoSet, NoTime, NoType, TooFew, TooMany}

-- the number of what is wrong
abbrev pub fault_number : Wrong → ℕ
fault_number NoJson = 30
fault_number NotOfKind = 31
fault_number OutOfRange = 32
fault_number IdTwice = 33
fault_number UnknownId = 34
fault_number NoSet = 35
fault_number NoTime = 36
fault_number NoType = 37
fault_number TooFew = 38
fault_number TooMany = 39
