-- Document 01, "Turning a job back", and document 02, E5: the number of each refusal.
use Rattle.std.specs.Prelude.{ℕ, ◌<◌}
use Rattle.std.proofs.Common.{arith}
use Rattle.entries.specs.declared.Refusal.{Refusal}
use Rattle.entries.specs.declared.Refusal.TheVariants.{
  ShortBuffer,
  LongJob,
  MissingByte,
  WrongMark,
  OutOfRange,
  ExtraByte,
  RepeatedId,
  UnknownBlock,
  ManyNodes,
  LargestStart,
}

-- 1 to 9, in the order of that list, and 10, "a range start of 4,294,967,295".
abbrev pub refusal_number : Refusal → ℕ
refusal_number ShortBuffer = 1
refusal_number LongJob = 2
refusal_number MissingByte = 3
refusal_number WrongMark = 4
refusal_number OutOfRange = 5
refusal_number ExtraByte = 6
refusal_number RepeatedId = 7
refusal_number UnknownBlock = 8
refusal_number ManyNodes = 9
refusal_number LargestStart = 10

pub number_positive : (r : Refusal) → 0 < refusal_number r
number_positive ShortBuffer = omega arith
number_positive LongJob = omega arith
number_positive MissingByte = omega arith
number_positive WrongMark = omega arith
number_positive OutOfRange = omega arith
number_positive ExtraByte = omega arith
number_positive RepeatedId = omega arith
number_positive UnknownBlock = omega arith
number_positive ManyNodes = omega arith
number_positive LargestStart = omega arith
