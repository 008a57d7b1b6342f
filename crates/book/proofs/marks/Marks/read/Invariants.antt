use Rattle.std.proofs.Common.{◌≡◌, true, length, take}
use Rattle.book.specs.Layout.{marks_spelled, marks_shaped}
use Rattle.book.proofs.marks.Marks.read.Given as goal

-- the marks so far are begins and ends, and stand in the array
abbrev pub invariant-loop-index : goal.invariant-loop-index
invariant-loop-index l = record { shaped : marks_shaped l.index l.spelled 0 ≡ true; long : length l.items ≡ 32; held : take l.index l.items ≡ marks_spelled l.index l.spelled 0 }
