-- The number and the detail of each refusal.
use Rattle.std.specs.Prelude.{ℕ}
use Rattle.admission.specs.declared.refusal.Refusal.{Refusal}
use Rattle.admission.specs.declared.refusal.Refusal.TheVariants.{BatchOpen, TaskCount, UnknownRule, PeriodOrDeadline, SegmentRange, KindOrSize, AccessObject, LongHyperperiod, Overload, Unschedulable, AlreadyOpen, NoBatch, NoPlace, TooSoon, Unfinished, ClockEnd, VoidToken, TimeRange, NoObject}

abbrev pub numbered : Refusal → ℕ × ℕ
numbered BatchOpen = (11, 0)
numbered TaskCount = (12, 0)
numbered UnknownRule = (13, 0)
numbered (PeriodOrDeadline place) = (14, place)
numbered (SegmentRange place) = (15, place)
numbered (KindOrSize place) = (16, place)
numbered (AccessObject place) = (17, place)
numbered LongHyperperiod = (18, 0)
numbered Overload = (19, 0)
numbered (Unschedulable at) = (20, at)
numbered AlreadyOpen = (21, 0)
numbered NoBatch = (31, 0)
numbered NoPlace = (32, 0)
numbered TooSoon = (33, 0)
numbered Unfinished = (34, 0)
numbered ClockEnd = (35, 0)
numbered VoidToken = (36, 0)
numbered TimeRange = (37, 0)
numbered NoObject = (38, 0)
