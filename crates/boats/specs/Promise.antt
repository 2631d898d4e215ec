-- What counting a record's boats promises: document 01's number and values.
-- `count_reply r ≡ told (count_of s)` is the promise of the open function `count_boats`.
use Rattle.std.specs.Prelude.{Result}
use Rattle.meaning.specs.Outcome.{Reply}
use Rattle.meaning.specs.Count.{Count}
use Rattle.refusals.specs.Refusal.{reply, reply_mapped}
use Rattle.refusals.specs.declared.Refusal.{Refusal}
use Rattle.boats.specs.declared.BoatCount.{BoatCount}

-- both numbers
abbrev pub count_shown : BoatCount → Count
count_shown c = record { boats = c.boats; reads = c.reads }

abbrev pub count_reply : Result BoatCount Refusal → Reply Count
count_reply r = reply_mapped count_shown (reply r)
