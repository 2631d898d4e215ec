-- How each state was reached: beside the queue stands, for every state of it, a tag, the line by which it was found and the state that was
-- expanded then.
use Rattle.std.specs.Prelude.{List, ◌++◌}
use Prim.Native.Nat.{ℕ, ◌+◌, ◌*◌, ◌-◌}
use Rattle.std.proofs.Math.ListN.{length, replicate}
use Rattle.graph.specs.Table.{Search}

-- ---- what is found, and how

pub record Reached : Type 0 where
  pub table : Search
  pub how : List ℕ

-- the line l, from the state t: lines are below 2^12 and states below 2^20, so a tag is a number of 32 bits
abbrev pub tag_of : ℕ → ℕ → ℕ
tag_of l t = l * 1048576 + t

-- the states that f finds get the tag
unfoldable pub tagged : ℕ → (Search → Search) → Reached → Reached
tagged tag f x =
    let st = f x.table in
    record { table = st; how = x.how ++ replicate (length st.queue - length x.table.queue) tag }
