-- The first shortest chain over lines and a pattern, as a definition that computes.
use Rattle.std.specs.Prelude.{ℕ, suc, length, get_or}
use mathlib.Core.List.{List, [], ◌∷◌}
use Rattle.std.proofs.Math.Option.{Option}
use Rattle.meaning.specs.Record.{Line, boats}
use Rattle.meaning.specs.Pattern.{Pattern, unfolded, keeps}
use Rattle.meaning.specs.Request.{search_size}
use Rattle.automaton.specs.Automaton.{nodes, node_at, start}
use Rattle.graph.specs.Plain.{solve}
use Rattle.boats.specs.Codes.{codes, telling}
use Rattle.search.specs.Product.{Setting, succs, preds}
use Rattle.search.specs.Along.{goal, starting}

-- ---- the definition

-- the record's lines with boat numbers, and the pattern's automaton
unfoldable pub setting : List Line → Pattern → Setting
setting lines p =
    let bs = boats lines in
    let cs = codes lines in
    let ns = nodes p [] in
    record { lines = lines; code = λ i. get_or cs i 0; tells = telling bs; node = node_at ns; done = unfolded p; radix = suc (length bs); deepest = keeps p }

-- where the chains from place a begin
unfoldable pub starts : Setting → Pattern → ℕ → List ℕ
starts S p a = starting S a (start p)

-- the first shortest chain from a to b that matches the pattern
unfoldable pub solution : List Line → ℕ → Pattern → ℕ → ℕ → Option (List ℕ)
solution lines places p a b =
    let S = setting lines p in
    solve (search_size lines places p) (goal S b ∷ []) (preds S) (succs S) (length lines) (starts S p a)
