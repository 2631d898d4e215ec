-- Whether a given chain matches a pattern, as a definition that computes: the set of states moved along the chain.
use Rattle.std.specs.Prelude.{Bool, ◌&&◌, ℕ, length}
use mathlib.Core.List.{List, [], ◌∷◌}
use Rattle.meaning.specs.Record.{Line}
use Rattle.meaning.specs.Pattern.{Pattern}
use Rattle.meaning.specs.Chain.{exist}
use Rattle.graph.specs.Plain.{memb, nub, flat}
use Rattle.search.specs.Product.{succs}
use Rattle.search.specs.Along.{goal}
use Rattle.search.specs.Answer.{setting, starts}

-- ---- the definition

-- the states, each once, to which the chain leads from those of X
unfoldable pub moved : (ℕ → ℕ → List ℕ) → List ℕ → List ℕ → List ℕ
moved next X [] = X
moved next X (i ∷ c) = moved next (nub (flat (λ s. next s i) X)) c

unfoldable pub checked : List Line → Pattern → ℕ → ℕ → List ℕ → Bool
checked lines p a b c =
    let S = setting lines p in
    exist (length lines) c && memb (goal S b) (moved (succs S) (starts S p a) c)
