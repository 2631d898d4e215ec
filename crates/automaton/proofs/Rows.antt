-- With one boat given from outside, the automaton's words are those of the language with that boat in its slot: an example of `same-words-in`.
use Rattle.std.specs.Prelude.{refl, [], ◌∷◌, ◌↔◌, ℕ}
use Rattle.std.proofs.Math.Bool.{So}
use Rattle.meaning.specs.Record.{Boat}
use Rattle.meaning.specs.Pattern.{Pattern}
use Rattle.meaning.specs.Language.{Word, unbound, bind, L}
use Rattle.automaton.specs.Automaton.{accepts}
use Rattle.automaton.proofs.Words.{same-words-in}

-- ---- what P and S do not have

-- with one boat from outside the valuation is the language's own binding
one-given : (p : Pattern) (s : ℕ) (b : Boat) (w : Word) → L p (bind unbound s b) w ↔ So (accepts p (s ∷ []) (b ∷ []) w)
one-given p s b w = same-words-in p (s ∷ []) (b ∷ []) refl w
