-- The checker's outcome where a question up to 17 is refused, where a line does not exist, and where the chain is checked.
use mathlib.Core.Path.{◌≡◌}
use mathlib.Core.Bool.{Bool, true, false}
use mathlib.Core.List.{List}
use Prim.Native.Nat.{ℕ}
use lib.ListN.{length}
use Rattle.meaning.specs.Outcome.{refused, passed}
use Rattle.meaning.specs.Windows.{Options}
use Rattle.meaning.specs.Request.{Asked, ask_request}
use Rattle.meaning.specs.Chain.{exist}
use Rattle.search.specs.Asked.{check}
use Rattle.checker.specs.Promise.{check_of}

module _ (rec pat : List ℕ) (from to : ℕ) (chain : List ℕ) (options : Options) (words : ℕ) where
  pub check-refused : (number : ℕ) → ask_request rec pat from to options words ≡ refused number → check_of rec pat from to chain options words ≡ refused number
  unfolding check_of
  check-refused number e = simp e

  module _ (q : Asked) (e : ask_request rec pat from to options words ≡ passed q) where
    pub check-missing : exist (length q.day.lines) chain ≡ false → check_of rec pat from to chain options words ≡ refused 18
    unfolding check_of
    check-missing h = simp (e, h)

    pub check-said : exist (length q.day.lines) chain ≡ true → (b : Bool) → b ≡ check q from to chain → check_of rec pat from to chain options words ≡ passed b
    unfolding check_of
    check-said h b is = simp (e, h, is)
