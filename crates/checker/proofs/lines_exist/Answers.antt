-- `checker::lines_exist`: the specification's own recursion is a test of every number.
use Rattle.std.proofs.Common.{◌≡◌, ℕ, List, [], ◌∷◌, ◌&&◌, ap, refl, rules}
use Rattle.std.specs.List.{list_all}
use Rattle.std.proofs.lemmas.Iterator.{YieldsList-from_slice}
use Rattle.std.proofs.lemmas.Iterator.Search.{all_from_yields_List}
use borrow.Author.Tests.{tests}
use lib.Dec.{ltb}
use Rattle.meaning.specs.Chain.{exist}
use Rattle.checker.proofs.lines_exist.Goals as goal

exist-all : (m : ℕ) (c : List ℕ) → exist m c ≡ list_all (λ i. ltb i m) c
unfolding exist
exist-all m [] = refl
exist-all m (i ∷ c) = ap (ltb i m &&◌) (exist-all m c)

pub returns : goal.returns
returns c = rw exist-all (all_from_yields_List (λ i. ltb i c.args.lines) _ _ _ c.all.ensures.ran (YieldsList-from_slice c.args.chain.now cc) (λ x b q k. search (rules, tests)))
