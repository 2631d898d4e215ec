-- A compiled pattern has as many nodes as its unfolded count says, and so have the rounds of a counted one.
use Rattle.std.specs.Prelude.{◌≡◌, refl, List, ℕ, suc, ◌+◌, ◌*◌, length}
use Rattle.std.proofs.Common.{ap, length-append}
use Rattle.meaning.specs.Pattern.{Pattern, nothing, line, test, either, then, repeat, keep, counted, unfolded}
use Rattle.automaton.specs.Automaton.{nullable, heads, enter, compile, compile_counted}
use Rattle.automaton.proofs.Rounds.{rounds-length}

-- ---- a compiled pattern is placed

pub compile-length : (p : Pattern) (b : ℕ) (scope K : List ℕ) → length (compile p b scope K) ≡ unfolded p
compile-length nothing b scope K = refl
compile-length (line k) b scope K = refl
compile-length (test r k s) b scope K = refl
compile-length (either p q) b scope K =
    ap suc (rw length-append (λ i. compile-length p (suc b) scope K i + compile-length q (suc b + unfolded p) scope K i))
compile-length (then p q) b scope K =
    ap suc (rw length-append (λ i. compile-length p (suc b) scope (enter q (suc b + unfolded p) K) i + compile-length q (suc b + unfolded p) scope K i))
compile-length (repeat p) b scope K = ap suc (compile-length p _ _ _)
compile-length (keep k s p) b scope K = ap suc (compile-length p _ _ _)
compile-length (counted low high p) b scope K =
    ap suc (rounds-length (λ a. heads p a) (nullable p) (unfolded p) (λ a J. compile p a scope J) K (λ a J. compile-length p a scope J) low high (suc b))

pub counted-length : (p : Pattern) (m n b : ℕ) (scope K : List ℕ) → length (compile_counted p m n b scope K) ≡ n * unfolded p
counted-length p m n b scope K =
    rounds-length (λ a. heads p a) (nullable p) (unfolded p) (λ a J. compile p a scope J) K (λ a J. compile-length p a scope J) m n b
