-- Marks of 16 bits are read as they stand: the chain of the area is then graph's `chain_in` of the marks themselves (`chain-low`).
use Rattle.std.specs.Prelude.{◌≡◌, refl, List, ◌∷◌, map, ℕ, zero, suc, ◌+◌, ◌*◌, ◌-◌, ◌%◌, ◌<◌, get_or}
use Rattle.std.proofs.Common.{ap, ◌∙◌, mod-eq_of_lt, ext_get_or}
use Rattle.std.proofs.lemmas.List.{length-map}
use Rattle.std.proofs.Math.ListN.{get_or-map}
use Rattle.graph.specs.Sweep.{line_into, chain_in}
use Rattle.request.specs.declared.Plan.{Plan}
use Rattle.area.specs.Area.{stretch}
use Rattle.states.specs.Pairs.{distances}
use Rattle.readout.specs.Readout.{queue_in, chain_of}

-- the chain that marks say does not hang on where lines lead
pub chain-any : (D : List ℕ) (succs succs' : ℕ → ℕ → List ℕ) (m m' : ℕ) (q M : List ℕ) (k : ℕ) → chain_in D succs m q M k ≡ chain_in D succs' m' q M k
unfolding chain_in line_into
chain-any D succs succs' m m' q M zero = refl
chain-any D succs succs' m m' q M (suc k) = ap (λ c. line_into D succs m q M (suc k) ∷ c) (chain-any D succs succs' m m' q M k)

-- numbers of 16 bits are left by a cut to 16 bits
cut-none : (l : List ℕ) → ((i : ℕ) → get_or l i 0 < 65536) → map (λ x. x % 65536) l ≡ l
cut-none l low = ext_get_or 0 (map (λ x. x % 65536) l) l (length-map l _) (λ i _. get_or-map (λ x. x % 65536) l i 0 ∙ mod-eq_of_lt (low i))

pub chain-low : (plan : Plan) (tail far : ℕ) (w : List ℕ) → ((i : ℕ) → get_or (stretch (plan.base + 3 * plan.size) plan.size w) i 0 < 65536)
    → (succs : ℕ → ℕ → List ℕ) (m : ℕ)
    → chain_of plan tail far w ≡ chain_in (distances plan w) succs m (queue_in plan tail far w) (stretch (plan.base + 3 * plan.size) plan.size w) (far - 1)
unfolding chain_of
chain-low plan tail far w low succs m =
    let D = distances plan w in
    let q = queue_in plan tail far w in
    chain-any D (λ s l. q) succs 0 m q _ (far - 1) ∙ ap (λ M. chain_in D succs m q M (far - 1)) (cut-none (stretch (plan.base + 3 * plan.size) plan.size w) low)
