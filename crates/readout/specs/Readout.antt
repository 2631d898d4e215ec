-- The chain that the marks of a finished sweep say, as two loops over the output. That the loops give graph's `chain_in` is `chain-of`, in
-- proofs/Chains; that marks of 16 bits are read as they stand is `chain-low`, in Low.
use Rattle.std.specs.Prelude.{cond, ◌&&◌, List, map, ℕ, ◌+◌, ◌*◌, ◌-◌, ◌%◌, ltb, get_or, set}
use Rattle.graph.specs.Loops.{turns}
use Rattle.graph.specs.PhaseTwo.{lesser_word}
use Rattle.graph.specs.Sweep.{chain_in}
use Rattle.request.specs.declared.Plan.{Plan}
use Rattle.area.specs.Area.{stretch, found}
use Rattle.states.specs.Pairs.{distances}

-- the marks as numbers of 16 bits, which those of a search that was begun are
abbrev pub marks_low : Plan → List ℕ → List ℕ
marks_low plan w = map (λ x. x % 65536) (stretch (plan.base + 3 * plan.size) plan.size w)

module _ (plan : Plan) (tail far : ℕ) (w : List ℕ) where
  abbrev pub queue_in : List ℕ
  queue_in = (found plan.base plan.size tail w).queue

  -- the state at place j of the queue: its mark is noted for its level
  unfoldable pub note_turn : ℕ → List ℕ → List ℕ
  note_turn j out =
      let s = get_or queue_in j 0 in
      let d = get_or (distances plan w) s 0 in
      cond (ltb 0 d && ltb d far) (set out (far - 1 - d) (lesser_word (get_or out (far - 1 - d) 0) (get_or (marks_low plan w) s 0))) out

  -- all states found
  unfoldable pub noted : List ℕ → List ℕ
  noted = turns note_turn 0 tail

  -- the chain
  unfoldable pub chain_of : List ℕ
  chain_of = chain_in (distances plan w) (λ s l. queue_in) 0 queue_in (marks_low plan w) (far - 1)

-- marks made lines
abbrev pub lines_of : List ℕ → List ℕ
lines_of = map (λ x. x - 1)
