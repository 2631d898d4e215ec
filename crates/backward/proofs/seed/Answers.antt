-- `backward::seed` meets its contract: the goal is a state, and it is pushed. Assumes nothing.
use mathlib.Core.Path.{subst}
use Prim.Native.Nat.{ℕ}
use native.Mathlib.Omega.{arith}
use Rattle.graph.specs.Table.{push}
use Rattle.states.specs.Pairs.{StepBack}
use Rattle.states.proofs.Bounds.{stacks-pos}
use Rattle.area.proofs.Anyhow.{room_of}
use Rattle.backward.proofs.seed.Goals as goal

pub state_at-s-requires : goal.state_at-s-requires
state_at-s-requires c =
    record { size_value = (c.requires.laid.0.size_is, c.requires.laid.0.small, c.requires.laid.0.few-positions); place_lt_places = (c.requires.laid.1, omega arith, stacks-pos c.requires.laid.0) }

pub push_if_new-requires : goal.push_if_new-requires
push_if_new-requires c = record { room = room_of c.requires.ready_back; s_lt_size = (c.state_at-s.ensures.1, omega arith, omega arith) }

pub returns : goal.returns
returns c =
    subst (λ (s : ℕ). StepBack c.args.plan (push 1 s) c.args.tail c.args.work.now c.push_if_new.result c.push_if_new.new.work) c.state_at-s.ensures.0 (c.push_if_new.ensures.sound c.requires.ready_back.good)
