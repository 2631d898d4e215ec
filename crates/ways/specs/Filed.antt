-- The lines sorted for phase one, where the plan has room for it: by kind, by boat if boats are kept, and by kind again, thin. Where it has
-- none, every line is gone over. The thin tables of classes and of sisters are made where a position asks for them and there is room.
use Rattle.std.specs.Prelude.{◌≡◌, List, ℕ, ◌≤◌, ◌<◌, length, get_or}
use Rattle.request.specs.Layout.{filed_end}
use Rattle.request.specs.declared.Plan.{Plan}
use Rattle.sorted.specs.Sorting.{sorted_end, Sorted}
use Rattle.sorted.specs.declared.Order.TheVariants as Order
use Rattle.states.specs.declared.Sieve.{Sieve}
use Rattle.thinned.specs.Thinning.{thin_at, thin_end, Thinned}

-- what every search has
pub record Basic (plan : Plan) (w : List ℕ) : Type 0 where
  pub room : filed_end plan ≤ length w
  pub kinds : Sorted Order.Kind plan plan.bykind w
  pub boats : 0 < plan.keeps → Sorted Order.Boat plan plan.byboat w
  pub thin : Thinned Sieve.Boats plan plan.bykind plan.thin w

-- the thin table of a sieve has room, and its first word says that it is made
pub record Said (sieve : Sieve) (plan : Plan) (w : List ℕ) : Type 0 where
  pub room : thin_end sieve plan (thin_at sieve plan) ≤ length w
  pub some : get_or w (thin_at sieve plan) 0 ≡ 0 → ⊥

pub record Filed (plan : Plan) (w : List ℕ) : Type 0 where
  pub basic : Basic plan w
  pub classes : Said Sieve.Classes plan w → Thinned Sieve.Classes plan plan.bykind (thin_at Sieve.Classes plan) w
  pub sisters : Said Sieve.Sisters plan w → Thinned Sieve.Sisters plan plan.bykind (thin_at Sieve.Sisters plan) w

-- the thin table of a sieve stands there
pub record Sieved (sieve : Sieve) (plan : Plan) (w : List ℕ) : Type 0 where
  pub room : sorted_end Order.Kind plan (thin_at sieve plan) ≤ length w
  pub thin : Thinned sieve plan plan.bykind (thin_at sieve plan) w
