-- The tables of the sieves end far below 2^32, and each stands after the one before.
use mathlib.Core.Path.{◌≡◌}
use Prim.Native.Nat.{◌+◌, ◌≤◌}
use native.Mathlib.Omega.{arith}
use Rattle.request.specs.declared.Plan.{Plan}
use Rattle.sorted.specs.Sorting.{keys, sorted_end}
use Rattle.sorted.specs.declared.Order.TheVariants as Order
use Rattle.states.specs.declared.Sieve.{Sieve}
use Rattle.thinned.specs.Thinning.{groups, thin_at, thin_end}

pub groups-few : (sieve : Sieve) (plan : Plan) → plan.places ≤ 1024 → groups sieve plan ≤ 263168
groups-few Sieve.Boats plan few = omega (arith, few)
groups-few Sieve.Classes plan few = omega (arith, few)
groups-few Sieve.Sisters plan few = omega (arith, few)

module _ (plan : Plan) (is : plan.stamps ≡ sorted_end Order.Kind plan plan.thin) where
  -- it is no shorter than its table
  pub table-long : sorted_end Order.Kind plan plan.thin ≡ plan.thin + (keys Order.Kind plan + plan.lines + 1)
  table-long = omega arith

  module _ (low : plan.stamps ≤ 16777216) (few : plan.places ≤ 1024) where
    pub at-few : (sieve : Sieve) → thin_at sieve plan ≤ 50331648
    at-few Sieve.Boats = omega (arith, is, low)
    at-few Sieve.Classes = omega (arith, is, low, few)
    at-few Sieve.Sisters = omega (arith, is, low, few)

    pub end-few : (sieve : Sieve) → thin_end sieve plan (thin_at sieve plan) ≤ 134217728
    end-few sieve = omega (arith, at-few sieve, groups-few sieve plan few, is, low)

  -- it begins after the thin table of boats' beginning
  pub at-past : (sieve : Sieve) → plan.thin ≤ thin_at sieve plan
  at-past Sieve.Boats = omega arith
  at-past Sieve.Classes = omega arith
  at-past Sieve.Sisters = omega arith
