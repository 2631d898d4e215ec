-- Laws of question 27, of a window and of the lists by which options are told. Assumes nothing.
use Rattle.std.specs.Prelude.{◌≡◌, refl, Bool, true, ◌&&◌, List, ltb, leb, eqb, length, get_or, Some, None}
use Rattle.std.proofs.Common.{◌∙◌, arith}
use Rattle.std.proofs.Math.Path.{ap, subst}
use Rattle.std.proofs.Math.Bool.{false}
use Prim.Native.Nat.{ℕ, zero, suc, ◌+◌, ◌-◌, ◌<◌, ◌≤◌}
use borrow.Author.Tests.{leb-true, leb-false}
use Rattle.meaning.specs.Windows.{Windows, within, window_allowed, first_allowed}
use Rattle.record.specs.Promise.{time_shown}
use Rattle.windows.specs.Promise.{each_of}

-- ---- question 27, kind after kind

-- the window of the kind after k others
pub window-at : (w : Windows) (k : ℕ) → window_allowed w (suc k) ≡ (ltb (get_or w.opens k 0) (get_or w.closes k 0) && leb (get_or w.closes k 0) 86400)
window-at w k =
    let there : suc k - 1 ≡ k = omega arith in
    ap (λ n. ltb (get_or w.opens n 0) (get_or w.closes n 0) && leb (get_or w.closes n 0) 86400) there

pub none-asked : (w : Windows) → first_allowed w 0 ≡ true
unfolding first_allowed
none-asked w = refl

pub one_more : (w : Windows) (k : ℕ) → first_allowed w k ≡ true → first_allowed w (suc k) ≡ window_allowed w (suc k)
unfolding first_allowed
one_more w k e = ap (◌&& window_allowed w (suc k)) e

-- one that is not allowed is enough
pub one-not : (w : Windows) (k n : ℕ) → first_allowed w k ≡ false → k ≤ n → first_allowed w n ≡ false
one-not w k zero e h = subst (λ m. first_allowed w m ≡ false) (omega (arith, h)) e
one-not w k (suc n) e h = go (leb k n) refl (one-not w k n e)
  where
    go : (t : Bool) → leb k n ≡ t → (k ≤ n → first_allowed w n ≡ false) → first_allowed w (suc n) ≡ false
    go true q ih = unfold first_allowed in ap (◌&& window_allowed w (suc n)) (ih (leb-true k n q))
    go false q ih = let same : k ≡ suc n = omega (arith, h, leb-false k n q) in subst (λ m. first_allowed w m ≡ false) same e

-- ---- a line's time, by the code's test of it

pub timed-within : (opens closes time : ℕ) → within opens closes (time_shown (Some time)) ≡ (leb opens time && ltb time closes)
timed-within opens closes time = refl

pub untimed-within : (opens closes : ℕ) → within opens closes (time_shown None) ≡ (eqb opens 0 && eqb closes 86400)
untimed-within opens closes = refl

-- ---- a list made entry by entry

pub each_long : (f : ℕ → ℕ) (k n : ℕ) → length (each_of f k n) ≡ n
unfolding each_of
each_long f k zero = refl
each_long f k (suc n) = ap suc (each_long f (suc k) n)

pub each_at : (f : ℕ → ℕ) (k n i d : ℕ) → i < n → get_or (each_of f k n) i d ≡ f (k + i)
unfolding each_of
each_at f k zero i d h = absurd (omega (arith, h))
each_at f k (suc n) zero d h = ap f (omega arith)
each_at f k (suc n) (suc i) d h = let on : suc k + i ≡ k + suc i = omega arith in each_at f (suc k) n i d (omega (arith, h)) ∙ ap f on
