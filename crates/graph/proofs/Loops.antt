-- How a loop over a made list becomes a loop over numbers (the loops: `Loops` in specs/).
-- A list made by `flat`, `filt` and `map` over `count 0 n` is "for x in 0..n, if …, do …" (`loop-for`); the code's loops are `turns`.
use Rattle.std.specs.Prelude.{◌≡◌, Bool}
use Rattle.std.proofs.Math.Path.{refl, ap}
use Rattle.std.proofs.Common.{◌∙◌, arith}
use Rattle.std.proofs.Math.Bool.{true, false, cond}
use mathlib.Core.List.{List, [], ◌∷◌, ◌++◌, map}
use Prim.Native.Nat.{ℕ, zero, suc, ◌+◌, ◌≤◌, ◌<◌}
use Rattle.lists.specs.Listed.{when}
use Rattle.graph.specs.Plain.{filt, flat, count}
use Rattle.graph.specs.Loops.{loop, turns}

module _ {A : Type 0} where
  -- ---- a loop over a list that is made

  pub loop-append : (f : ℕ → A → A) (xs ys : List ℕ) (a : A) → loop f (xs ++ ys) a ≡ loop f ys (loop f xs a)
  unfolding loop
  loop-append f [] ys a = refl
  loop-append f (x ∷ xs) ys a = loop-append f xs ys (f x a)

  pub loop-flat : (f : ℕ → A → A) (g : ℕ → List ℕ) (xs : List ℕ) (a : A) → loop f (flat g xs) a ≡ loop (λ x. loop f (g x)) xs a
  unfolding loop flat
  loop-flat f g [] a = refl
  loop-flat f g (x ∷ xs) a = loop-append f (g x) (flat g xs) a ∙ loop-flat f g xs (loop f (g x) a)

  pub loop-map : (f : ℕ → A → A) (g : ℕ → ℕ) (xs : List ℕ) (a : A) → loop f (map g xs) a ≡ loop (λ x. f (g x)) xs a
  unfolding loop
  loop-map f g [] a = refl
  loop-map f g (x ∷ xs) a = loop-map f g xs (f (g x) a)

  pub loop-filt : (f : ℕ → A → A) (p : ℕ → Bool) (xs : List ℕ) (a : A) → loop f (filt p xs) a ≡ loop (λ x b. cond (p x) (f x b) b) xs a
  unfolding loop
  loop-filt f p [] a = unfold filt in refl
  loop-filt f p (x ∷ xs) a = go (p x) refl (λ b. loop-filt f p xs b)
    where
      go : (b : Bool)
          → p x ≡ b → ((c : A) → loop f (filt p xs) c ≡ loop (λ x b. cond (p x) (f x b) b) xs c)
          → loop f (filt p (x ∷ xs)) a ≡ loop (λ x b. cond (p x) (f x b) b) xs (cond (p x) (f x a) a)
      go true e ih = unfold filt in rw (e, filt) (ih (f x a))
      go false e ih = unfold filt in rw (e, filt) (ih a)

  pub loop-when : (f : ℕ → A → A) (b : Bool) (xs : List ℕ) (a : A) → loop f (when b xs) a ≡ cond b (loop f xs a) a
  unfolding loop
  loop-when f true xs a = refl
  loop-when f false xs a = refl

  pub loop-count : (f : ℕ → A → A) (i n : ℕ) (a : A) → loop f (count i n) a ≡ turns f i n a
  unfolding loop count turns
  loop-count f i zero a = refl
  loop-count f i (suc n) a = loop-count f (suc i) n (f i a)

  -- ---- a body may be changed for one that does the same

  pub loop-same : (f g : ℕ → A → A) → ((x : ℕ) (b : A) → f x b ≡ g x b) → (xs : List ℕ) (a : A) → loop f xs a ≡ loop g xs a
  unfolding loop
  loop-same f g h [] a = refl
  loop-same f g h (x ∷ xs) a = loop-same f g h xs (f x a) ∙ ap (loop g xs) (h x a)

  -- at the numbers that the loop meets
  pub turns-within : (f g : ℕ → A → A) (i n : ℕ) → ((x : ℕ) → i ≤ x → x < i + n → (b : A) → f x b ≡ g x b) → (a : A) → turns f i n a ≡ turns g i n a
  unfolding turns
  turns-within f g i zero h a = refl
  turns-within f g i (suc n) h a =
      turns-within f g (suc i) n (λ x l m. h x (omega (arith, l)) (omega (arith, m))) (f i a) ∙ ap (turns g (suc i) n) (h i (omega arith) (omega arith) a)

  pub turns_same : (f g : ℕ → A → A) → ((x : ℕ) (b : A) → f x b ≡ g x b) → (i n : ℕ) (a : A) → turns f i n a ≡ turns g i n a
  unfolding turns
  turns_same f g h i zero a = refl
  turns_same f g h i (suc n) a = turns_same f g h (suc i) n (f i a) ∙ ap (turns g (suc i) n) (h i a)

  -- turns that do nothing
  pub turns-idle : (f : ℕ → A → A) (i n : ℕ) (a : A) → ((x : ℕ) → i ≤ x → x < i + n → f x a ≡ a) → turns f i n a ≡ a
  unfolding turns
  turns-idle f i zero a h = refl
  turns-idle f i (suc n) a h = ap (turns f (suc i) n) (h i (omega arith) (omega arith)) ∙ turns-idle f (suc i) n a (λ x l u. h x (omega arith) (omega arith))

  -- ---- the loop with an `if` that a list made by a test is

  pub loop-for : (f : ℕ → A → A) (g : ℕ → List ℕ) (p : ℕ → Bool) (body : ℕ → A → A) → ((x : ℕ) (b : A) → loop f (g x) b ≡ body x b)
      → (n : ℕ) (a : A) → loop f (flat g (filt p (count 0 n))) a ≡ turns (λ x b. cond (p x) (body x b) b) 0 n a
  loop-for f g p body h n a =
      loop-flat f g (filt p (count 0 n)) a
      ∙ (loop-filt (λ x. loop f (g x)) p (count 0 n) a
      ∙ (loop-count (λ x b. cond (p x) (loop f (g x) b) b) 0 n a
      ∙ turns_same (λ x b. cond (p x) (loop f (g x) b) b) (λ x b. cond (p x) (body x b) b) (λ x b. ap (λ z. cond (p x) z b) (h x b)) 0 n a))
