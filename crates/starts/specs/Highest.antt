-- Question 15 of a list of places by the highest of them: the questions of all starts are those of a request from the highest place
-- (`starts-asked`). Where they pass, each listed place is below the count (`all-below`), and passes alone (`asked-from`).
use Rattle.std.specs.Prelude.{◌≡◌, refl, Bool, true, false, ◌&&◌, List, [], ◌∷◌, ℕ, ◌<◌, ltb, leb, max, fold}
use Rattle.std.proofs.Math.Path.{sym, ap, fun_ext}
use Rattle.std.proofs.Common.{◌∙◌, subst, ⊎_elim, arith, ltb-true, lt-ltb}
use mathlib.Core.List.Memᴰ
use Rattle.std.proofs.lemmas.Bool.Decides.{nat_tests}
use Rattle.lists.specs.Listed.{◌∈◌, none_in}
use Rattle.record.specs.Outcomes.{passed-inj, and-true, ask-passed, and_then-passed}
use Rattle.meaning.specs.Outcome.{passed, ask, and_then}
use Rattle.meaning.specs.Windows.{Options, windows_allowed}
use Rattle.meaning.specs.Request.{Asked, size_of, need, ask_both, ask_windows, ask_request, all_below, ask_starts}

-- the highest of the listed places and one more
abbrev pub highest_of : List ℕ → ℕ → ℕ
highest_of starts most = fold max most starts

-- ---- both are below a count exactly where the higher is

below : (count a b : ℕ) → ltb (max a b) count ≡ (ltb a count && ltb b count)
below count a b = grind (arith, nat_tests)

-- all listed places and one more
below_all : (count : ℕ) (starts : List ℕ) (most : ℕ) → ltb (highest_of starts most) count ≡ (all_below count starts && ltb most count)
unfolding all_below
below_all count [] most = refl
below_all count (a ∷ rest) most =
    below_all count rest (max most a)
    ∙ (ap (all_below count rest &&◌) (below count most a) ∙ turned (ltb a count) (all_below count rest) (ltb most count))
  where
    turned : (x y z : Bool) → (y && (z && x)) ≡ ((x && y) && z)
    turned true true true = refl
    turned true true false = refl
    turned true false z = refl
    turned false true true = refl
    turned false true false = refl
    turned false false z = refl

-- ---- the questions

pub starts-asked : (rec pat starts : List ℕ) (to : ℕ) (options : Options) (words : ℕ) → ask_starts rec pat starts to options words ≡ ask_request rec pat (highest_of starts to) to options words
unfolding ask_starts ask_request
starts-asked rec pat starts to options words = ap (and_then (ask_both rec pat options)) (fun_ext (λ q. ap (λ t. ask t 15 (ask_windows q (ask (leb (size_of q) 1048576) 16 (ask (leb (need (size_of q)) words) 17 (passed q))))) (sym (same q.day.places))))
  where
    -- the finishing place is below the count where the highest is
    again : (x y : Bool) → ((x && y) && y) ≡ (x && y)
    again true true = refl
    again true false = refl
    again false y = refl

    same : (count : ℕ) → (ltb (highest_of starts to) count && ltb to count) ≡ (all_below count starts && ltb to count)
    same count = ap (◌&& ltb to count) (below_all count starts to) ∙ again (all_below count starts) (ltb to count)

-- ---- a listed place

-- each of them is below the count
pub all-below : (count : ℕ) (starts : List ℕ) → all_below count starts ≡ true → (a : ℕ) → a ∈ starts → a < count
unfolding all_below
all-below count [] h a i = none_in i
all-below count (b ∷ rest) h a i =
    let (low, later) = and-true (ltb b count) (all_below count rest) h in
    ⊎_elim (λ e. subst (◌< count) (sym e) (ltb-true _ _ low)) (λ j. all-below count rest later a j) (Memᴰ.cases_cons i)

-- what passes the questions of all starts passes those of a request from a listed place
pub asked-from : (rec pat starts : List ℕ) (to : ℕ) (options : Options) (words : ℕ) (q : Asked) → ask_starts rec pat starts to options words ≡ passed q → (a : ℕ) → a ∈ starts → ask_request rec pat a to options words ≡ passed q
unfolding ask_starts ask_request
asked-from rec pat starts to options words q h a i =
    let (b, e, rest) = and_then-passed (ask_both rec pat options) _ q h in
    let (places, more) = ask-passed (all_below b.day.places starts && ltb to b.day.places) 15 _ q rest in
    let (all, low) = and-true (all_below b.day.places starts) (ltb to b.day.places) places in
    rw (e, lt-ltb a b.day.places (all-below b.day.places starts all a i), low) more

-- and all listed places are below its count
pub asked-below : (rec pat starts : List ℕ) (to : ℕ) (options : Options) (words : ℕ) (q : Asked) → ask_starts rec pat starts to options words ≡ passed q → all_below q.day.places starts ≡ true
unfolding ask_starts
asked-below rec pat starts to options words q h =
    let (b, e, rest) = and_then-passed (ask_both rec pat options) _ q h in
    let (places, more) = ask-passed (all_below b.day.places starts && ltb to b.day.places) 15 _ q rest in
    let (windows, sized) = ask-passed (windows_allowed b.options.windows) 27 _ q more in
    let (small, last) = ask-passed (leb (size_of b) 1048576) 16 _ q sized in
    let (room, same) = ask-passed (leb (need (size_of b)) words) 17 (passed b) q last in
    subst (λ (z : Asked). all_below z.day.places starts ≡ true) (passed-inj same) (and-true (all_below b.day.places starts) (ltb to b.day.places) places).0
