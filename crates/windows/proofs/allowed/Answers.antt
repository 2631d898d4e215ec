-- `windows::allowed`: the fifteen windows asked from the first on are those that question 27 asks kind by kind.
use Rattle.std.proofs.Common.{◌≡◌, refl, Bool, ◌&&◌, ℕ, zero, suc, ◌-◌, ◌≤◌, List, ltb, leb, length, get_or, take, sym, ap, ◌∙◌, arith, rules, take-suc, take_all}
use borrow.Author.Tests.{tests}
use Rattle.std.specs.List.{list_all}
use Rattle.std.proofs.lemmas.Iterator.{YieldsList-from_slice}
use Rattle.std.proofs.lemmas.Iterator.Search.{all_from_yields_List}
use Rattle.std.proofs.lemmas.List.{get_or-map}
use Rattle.std.proofs.lemmas.List.Recursion.{and_push}
use Rattle.meaning.specs.Windows.{first_allowed}
use Rattle.windows.specs.Promise.{windows_in}
use Rattle.windows.specs.declared.Window.{Window}
use Rattle.windows.proofs.allowed.Goals as goal

-- question 27 of one window
abbrev test : Window → Bool
test w = ltb w.opens w.closes && leb w.closes 86400

module _ (ws : List Window) where
  -- of the first n windows
  first-all : (n : ℕ) → n ≤ length ws → list_all test (take n ws) ≡ first_allowed (windows_in ws) n
  unfolding first_allowed
  first-all zero h = refl
  first-all (suc n) h =
      let d : Window = record { opens = 0; closes = 0 } in
      let there : suc n - 1 ≡ n = omega arith in
      rw (take-suc ws n d, and_push (list_all test) test refl (λ _ _. refl) (take n ws) (get_or ws n d), first-all n (omega arith), there, get_or-map (λ (w : Window). w.opens) ws n d 0 h, get_or-map (λ (w : Window). w.closes) ws n d 0 h) refl

pub returns : goal.returns
returns c =
    let ws = c.args.options.windows in
    let all : c.all.result ≡ list_all test ws = all_from_yields_List test _ _ c.all.result c.all.ensures.ran (YieldsList-from_slice ws cc) (λ x b q k. search (rules, tests)) in
    let long : 15 ≡ length ws = omega arith in
    all ∙ (ap (list_all test) (sym (take_all 15 ws (omega arith))) ∙ first-all ws 15 (omega arith))
