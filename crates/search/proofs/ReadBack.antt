-- The loaded words, read back, say the request: `loaded-same`, for a plan with the request's numbers and tables loaded of its lines.
-- So what code finds that searches by them is `solution` and `checked`: `loaded-answer`, `loaded-check`, and for counting loops `loaded-ended`.
use Rattle.std.specs.Prelude.{◌≡◌, Bool, cond, ◌&&◌, ◌||◌, ◌↔◌, eqb}
use Rattle.std.proofs.Math.Path.{refl, ap}
use Rattle.std.proofs.Common.{sym, ◌∙◌, subst, arith, get_or-append-add, lt-ltb}
use Rattle.std.proofs.Math.Bool.{true, false}
use mathlib.Core.List.Memᴰ
use mathlib.Core.List.{List, [], ◌∷◌, ◌++◌, map}
use Prim.Native.Nat.{ℕ, suc, ◌+◌, ◌*◌, ◌^◌, ◌/◌, ◌%◌, ◌<◌, ◌≤◌}
use Rattle.std.proofs.Math.Nat.{mod-lt}
use Rattle.std.proofs.Math.ListN.{length, get_or, get_or-append, get_or-map}
use Rattle.meaning.specs.Record.{Line, boats}
use Rattle.meaning.specs.Writing.{no_line, line_at}
use Rattle.meaning.specs.Pattern.{Pattern, unfolded, keeps}
use Rattle.meaning.specs.Language.{Compared, unread, same-boat, same_Class, other-class, meets}
use Rattle.meaning.specs.Request.{Asked, search_size}
use Rattle.meaning.specs.Chain.{exist}
use Rattle.record.specs.Fit.{Fit}
use Rattle.lists.specs.Listed.{◌∈◌}
use Rattle.automaton.specs.Automaton.{Test, never, always, against, nodes, node_at, start}
use Rattle.automaton.specs.Shape.{deeper}
use Rattle.automaton.proofs.Shape.{Reads, shape}
use Rattle.positions.specs.Program.{Compiled, members}
use Rattle.boats.specs.Codes.{codes, telling}
use Rattle.boats.proofs.Codes.{codes-length, code-low}
use Rattle.boats.specs.Table.{boat_table, class_in, told_by}
use Rattle.boats.proofs.Table.{table-told}
use Rattle.request.specs.Layout.{Laid, Planned, line_word, line-from, line-to, line-kind, boat_words, boats_loaded, table-long, some_words, loaded_of}
use Rattle.request.specs.declared.Plan.{Plan}
use Rattle.graph.specs.Plain.{memb, solve}
use Rattle.graph.proofs.Sets.{memb-same}
use Rattle.graph.specs.Loops.{loop}
use Rattle.graph.specs.Table.{Search, push}
use Rattle.graph.specs.PhaseOne.{begun, advance_by}
use Rattle.graph.specs.PhaseTwo.{put, forward}
use Rattle.graph.specs.Early.{Ended}
use Rattle.graph.proofs.Early.{ended_is}
use Rattle.search.specs.Product.{Setting, state, passes, succs, preds}
use Rattle.search.specs.Along.{goal, starting}
use Rattle.search.specs.Answer.{setting, starts, solution}
use Rattle.search.proofs.Answer.{starts-ok, goal-ok, sound, below-size, solution-any}
use Rattle.search.specs.Check.{moved, checked}
use Rattle.search.proofs.Check.{moved-members}
use Rattle.search.specs.Loaded.{boat_at, code_at, word_at, line_in, lines_in, setting_in}
use Rattle.search.proofs.Steps.{Ok, next-ok, preds-ok}
use Rattle.search.proofs.Same.{Same, same-succs, same-preds, same-goal, same-starting, same-solve, same-moved}
use Rattle.search.specs.Front.{tables}
use Rattle.search.proofs.Front.{lines-many, line-at, table_at}

-- ---- of a request

-- the positions of the mask, at place a with an empty stack, are the starts, in some order
pub starts-members : (S : Setting) (p : Pattern) (program : List ℕ) (begin : ℕ) → Compiled p program begin → (a s : ℕ) → (s ∈ starting S a (members begin)) ↔ (s ∈ starts S p a)
unfolding starts
starts-members S p program begin compiled a s = (over (members begin) (start p) (λ k. (compiled.start_is k).0), over (start p) (members begin) (λ k. (compiled.start_is k).1))
  where
    over : (K K' : List ℕ) → ((k : ℕ) → k ∈ K → k ∈ K') → s ∈ starting S a K → s ∈ starting S a K'
    over K K' f m =
        let at : ℕ → ℕ = λ k. state S a k 0 in
        let (k, mk, e) = Memᴰ.of_map at K m in
        subst (◌∈ map at K') e (Memᴰ.map at (f k mk))

module _ (q : Asked) (plan : Plan) (area : ℕ) (planned : Planned q plan) (laid : Laid plan area) where
  abbrev lines : List Line
  lines = q.day.lines

  abbrev places : ℕ
  places = q.day.places

  abbrev p : Pattern
  p = q.pattern

  pub size-asked : plan.size ≡ search_size lines places p
  unfolding search_size
  size-asked =
      let positions : plan.done + 1 ≡ suc (unfolded p) = omega (arith, planned.done-is) in
      let stacks : plan.stacks ≡ suc (length (boats lines)) ^ keeps p = laid.stacks-is ∙ (λ t. planned.radix-is t ^ planned.keeps-are t) in
      laid.size_is ∙ (λ t. planned.places-are t * positions t * stacks t)

  -- ---- the words of its tables

  module _ (g : List ℕ) (loaded : tables plan g ≡ loaded_of plan.keeps lines) where
    -- the boats that are loaded, and what is loaded after them
    abbrev table : List ℕ
    table = boats_loaded plan.keeps lines

    abbrev rest : List ℕ
    rest = codes lines ++ map line_word lines

    codes-from : plan.codes ≡ plan.boats + length table
    codes-from = laid.codes_at ∙ ap (plan.boats +◌) (ap (boat_words plan.keeps) planned.radix-is ∙ sym (table-long lines plan.keeps))

    -- word i of the tables
    table-word : (n i : ℕ) → n ≡ plan.boats + i → n < plan.base → get_or g n 0 ≡ get_or (table ++ rest) i 0
    table-word n i e less = ap (λ k. get_or g k 0) e ∙ (table_at plan g i (omega arith) ∙ ap (λ l. get_or l i 0) loaded)

    -- word i of those after the boats
    rest-word : (n i : ℕ) → n ≡ plan.codes + i → n < plan.base → get_or g n 0 ≡ get_or rest i 0
    rest-word n i e less = table-word n (length table + i) (omega (arith, e, codes-from)) less ∙ get_or-append-add table rest i 0

    pub code-back : (i : ℕ) → i < length lines → code_at plan g i ≡ get_or (codes lines) i 0
    code-back i less =
        rest-word (plan.codes + i) i refl (omega (arith, laid.words-at, laid.base-at, planned.lines_are))
        ∙ get_or-append (codes lines) (map line_word lines) 0 i (omega (arith, codes-length lines))

    pub line-back : (i : ℕ) → i < length lines → line_at (lines_in plan g 0 plan.lines) i ≡ line_in (line_word (line_at lines i))
    line-back i less =
        let stands : word_at plan g i ≡ line_word (line_at lines i) =
        rest-word (plan.words + i) (length (codes lines) + i) (omega (arith, laid.words-at, planned.lines_are, codes-length lines)) (omega (arith, laid.base-at, planned.lines_are))
        ∙ (get_or-append-add (codes lines) (map line_word lines) i 0 ∙ get_or-map line_word lines i no_line) in
        line-at plan g i (omega (arith, planned.lines_are)) ∙ ap line_in stands

    -- ---- boats compared

    -- where boats are kept their table stands there
    boat-back : 0 < plan.keeps → (x : ℕ) → x ≤ length (boats lines) → boat_at plan g x ≡ get_or (boat_table lines) x 0
    boat-back some x low =
        let (is, as_many) = some_words lines (suc (length (boats lines))) plan.keeps (λ none. omega (arith, some, none)) in
        let long : length table ≡ suc (length (boats lines)) = table-long lines plan.keeps ∙ as_many in
        let under : plan.boats + x < plan.codes = omega (arith, codes-from, long, low) in
        ap (λ t. cond t (get_or g (plan.boats + x) 0) 0) (lt-ltb _ _ under)
        ∙ (table-word (plan.boats + x) x refl (omega (arith, under, laid.words-at, laid.base-at))
        ∙ (get_or-append table rest 0 x (omega (arith, long, low)) ∙ ap (λ l. get_or l x 0) is))

    module _ (fit : Fit lines places) where
      told_back : 0 < plan.keeps → (x y : ℕ) → x ≤ length (boats lines) → y ≤ length (boats lines) → told_by (boat_at plan g) x y ≡ telling (boats lines) x y
      told_back some x y hx hy = (λ t. told (boat-back some x hx t) (boat-back some y hy t)) ∙ table-told lines (λ i less. (fit.boat i less).1) x y hx hy
        where
          told : ℕ → ℕ → Compared
          told a b = cond (eqb a 0 || eqb b 0) unread (cond (eqb x y) same-boat (cond (eqb (class_in a) (class_in b)) same_Class other-class))

      -- a test of the automaton, whatever the stack: only where boats are kept is there one that compares
      module _ (program : List ℕ) (v i : ℕ) (less : i < length lines) where
        test_back : (n : Test) (d : ℕ) → Reads n d → d ≤ keeps p
            → passes (setting_in program plan g) n v (get_or (codes lines) i 0) ≡ passes (setting lines p) n v (get_or (codes lines) i 0)
        unfolding setting_in setting
        test_back never d reads deep = refl
        test_back always d reads deep = refl
        test_back (against r j) d reads deep =
            let x = get_or (codes lines) i 0 in
            let y = v / suc (length (boats lines)) ^ j % suc (length (boats lines)) in
            let low : y < suc (length (boats lines)) = mod-lt _ (omega arith) in
            let some : 0 < plan.keeps = omega (arith, reads, deep, planned.keeps-are) in
            (λ t. meets r (told_by (boat_at plan g) x (v / planned.radix-is t ^ j % planned.radix-is t)))
            ∙ ap (meets r) (told_back some x y (omega (arith, code-low lines i less)) (omega (arith, low)))

      -- ---- the setting that they say

      module _ (program : List ℕ) (begin : ℕ) (compiled : Compiled p program begin) where
        pub loaded-same : Same (setting_in program plan g) (setting lines p) (length lines)
        unfolding setting_in setting
        loaded-same = record {
          done = planned.done-is;
          radix = planned.radix-is;
          deepest = planned.keeps-are;
          many = lines-many plan g 0 plan.lines ∙ planned.lines_are;
          as_many = refl;
          from = λ i less. ap (λ (l : Line). l.from) (line-back i less) ∙ line-from (line_at lines i) (low i less).0 (low i less).1 (fit.kind i less);
          kind = λ i less. ap (λ (l : Line). l.kind) (line-back i less) ∙ line-kind (line_at lines i) (low i less).0 (low i less).1 (fit.kind i less);
          to = λ i less. ap (λ (l : Line). l.to) (line-back i less) ∙ line-to (line_at lines i) (low i less).0 (low i less).1 (fit.kind i less);
          code = code-back;
          node = compiled.nodes-are;
          pass = λ c v i hc less.
              (λ t. passes (setting_in program plan g) ((compiled.nodes-are c hc).test t) v (code-back i less t))
              ∙ test_back program v i less (node_at (nodes p []) c).test (node_at (nodes p []) c).depth ((shape p [] {deepest = keeps p} (omega arith)).reads c) (depth_low c);
        }
          where
            -- no stack is deeper than the keeps
            depth_low : (c : ℕ) → (node_at (nodes p []) c).depth ≤ keeps p
            depth_low c = go (node_at (nodes p []) c).push ((shape p [] {deepest = keeps p} (omega arith)).depth c)
              where
                go : (b : Bool) → deeper b (node_at (nodes p []) c).depth ≤ keeps p → (node_at (nodes p []) c).depth ≤ keeps p
                go true h = omega (arith, h)
                go false h = h

            low : (i : ℕ) → i < length lines → ((line_at lines i).from < 1024) × ((line_at lines i).to < 1024)
            low i less = let (from, to) = fit.within i less in (omega (arith, fit.few-places, from), omega (arith, fit.few-places, to))

        -- ---- its states

        abbrev In : Setting
        In = setting_in program plan g

        -- the valid states, and that steps by the tables keep to them
        abbrev pub Valid : ℕ → Type 0
        Valid s = Ok (setting lines p) places s

        pub valid-low : (s : ℕ) → Valid s → s < plan.size
        valid-low s o = subst (s <◌) (sym size-asked) (below-size lines places p fit.within s o)

        pub valid-next : (s i t : ℕ) → Valid s → i < plan.lines → t ∈ succs In s i → Valid t
        unfolding setting
        valid-next s i t o less m =
            let li : i < length lines = omega (arith, planned.lines_are) in
            next-ok (setting lines p) places (sound lines places p fit.within) s i t o li (subst (t ∈◌) (same-succs loaded-same s i li) m)

        pub valid-preds : (s t : ℕ) → Valid t → s ∈ preds In t → Valid s
        valid-preds s t o m = preds-ok (setting lines p) places (sound lines places p fit.within) s t o (subst (s ∈◌) (same-preds loaded-same t) m)

        pub valid-goal : (b : ℕ) → b < places → (s : ℕ) → s ∈ (goal In b ∷ []) → Valid s
        valid-goal b hb s m = goal-ok lines places p b hb s (subst (λ x. s ∈ (x ∷ [])) (same-goal loaded-same b) m)

        pub valid-starts : (a : ℕ) → a < places → (s : ℕ) → s ∈ starting In a (members begin) → Valid s
        valid-starts a ha s m =
            starts-ok lines places p a ha s ((starts-members (setting lines p) p program begin compiled a s).0 (subst (s ∈◌) (same-starting loaded-same a (members begin)) m))

        -- ---- the search, and the walk along a chain

        module _ (a b : ℕ) where
          pub loaded-answer : a < places → b < places
              → solve plan.size (goal In b ∷ []) (preds In) (succs In) plan.lines (starting In a (members begin)) ≡ solution lines places p a b
          loaded-answer ha hb =
              (λ t. solve (size-asked t) (goal In b ∷ []) (preds In) (succs In) (planned.lines_are t) (starting In a (members begin)))
              ∙ (same-solve loaded-same (search_size lines places p) a b (members begin)
              ∙ solution-any lines places p fit.within a b ha hb _ (starts-members (setting lines p) p program begin compiled a))

          pub loaded-check : (c : List ℕ) → (exist plan.lines c && memb (goal In b) (moved (succs In) (starting In a (members begin)) c)) ≡ checked lines p a b c
          unfolding checked
          loaded-check c = ap (λ m. exist m c && memb (goal In b) (moved (succs In) (starting In a (members begin)) c)) planned.lines_are ∙ go (exist (length lines) c) refl
            where
              T : Setting
              T = setting lines p

              go : (t : Bool) → exist (length lines) c ≡ t
                  → (t && memb (goal In b) (moved (succs In) (starting In a (members begin)) c)) ≡ (t && memb (goal T b) (moved (succs T) (starts T p a) c))
              go false e = refl
              go true e =
                  (λ t. memb (same-goal loaded-same b t) (same-moved loaded-same a (members begin) c e t))
                  ∙ memb-same (goal T b) _ _ (moved-members (succs T) c _ _ (starts-members T p program begin compiled a) (goal T b))

          -- phase two after a phase one that has ended, as counting loops whose bodies go by the tables
          pub loaded-ended : (expand : ℕ → ℕ → Search → Search) → ((w t : ℕ) (st : Search) → loop (push w) (preds In t) st ≡ expand w t st)
              → (from_state : List ℕ → ℕ → ℕ → ℕ → Search → Search) → ((D : List ℕ) (w l s : ℕ) (st : Search) → loop (put D w) (succs In s l) st ≡ from_state D w l s st)
              → a < places → b < places → (k : ℕ)
              → let u = advance_by expand k (begun plan.size (goal In b ∷ [])) in let firsts = starting In a (members begin) in
              Ended firsts u → forward from_state plan.size plan.lines firsts u.table.dist ≡ solution lines places p a b
          loaded-ended expand expand-law from_state from-law ha hb k e =
              ended_is plan.size (goal In b ∷ []) (preds In) (succs In) plan.lines expand expand-law from_state from-law
              Valid valid-low (valid-goal b hb) valid-next valid-preds (starting In a (members begin)) (valid-starts a ha) k e
              ∙ loaded-answer ha hb
