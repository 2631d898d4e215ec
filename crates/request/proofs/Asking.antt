-- What the readers of record and pattern tell the code, as outcomes of the definitions. Assumes nothing.
use mathlib.Core.Path.{◌≡◌, refl, sym, ap, ◌∙◌, subst}
use mathlib.Core.Bool.{Bool, true, false, cond}
use mathlib.Core.List.{List}
use Prim.Native.Nat.{ℕ, suc, ◌+◌, ◌*◌, ◌^◌, ◌<◌, ◌≤◌}
use native.Mathlib.Numerals.{add-one}
use lib.Dec.{ltb, leb}
use lib.ListN.{length}
use native.Mathlib.Omega.{arith}
use Rattle.meaning.specs.Outcome.{Outcome, refused, passed, ask, and_then}
use Rattle.meaning.specs.Record.{boats, read_record}
use Rattle.meaning.specs.Pattern.{unfolded, keeps, read_pattern, none_given}
use Rattle.meaning.specs.Windows.{Options, windows_allowed, plain}
use Rattle.meaning.specs.Request.{Asked, size_of, search_size, need, ask_both, words_of, search_need, search_words_of}
use Rattle.record.specs.Outcomes.{passed-inj, not-both, and_then-passed}
use Rattle.std.proofs.lemmas.Option.{none-some, cond_some}
use Rattle.record.specs.Whole.{lines_in, lines_of}
use Rattle.refusals.specs.Refusal.{number, mapped}
use Rattle.refusals.specs.declared.Refusal.{Refusal}
use Rattle.request.specs.Layout.{largest, table_words, boat_words, Laid, Fitting, Planned}
use Rattle.request.specs.Asking.{both_of, size_within, ask_sized, CountsOf, CountsTold, tables, ask_weight}
use Rattle.request.specs.Told.{ask_room}
use Rattle.request.specs.declared.Plan.{Plan}
use Rattle.request.specs.declared.Both.{Both}
use Rattle.request.specs.declared.Counts.{Counts}
use Rattle.request.proofs.Sizes.{boats-in-size, boats-in-radix}
use native.Mathlib.Nat.{mul-le-mul}
use Rattle.std.specs.Prelude.{Option, Some, None, ok_or, Ok, Err}
use borrow.Author.Tests.{le-ltb, lt-ltb, le-leb, lt-leb, leb-true}

-- what is told of an outcome by its parts
pub mapped-refused : {A B : Type 0} (f : A → B) (o : Outcome A) (n : ℕ) → refused n ≡ mapped f o → o ≡ refused n
mapped-refused f (refused q) n h = ap refused cc
mapped-refused f (passed a) n h = absurd (not-both h)

pub mapped-passed : {A B : Type 0} (f : A → B) (o : Outcome A) (b : B) → passed b ≡ mapped f o → (a : A) × (o ≡ passed a) × (b ≡ f a)
mapped-passed f (refused q) b h = absurd (not-both (sym h))
mapped-passed f (passed a) b h = (a, refl, passed-inj h)

-- what passed, by its counts
pub record Counted (rec pat : List ℕ) (options : Options) (b : Both) : Type 0 where
  pub asked : Asked
  pub both : ask_both rec pat options ≡ passed asked
  pub options-are : asked.options ≡ options
  pub places-are : b.places ≡ asked.day.places
  pub lines_are : b.lines ≡ length asked.day.lines
  pub unfolded_is : b.unfolded ≡ unfolded asked.pattern
  pub keeps-are : b.keeps ≡ keeps asked.pattern
  pub lines-of : lines_of rec ≡ asked.day.lines

pub both-counted : (rec pat : List ℕ) (options : Options) (b : Both) → passed b ≡ mapped both_of (ask_both rec pat options) → Counted rec pat options b
both-counted rec pat options b h =
    let (q, e, same) = mapped-passed both_of (ask_both rec pat options) b h in
    let (day, r, f) = and_then-passed (read_record rec) _ q e in
    let (p, s, g) = and_then-passed (read_pattern none_given pat) _ q f in
    record {
      asked = q;
      both = e;
      options-are = sym (ap (λ (x : Asked). x.options) (passed-inj g));
      places-are = ap (λ (x : Both). x.places) same;
      lines_are = ap (λ (x : Both). x.lines) same;
      unfolded_is = ap (λ (x : Both). x.unfolded) same;
      keeps-are = ap (λ (x : Both). x.keeps) same;
      lines-of = ap lines_in r ∙ ap (λ (x : Asked). x.day.lines) (passed-inj g);
    }

-- ---- question 16

-- a size as it was told, and question 16 of it
pub size-refused : (m : ℕ) (o : Option ℕ) (f e : Refusal) → o ≡ size_within m → Err e ≡ ok_or o f → (leb m largest ≡ false) × (e ≡ f)
size-refused m None f e is h = (go (leb m largest) is, cc)
  where
    go : (t : Bool) → None ≡ cond t (Some m) None → t ≡ false
    go true q = absurd (none-some m q)
    go false q = refl
size-refused m (Some n) f e is h = absurd (let z : ◌≡◌ {A = ℕ} 0 1 = cc in omega arith)

pub size-passed : (m : ℕ) (o : Option ℕ) (f : Refusal) (n : ℕ) → o ≡ size_within m → Ok n ≡ ok_or o f → (leb m largest ≡ true) × (n ≡ m) × (n ≤ largest)
size-passed m None f n is h = absurd (let z : ◌≡◌ {A = ℕ} 0 1 = cc in omega arith)
size-passed m (Some k) f n is h =
    let (within, same) = cond_some (leb m largest) m k (sym is) in
    let own : n ≡ k = cc in
    (within, own ∙ sym same, omega (arith, own, same, leb-true m largest within))

-- ---- all questions up to 16

-- the size of what passed, by its counts
module _ {rec pat : List ℕ} {options : Options} {b : Both} (h : Counted rec pat options b) where
  pub counted-size : b.places * suc b.unfolded * suc (length (boats (lines_of rec))) ^ b.keeps ≡ size_of h.asked
  unfolding search_size
  counted-size = cc (h.places-are, h.unfolded_is, h.keeps-are, h.lines-of)

  -- as the code steps to it
  pub stepped-size : (n : ℕ) → n ≡ length (boats (lines_of rec)) → b.places * suc b.unfolded * (n + 1) ^ b.keeps ≡ size_of h.asked
  stepped-size n e = ap (λ (r : ℕ). b.places * suc b.unfolded * r ^ b.keeps) (add-one n ∙ ap suc e) ∙ counted-size

pub sized-refused : (rec pat : List ℕ) (from to : ℕ) (options : Options) (n : ℕ) → ask_both rec pat options ≡ refused n → ask_sized rec pat from to options ≡ refused n
unfolding ask_sized
sized-refused rec pat from to options n e = simp e

module _ {rec pat : List ℕ} {options : Options} {b : Both} (h : Counted rec pat options b) (from to : ℕ) where
  pub sized-from : b.places ≤ from → ask_sized rec pat from to options ≡ refused 15
  unfolding ask_sized
  sized-from past = simp (h.both, le-ltb from h.asked.day.places (omega (arith, h.places-are, past)))

  module _ (f : from < b.places) where
    from_in : ltb from h.asked.day.places ≡ true
    from_in = lt-ltb from h.asked.day.places (omega (arith, h.places-are, f))

    pub sized-to : b.places ≤ to → ask_sized rec pat from to options ≡ refused 15
    unfolding ask_sized
    sized-to past = simp (h.both, from_in, le-ltb to h.asked.day.places (omega (arith, h.places-are, past)))

    module _ (t : to < b.places) where
      to_in : ltb to h.asked.day.places ≡ true
      to_in = lt-ltb to h.asked.day.places (omega (arith, h.places-are, t))

      windows-are : {allowed : Bool} → windows_allowed options.windows ≡ allowed → windows_allowed h.asked.options.windows ≡ allowed
      windows-are e = ap (λ (o : Options). windows_allowed o.windows) h.options-are ∙ e

      pub sized-windows : windows_allowed options.windows ≡ false → ask_sized rec pat from to options ≡ refused 27
      unfolding ask_sized
      sized-windows w = simp (h.both, from_in, to_in, windows-are w)

      module _ (w : windows_allowed options.windows ≡ true) where
        pub sized-above : leb (size_of h.asked) largest ≡ false → ask_sized rec pat from to options ≡ refused 16
        unfolding ask_sized
        sized-above above = simp (h.both, from_in, to_in, windows-are w, above)

        pub sized-all : leb (size_of h.asked) largest ≡ true → ask_sized rec pat from to options ≡ passed h.asked
        unfolding ask_sized
        sized-all within = simp (h.both, from_in, to_in, windows-are w, within)

-- ---- what they told

pub counts-refused : (o : Outcome Asked) (e : Refusal) → CountsTold o (Err e) → o ≡ refused (number e)
counts-refused (refused n) e a = ap refused cc
counts-refused (passed q) e (own, is, counts) = absurd (let z : ◌≡◌ {A = ℕ} 0 1 = cc in omega arith)

-- what passed
pub record Sized (o : Outcome Asked) (c : Counts) : Type 0 where
  pub asked : Asked
  pub is : o ≡ passed asked
  pub counts : CountsOf asked c

pub counts-passed : (o : Outcome Asked) (c : Counts) → CountsTold o (Ok c) → Sized o c
counts-passed (refused n) c a = absurd (not-both (sym a))
counts-passed (passed q) c (own, is, counts) =
    let owns : own ≡ c = cc in
    record { asked = q; is = refl; counts = subst (CountsOf q) owns counts }

-- ---- question 17, by what is needed

module _ (o : Outcome Asked) (needed : Asked → ℕ) (words : ℕ) where
  pub room-refused : (n : ℕ) → o ≡ refused n → and_then o (ask_room needed words) ≡ refused n
  room-refused n e = simp e

  pub room-short : (q : Asked) → o ≡ passed q → words < needed q → and_then o (ask_room needed words) ≡ refused 17
  room-short q e h = simp (e, lt-leb _ _ h)

  pub room-all : (q : Asked) → o ≡ passed q → needed q ≤ words → and_then o (ask_room needed words) ≡ passed q
  room-all q e h = simp (e, le-leb _ _ h)

-- ---- the plan that the counts give

module _ {q : Asked} {c : Counts} (h : CountsOf q c) where
  -- the size by the counts
  counts-size : c.size ≡ c.places * (c.unfolded + 1) * c.radix ^ c.keeps
  unfolding search_size
  counts-size = h.size_is ∙ cc (h.places-are, h.unfolded_is, h.keeps-are, h.radix-is, add-one c.unfolded)

  -- the boats' table has no more words than there are states, and no more than there are boats and one
  pub few-boats : (boat_words c.keeps c.radix ≤ c.size) × (boat_words c.keeps c.radix ≤ 4097)
  few-boats =
      let inside = boats-in-size (c.places * (c.unfolded + 1)) c.radix c.keeps (mul-le-mul {n₁ = 1} {m₁ = 1} h.some-place (omega arith)) (omega (arith, h.radix-is)) in
      (omega (arith, inside, counts-size), omega (arith, boats-in-radix c.radix c.keeps, h.few-boats))

  pub counts-fit : (at area : ℕ) → at ≤ tables → at + boat_words c.keeps c.radix + c.lines + c.lines + 3 * c.size ≤ area → Fitting c.places c.lines c.unfolded c.keeps c.radix c.size at area
  counts-fit at area low room = record {
    some-place = h.some-place;
    few-places = h.few-places;
    few-lines = h.few-lines;
    few-positions = h.few-positions;
    few-keeps = h.few-keeps;
    some-radix = omega (arith, h.radix-is);
    few-boats = h.few-boats;
    size_is = counts-size;
    small = h.small;
    few_words = omega (arith, low, h.few-lines, few-boats.1);
    room = room;
  }

  module _ {plan : Plan} {at : ℕ} (n : (plan.places ≡ c.places) × (plan.lines ≡ c.lines) × (plan.done ≡ c.unfolded) × (plan.keeps ≡ c.keeps) × (plan.radix ≡ c.radix) × (plan.boats ≡ at)) where
    pub counts-planned : Planned q plan
    counts-planned = record {
      places-are = n.0 ∙ h.places-are;
      lines_are = n.1 ∙ h.lines_are;
      done-is = n.2 ∙ h.unfolded_is;
      keeps-are = n.3 ∙ h.keeps-are;
      radix-is = n.4 ∙ h.radix-is;
    }

    pub planned-size : {area : ℕ} → Laid plan area → plan.size ≡ c.size
    planned-size l =
        l.size_is
        ∙ (cc (l.stacks-is, n.0, n.2, n.3, n.4) ∙ sym counts-size)

    -- with three words more for each line the lines by place stand after four stretches
    pub counts-room : {area : ℕ} → Laid plan area → at ≤ tables → need c.size + 3 * c.lines ≤ area → plan.base + 4 * plan.size + table_words plan.places plan.lines ≤ area
    counts-room l low enough = omega (arith, planned-size l, l.codes_at, l.words-at, l.base-at, boats-in-radix plan.radix plan.keeps, l.few-boats, l.few-places, n.1, n.5, low, enough)

-- ---- lines and size alone

-- what is told of what passed is told after the question
ask-last : (o : Outcome Asked) (t : Asked → Bool) (f : Asked → ℕ) → and_then o (λ q. ask (t q) 16 (passed (f q))) ≡ and_then (and_then o (λ q. ask (t q) 16 (passed q))) (λ q. passed (f q))
ask-last (refused n) t f = refl
ask-last (passed q) t f = go (t q)
  where
    go : (b : Bool) → ask b 16 (passed (f q)) ≡ and_then (ask b 16 (passed q)) (λ q. passed (f q))
    go true = refl
    go false = refl

module _ (rec pat : List ℕ) where
  pub weight-refused : (n : ℕ) → ask_both rec pat plain ≡ refused n → ask_weight rec pat ≡ refused n
  unfolding ask_weight
  weight-refused n e = simp e

  pub weight-above : (q : Asked) → ask_both rec pat plain ≡ passed q → leb (size_of q) largest ≡ false → ask_weight rec pat ≡ refused 16
  unfolding ask_weight
  weight-above q e h = simp (e, h)

  pub weight_is : (q : Asked) → ask_both rec pat plain ≡ passed q → leb (size_of q) largest ≡ true → ask_weight rec pat ≡ passed q
  unfolding ask_weight
  weight_is q e h = simp (e, h)

  -- the words that are needed, by what passed
  module _ (n : ℕ) (e : ask_weight rec pat ≡ refused n) where
    pub words-refused : words_of rec pat ≡ refused n
    unfolding words_of ask_weight
    words-refused = ask-last (ask_both rec pat plain) (λ q. leb (size_of q) largest) (λ q. need (size_of q)) ∙ ap (λ o. and_then o (λ q. passed (need (size_of q)))) e

    pub search-words-refused : search_words_of rec pat ≡ refused n
    unfolding search_words_of ask_weight
    search-words-refused = ask-last (ask_both rec pat plain) (λ q. leb (size_of q) largest) search_need ∙ ap (λ o. and_then o (λ q. passed (search_need q))) e

  module _ (q : Asked) (e : ask_weight rec pat ≡ passed q) where
    pub words_are : words_of rec pat ≡ passed (need (size_of q))
    unfolding words_of ask_weight
    words_are = ask-last (ask_both rec pat plain) (λ q. leb (size_of q) largest) (λ q. need (size_of q)) ∙ ap (λ o. and_then o (λ q. passed (need (size_of q)))) e

    pub search-words-are : search_words_of rec pat ≡ passed (search_need q)
    unfolding search_words_of ask_weight
    search-words-are = ask-last (ask_both rec pat plain) (λ q. leb (size_of q) largest) search_need ∙ ap (λ o. and_then o (λ q. passed (search_need q))) e
