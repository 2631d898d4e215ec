-- The replies of move and finish, by the area at entry: where no search can be taken out none was left (`move-none`, `finish-none`), and where one is
-- taken out its first word is not 0 (`move_some`, `finish-some`). Assumes nothing.
use mathlib.Core.Path.{◌≡◌, refl, sym, ap, ◌∙◌, subst, subst₂}
use mathlib.Core.Bool.{Bool, true, false, cond}
use mathlib.Core.List.{List}
use Prim.Native.Nat.{ℕ, ◌+◌, ◌<◌}
use native.Mathlib.Omega.{arith}
use lib.Dec.{leb}
use lib.ListN.{length, replicate, length-replicate}
use borrow.Author.Tests.{leb-true, leb-false}
use Rattle.meaning.specs.Outcome.{value, refusal}
use Rattle.meaning.specs.Pattern.{none_given}
use Rattle.meaning.specs.Windows.{Options}
use Rattle.meaning.specs.Request.{Asked}
use Rattle.pattern.specs.Kinds.{read-kinds}
use Rattle.record.specs.Outcomes.{passed-inj}
use Rattle.search.specs.Asked.{answer, met_asked}
use Rattle.finder.specs.Promise.{settled, Said, found, refusal as refusing, said, out_after, Answers, Demand3}
use Rattle.finder.proofs.Demand.{settled-right}
use Rattle.finder.specs.Searching.{told_by, told-by}
use Rattle.holding.specs.Holding.{Sound, bytes_in}
use Rattle.holding.specs.declared.SearchState.{SearchState}
use Rattle.searching.specs.Promise.{held_in, Left, Moving, Finishing, FinishHarmless}
use Rattle.std.specs.Prelude.{Some, None, Err, ok_or}
use Rattle.refusals.specs.declared.Refusal.{Refusal}
use Rattle.refusals.specs.declared.Refusal.TheVariants as Is
use Rattle.std.specs.Prelude.{Option as Maybe}
use Rattle.searching.specs.Searching.{MovedIn, Short, Kept, FinishedIn}
use Rattle.searching.proofs.Bridge.{left-parts, left-within, left-room, left-bytes, left-sound}

-- ---- no search was left

-- no begin and its moves left these words
abbrev pub NoneLeft : List ℕ → Type 0
NoneLeft w = (rec pat : List ℕ) (from to : ℕ) (options : Options) (q : Asked) (k : ℕ) → Left rec pat from to options q k w → ⊥

-- they are fewer than those in front
pub none-short : (w : List ℕ) → length w < 209 → NoneLeft w
none-short w l rec pat from to options q k left = omega (arith, l, left-room left)

-- none can be taken out
pub none-sound : (w pat : List ℕ) → pat ≡ bytes_in w → ((s : SearchState) → Sound w pat s → ⊥) → NoneLeft w
none-sound w pat is never rec pat' from to options q k left =
    let (s, sound) = left-sound left in
    never s (subst (λ (b : List ℕ). Sound w b s) (sym (is ∙ left-bytes left)) sound)

-- none was taken out, and that is the refusal
pub none-taken : {A : Type 0} (o : Maybe A) (e : Refusal) → ok_or o Is.NoSearch ≡ Err e → (o ≡ None) × (e ≡ Is.NoSearch)
none-taken None e is = (refl, cc)
none-taken (Some a) e is = absurd cc

-- ---- move

pub move-none : (amount : ℕ) (w : List ℕ) → NoneLeft w → Moving amount w (refusal 26 0) w
move-none amount w never = record {
  begun = λ rec pat from to options q k left. absurd (never rec pat from to options q k left);
  none-begun = λ z. (refl, refl);
  altered = (refl, (refl, refl, refl));
}

pub move_some : (amount : ℕ) (w pat : List ℕ) → pat ≡ bytes_in w → (s : SearchState) → Sound w pat s → (r : ℕ) (v : List ℕ) → MovedIn s pat amount w r v → Moving amount w (value r) v
move_some amount w pat is s sound r v moved = record {
  begun = λ rec pat' from to options q k left.
      let same : pat ≡ pat' = is ∙ left-bytes left in
      let (count, area) = moved.begun rec from to options q k (subst (λ (b : List ℕ). Left rec b from to options q k w) (sym same) left) in
      (ap value count, subst (λ (b : List ℕ). v ≡ held_in (met_asked q) b from to (length w) (k + amount)) same area);
  none-begun = λ z. absurd (omega (arith, sound.range.counts.some-radix, z));
  altered = (moved.long, (moved.few, moved.small));
}

-- ---- finish

pub finish-none : (w out : List ℕ) → NoneLeft w → Finishing w out (refusing 26 0) w out
finish-none w out never = record {
  begun = λ rec pat from to options q k left. absurd (never rec pat from to options q k left);
  none-begun = λ z. (refl, refl, refl);
  altered = (refl, refl, (refl, omega arith, (λ e. (refl, refl)), λ other. absurd (other refl)));
}

-- the reply by the length is harmless, the area being cleared
harmless : (r : Maybe ℕ) (w v out after : List ℕ) → v ≡ replicate (length w) 0 → Short r → Kept r out after → FinishHarmless (told_by r (length out)) w v out after
harmless None w v out after cleared short kept = (kept, cleared)
harmless (Some n) w v out after cleared short kept = go (leb n (length out)) refl
  where
    go : (t : Bool) → leb n (length out) ≡ t → FinishHarmless (cond t (found n) (refusing 19 n)) w v out after
    go true e = (leb-true n (length out) e, short, cleared)
    go false e =
        let more : length out < n = leb-false n (length out) e in
        (kept more, short, (λ z. absurd (omega (arith, z))), λ other. (refl, more, cleared))

pub finish-some : (w out pat : List ℕ) → pat ≡ bytes_in w → (s : SearchState) → Sound w pat s → (r : Maybe ℕ) (after : List ℕ) → FinishedIn s pat w out r after
    → (v : List ℕ) → v ≡ replicate (length w) 0 → (reply : Said) → reply ≡ told_by r (length out) → Finishing w out reply v after
finish-some w out pat is s sound r after done v cleared reply told = record {
  begun = λ rec pat' from to options q k left.
      let same : pat ≡ pat' = is ∙ left-bytes left in
      let searched = done.begun rec from to options q k (subst (λ (b : List ℕ). Left rec b from to options q k w) (sym same) left) in
      let o = answer q from to in
      let says : reply ≡ said (settled (length out) o) = told ∙ (ap (λ x. told_by x (length out)) searched.length-is ∙ sym (told-by o (length out))) in
      (says, cleared, searched.after_is, demanded rec pat' from to options q k left says searched.after_is);
  none-begun = λ z. absurd (omega (arith, sound.range.counts.some-radix, z));
  altered = (ap length cleared ∙ length-replicate {A = ℕ} (length w) 0, done.long, subst (λ (x : Said). FinishHarmless x w v out after) (sym told) (harmless r w v out after cleared done.short done.kept));
}
  where
    -- demand 3, of the record and the pattern that were read
    demanded : (rec pat' : List ℕ) (from to : ℕ) (options : Options) (q : Asked) (k : ℕ) → Left rec pat' from to options q k w
        → let o = answer q from to in
        reply ≡ said (settled (length out) o) → after ≡ out_after (settled (length out) o) out → Demand3 rec pat' from to options (length out) reply after
    demanded rec pat' from to options q k left says written day p read tree =
        let x = left-parts left in
        let right = settled-right q (read-kinds none_given pat' q.pattern x.pattern-read) from to (left-within left) x.from_low x.to_low (length out) out in
        let same-day : q.day ≡ day = passed-inj (sym x.day-read ∙ read) in
        let same-tree : q.pattern ≡ p = passed-inj (sym x.pattern-read ∙ tree) in
        let same : q ≡ record { day = day; pattern = p; options = options } = λ i. record { day = same-day i; pattern = same-tree i; options = x.options-are i } in
        subst (λ (z : Asked). Answers z from to (length out) reply after) same
        (subst₂ (λ (y : Said) (z : List ℕ). Answers q from to (length out) y z) (sym says) (sym written) right)
