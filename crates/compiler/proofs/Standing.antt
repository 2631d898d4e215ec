-- Entries that say nodes: one is written, more after it, and each is found at its position. Assumes nothing.
use mathlib.Core.Path.{◌≡◌, refl, sym, ◌∙◌, ap, subst, subst₂}
use mathlib.Core.List.{List, [], ◌∷◌, ◌++◌}
use Prim.Native.Nat.{ℕ, zero, suc, ◌+◌, ◌<◌, ◌≤◌}
use native.Mathlib.Nat.{add-zero, zero-add}
use native.Mathlib.Omega.{arith}
use native.Mathlib.Decide.{dec_lt}
use lib.ListN.{length, get_or}
use Rattle.meaning.specs.Pattern.{Pattern, unfolded}
use Rattle.automaton.specs.Automaton.{Node, silent, nodes, node_at}
use Rattle.automaton.proofs.Placed.{nodes-length, end-silent}
use Rattle.positions.specs.Program as Program
use Rattle.compiler.specs.Compiling.{entry_at, Says, Stand, Put, Written}
use Rattle.compiler.specs.declared.Entry.{Entry}

-- ---- one entry

pub put-entry : {i : ℕ} {x : Entry} {before now : List ℕ} → Program.Put i x.row x.follow before now → Put i x before now
put-entry p = record {
  here = λ j. record { row = p.row j; follow = p.mask_is j };
  elsewhere = λ k ne. λ j. record { row = p.rows k ne j; follow = p.masks k ne j };
}

-- ---- entries in a row

stand-append : (ns ms : List Node) (a : List ℕ) (b : ℕ) → Stand a b ns → Stand a (b + length ns) ms → Stand a b (ns ++ ms)
stand-append [] ms a b h k = subst (λ i. Stand a i ms) (add-zero b) k
stand-append (n ∷ ns) ms a b h k =
    let far : b + suc (length ns) ≡ suc b + length ns = omega arith in
    (h.0, stand-append ns ms a (suc b) h.1 (subst (λ i. Stand a i ms) far k))

-- they stay where only later entries are written
stand-kept : (ns : List Node) (before now : List ℕ) (b : ℕ) → ((k : ℕ) → k < b + length ns → entry_at now k ≡ entry_at before k) → Stand before b ns → Stand now b ns
stand-kept [] before now b e h = tt
stand-kept (n ∷ ns) before now b e h =
    (subst (λ x. Says x n) (sym (e b (omega arith))) h.0, stand-kept ns before now (suc b) (λ k l. e k (omega (arith, l))) h.1)

stand-at : (ns : List Node) (a : List ℕ) (b j : ℕ) → j < length ns → Stand a b ns → Says (entry_at a (b + j)) (get_or ns j silent)
stand-at [] a b j l h = absurd (omega (arith, l))
stand-at (n ∷ ns) a b zero l h = subst (λ i. Says (entry_at a i) n) (sym (add-zero b)) h.0
stand-at (n ∷ ns) a b (suc j) l h =
    let far : suc b + j ≡ b + suc j = omega arith in
    subst (λ i. Says (entry_at a i) (get_or ns j silent)) far (stand-at ns a (suc b) j (omega (arith, l)) h.1)

-- ---- what is written

-- one entry, and the nodes after it
pub written_then : {b : ℕ} {x : Entry} {n : Node} {ns : List Node} {before mid now : List ℕ}
    → Put b x before mid → Says x n → Written (suc b) ns mid now → Written b (n ∷ ns) before now
written_then {b} {n = n} p s w = record {
  nodes = (subst (λ y. Says y n) (sym (w.earlier b (omega arith) ∙ p.here)) s, w.nodes);
  earlier = λ k l. w.earlier k (omega (arith, l)) ∙ p.elsewhere k (λ e. omega (arith, l, e));
}

pub written_none : {b : ℕ} {now : List ℕ} → Written b [] now now
written_none = record { nodes = tt; earlier = λ k l. refl }

-- two lists, the second after the first
pub written_both : {b m : ℕ} (ns ms : List Node) {before mid now : List ℕ}
    → length ns ≡ m → Written b ns before mid → Written (b + m) ms mid now → Written b (ns ++ ms) before now
written_both {b} {m} ns ms {mid = mid} {now = now} e v w = record {
  nodes =
      stand-append ns ms now b
      (stand-kept ns mid now b (λ k l. w.earlier k (omega (arith, l, e))) v.nodes)
      (subst (λ i. Stand now (b + i) ms) (sym e) w.nodes);
  earlier = λ k l. w.earlier k (omega (arith, l)) ∙ v.earlier k l;
}

-- ---- a whole automaton and its end

module _ (p : Pattern) {x : Entry} {before mid now : List ℕ} where
  pub whole_says : Written 0 (nodes p []) before mid → Put (unfolded p) x mid now → Says x silent
      → (k : ℕ) → k ≤ unfolded p → Says (entry_at now k) (node_at (nodes p []) k)
  whole_says w e s k l = go (dec_lt k (unfolded p))
    where
      go : Dec (k < unfolded p) → Says (entry_at now k) (node_at (nodes p []) k)
      go (yes h) =
          subst (λ y. Says y (node_at (nodes p []) k)) (sym (e.elsewhere k (λ z. omega (arith, h, z))))
          (subst (λ i. Says (entry_at mid i) (node_at (nodes p []) k)) (zero-add k) (stand-at (nodes p []) mid 0 k (omega (arith, h, nodes-length p [])) w.nodes))
      go (no h) =
          let last : k ≡ unfolded p = omega arith in
          subst₂ Says (sym (ap (entry_at now) last ∙ e.here)) (sym (end-silent p [] k (omega arith))) s
