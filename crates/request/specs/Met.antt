-- The lines of a record as a search meets them (`met_by`): what stays of them, and so what is loaded.
-- Claimed: `met-long` and `met_at` (line by line), `met-boats`, `met-codes` (no boat and no number changes), `met-loaded`. Assumes nothing.
use Rattle.std.specs.Prelude.{◌≡◌, refl, cond, List, ◌++◌, map, ℕ, zero, suc, ◌+◌, ◌<◌, length, get_or}
use Rattle.std.proofs.Common.{sym, ap, ◌∙◌, arith}
use Rattle.meaning.specs.Record.{Line, boats}
use Rattle.meaning.specs.Writing.{line_at}
use Rattle.meaning.specs.Windows.{Windows, inside}
use Rattle.meaning.specs.Chain.{struck}
use Rattle.pattern.proofs.Masked.{masked-boats}
use Rattle.pattern.proofs.Struck.{masked-length, masked-at}
use Rattle.boats.specs.Codes.{codes}
use Rattle.boats.proofs.Codes.{map_at}
use Rattle.boats.proofs.Alike.{boats-alike, codes-alike, table-alike}
use Rattle.request.specs.Layout.{line_word, word_met, met_by, boats_loaded, loaded_of}

module _ (w : Windows) (lines : List Line) where
  pub met-long : length (met_by w lines) ≡ length lines
  met-long = masked-length (λ i. inside w (line_at lines i)) 0 lines

  pub met_at : (i : ℕ) → i < length lines → line_at (met_by w lines) i ≡ cond (inside w (line_at lines i)) (line_at lines i) (struck (line_at lines i))
  met_at i less =
      let here : 0 + i ≡ i = omega arith in
      masked-at (λ i. inside w (line_at lines i)) 0 lines i less ∙ ap (λ n. cond (inside w (line_at lines n)) (line_at lines i) (struck (line_at lines i))) here

  -- the word of line i
  pub met-word : (i : ℕ) → i < length lines → word_met w (line_at lines i) ≡ get_or (map line_word (met_by w lines)) i 0
  met-word i less = ap line_word (sym (met_at i less)) ∙ sym (map_at line_word (met_by w lines) i (omega (arith, met-long, less)))

  -- ---- boats

  pub met-boats : boats (met_by w lines) ≡ boats lines
  met-boats = boats-alike (met_by w lines) lines (masked-boats (λ i. inside w (line_at lines i)) 0 lines)

  pub met-codes : codes (met_by w lines) ≡ codes lines
  met-codes = codes-alike (met_by w lines) lines (masked-boats (λ i. inside w (line_at lines i)) 0 lines)

  met-table : (keeps : ℕ) → boats_loaded keeps (met_by w lines) ≡ boats_loaded keeps lines
  met-table zero = refl
  met-table (suc keeps) = table-alike (met_by w lines) lines (masked-boats (λ i. inside w (line_at lines i)) 0 lines)

  -- what is loaded is that of the lines but for the lines' words
  pub met-loaded : (keeps : ℕ) → loaded_of keeps (met_by w lines) ≡ boats_loaded keeps lines ++ (codes lines ++ map line_word (met_by w lines))
  met-loaded keeps = λ i. met-table keeps i ++ (met-codes i ++ map line_word (met_by w lines))
