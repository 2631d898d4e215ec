-- What goes with a question, as callers give it: the code's struct (`options_shown`), and for C, Rust and Python a list of words (`options_of`).
use Rattle.std.specs.Prelude.{cond, List, [], ◌∷◌, map, ℕ, zero, suc, ◌+◌, ◌*◌, leb, length, get_or}
use Rattle.meaning.specs.Windows.{Windows, Options}
use Rattle.windows.specs.declared.Window.{Window}
use Rattle.windows.specs.declared.Options.{Options as OptionsStruct}

abbrev pub windows_in : List Window → Windows
windows_in ws = record { opens = map (λ (w : Window). w.opens) ws; closes = map (λ (w : Window). w.closes) ws }

abbrev pub options_shown : OptionsStruct → Options
options_shown o = record { windows = windows_in o.windows }

-- ---- a list of words: the opening and the closing second of the kinds 1 to 15 in turn

-- of the kind after k others; a kind without both its words has the whole day
abbrev pub open_of : List ℕ → ℕ → ℕ
open_of words k = cond (leb (2 * k + 2) (length words)) (get_or words (2 * k) 0) 0

abbrev pub close_of : List ℕ → ℕ → ℕ
close_of words k = cond (leb (2 * k + 2) (length words)) (get_or words (2 * k + 1) 0) 86400

-- of n kinds from that one on
unfoldable pub each_of : (ℕ → ℕ) → ℕ → ℕ → List ℕ
each_of f k zero = []
each_of f k (suc n) = f k ∷ each_of f (suc k) n

-- further words are not read
abbrev pub options_of : List ℕ → Options
options_of words = record { windows = record { opens = each_of (open_of words) 0 15; closes = each_of (close_of words) 0 15 } }
