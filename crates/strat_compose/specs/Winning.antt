-- What the lassos of a driven net say: whether they fulfil the driven formula, and what its parts do.
use Rattle.std.specs.Prelude.{ℕ}
use Rattle.hy_formula.specs.Temporal.{SatisfiesAt, endless}
use Rattle.hy_formula.specs.Trees.{Tree}
use Rattle.aig_net.specs.Nets.{Net}
use Rattle.aig_net.specs.Executions.{Lasso, Word, gone}
use Rattle.hy_formula.specs.Atoms.{atoms_of}
use Rattle.strat_compose.specs.Completions.{AreRight, shown_words}
use Rattle.strat_compose.specs.Driving.{driven, existential_of, parts_of, player_of, universal_of}
use Rattle.strat_compose.specs.Formulas.{driven_body, output_words}
use Rattle.strat_compose.specs.Groups.{part}

-- the driven net of a body
abbrev pub driven_for : Net → Net → ℕ → ℕ → (ℕ → ℕ) → Tree → Net
driven_for net strategy m e signal body =
    driven net strategy (parts_of net strategy m e) signal (atoms_of body)

-- The driven formula holds of a lasso of the driven net.
abbrev pub Fulfils : Net → Net → ℕ → ℕ → (ℕ → ℕ) → Tree → Lasso → Type 0
Fulfils net strategy m e signal body lasso =
    SatisfiesAt endless (output_words net strategy (parts_of net strategy m e) signal
    (atoms_of body) (gone lasso)) (driven_body net e body) 0

-- ---- the parts of a word of the driven net

abbrev pub universal_words : Net → Net → ℕ → ℕ → Word → ℕ → Word
universal_words net strategy m e word c = part net (universal_of net strategy m e) c word

abbrev pub player_word : Net → Net → ℕ → ℕ → Word → Word
player_word net strategy m e word = part strategy (player_of net strategy m e) 0 word

abbrev pub existential_words : Net → Net → ℕ → ℕ → Word → ℕ → Word
existential_words net strategy m e word d = part net (existential_of net strategy m e) d word

-- The completion is right, and the body holds of all words.
abbrev pub Succeeds : Net → ℕ → ℕ → (ℕ → ℕ) → Tree → (ℕ → Word) → (ℕ → Word) → Type 0
Succeeds net m e signal body given made =
    AreRight net e made × SatisfiesAt endless (shown_words signal m given made) body 0
