-- What the first pass over a text answers.
use Rattle.std.specs.Prelude.{◌≡◌, ℕ, zero, List, [], Some, None, length, Bool, Result, Ok, Err}
use Rattle.hy_read.specs.declared.counts.Counts.{Counts}
use Rattle.hy_read.specs.declared.error.ReadError.{ReadError}
use Rattle.hy_read.specs.declared.error.ReadError.TheVariants.{Syntax, Unbound, Limit, Memory}
use Rattle.hy_read.specs.declared.scope.Scope.{Scope}
use Rattle.hy_read.specs.declared.table.Stage.{Stage}
use Rattle.hy_read.specs.Answers.{faulty, free, Answers, tokens_of}
use Rattle.hy_read.specs.Counting.{most_quantified, semicolons, IsCounted}
use Rattle.hy_read.specs.Grammar.{IsText}
use Rattle.hy_read.specs.Moves.{place_of}
use Rattle.hy_read.specs.Places.{start, place_after}
use Rattle.hy_read.specs.Results.{most_open, unbound_at}
use Rattle.hy_read.specs.Scanning.{Span, Spans}
use Rattle.hy_read.specs.Scopes.{IsScoped}

-- The bytes are a text of the grammar without an unbound atom, and these are its counts.
pub record IsSound (many : Bool) (bytes : List ℕ) (c : Counts) : Type 0 where
  pub spans : List Span
  pub split : Spans zero bytes spans
  pub text : IsText many (tokens_of spans)
  pub bound : unbound_at [] (tokens_of spans) ≡ None
  pub ends : c.semicolons ≡ semicolons zero (tokens_of spans)
  pub words : c.most_quantifiers ≡ most_quantified zero (tokens_of spans)
  pub opens : c.most_parens ≡ most_open zero (tokens_of spans)

abbrev pub IsSurveyed : Bool → ℕ → List (List ℕ) → List ℕ → Result Counts ReadError → Type 0
IsSurveyed many limit old bytes (Ok c) = IsSound many bytes c
IsSurveyed many limit old bytes (Err (Syntax token byte)) = Answers many limit old bytes (faulty token byte)
IsSurveyed many limit old bytes (Err (Unbound byte)) = Answers many limit old bytes (free byte)
IsSurveyed many limit old bytes (Err (Limit l)) = ⊥
IsSurveyed many limit old bytes (Err Memory) = Unit {0}

-- What is known behind these tokens.
pub record IsPassed (many : Bool) (front : List Span) (tokens : ℕ) (stage : Stage) (c : Counts) (s : Scope) : Type 0 where
  pub count : tokens ≡ length front
  pub here : place_after many start (tokens_of front) ≡ Some (place_of stage c.parens)
  pub counted : IsCounted (tokens_of front) c
  pub scoped : IsScoped front s
