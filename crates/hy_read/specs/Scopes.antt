-- What a pass over the tokens of a text knows of its variables.
use Rattle.std.specs.Prelude.{◌≡◌, ℕ, ◌+◌, List, [], ◌++◌, length, drop, map, Option, Some, None}
use Rattle.std.specs.Option.{option_map}
use Rattle.hy_read.specs.Tokens.{Token}
use Rattle.hy_read.specs.Scanning.{Span}
use Rattle.hy_read.specs.Results.{unbound_at}
use Rattle.hy_read.specs.Answers.{first_of, tokens_of}
use Rattle.hy_read.specs.declared.scope.Scope.{Scope}

-- These variables are bound behind the tokens. Either no atom so far is unbound, or the first that is has this byte.
abbrev pub Binds : List Span → List (List ℕ) → Option ℕ → Type 0
Binds front variables None = (rest : List Token) →
    unbound_at [] (tokens_of front ++ rest) ≡ option_map (λ k. length front + k) (unbound_at variables rest)
Binds front variables (Some byte) =
    (k : ℕ) × ((rest : List Token) → unbound_at [] (tokens_of front ++ rest) ≡ Some k)
    × ((bytes : List ℕ) (more : List Span) → first_of bytes (drop k (front ++ more)) ≡ byte)

abbrev pub variables_of : Scope → List (List ℕ)
variables_of s = map (λ v. v.now) s.variables.items

abbrev pub IsScoped : List Span → Scope → Type 0
IsScoped front s = Binds front (variables_of s) s.unbound
