-- The laws, as their contracts state them.
use Rattle.std.proofs.Common.{ℕ, ◌↔◌, List, Bool}
use Rattle.hy_read.specs.Tokens.{Token}
use Rattle.hy_read.specs.Grammar.{IsText}
use Rattle.hy_read.specs.Places.{IsAllowed}
use Rattle.hy_read.specs.Results.{Result, Reads}
use Rattle.hy_read.proofs.Running.{text-runs}
use Rattle.hy_read.proofs.Deriving.{allowed-text}
use Rattle.hy_read.proofs.Viable.{viable-extends, longest-one, longest-once, stuck-faults, ended-faults}
use Rattle.hy_read.proofs.Parens.{parens-counted}
use Rattle.hy_read.proofs.Heights.{same-height}
use Rattle.hy_read.proofs.Spanning.{answer-there, answer-once}
use Rattle.hy_read.proofs.Answering.{one-list, answered, answered-once}

pub allowed-derived : (many : Bool) (tokens : List Token) → IsAllowed many tokens ↔ IsText many tokens
allowed-derived many tokens = (allowed-text many tokens, text-runs many tokens)

pub answers : (many : Bool) (limit : ℕ) (old : List (List ℕ)) (tokens : List Token) → (r : Result) × Reads many limit old tokens r
answers many limit old tokens = answered many limit old tokens

pub ruleset laws = (parens-counted, same-height, stuck-faults, ended-faults, answer-there, answer-once, allowed-derived, viable-extends, longest-one, longest-once, one-list, answers, answered-once)
