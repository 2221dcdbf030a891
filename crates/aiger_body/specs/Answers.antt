-- What the passes of the reader answer.
use Rattle.std.specs.Prelude.{◌≡◌, ℕ, ◌+◌, ◌<◌, ◌≤◌, ◌^◌, true, List, length, Option, Some, None, Result, Ok, Err, IsTrue}
use Rattle.hy_base.specs.declared.limit.Limit.{Limit}
use Rattle.hy_base.specs.declared.limit.Kind.TheVariants.{Variables}
use Rattle.aiger_body.specs.declared.error.AigerError.{AigerError}
use Rattle.aiger_body.specs.declared.error.AigerError.TheVariants.{Bad, Limit as PastLimit, Memory}
use Rattle.aig_kind.specs.declared.kind.AigKind.TheVariants.{Header as HeaderFault}
use Rattle.aiger_body.specs.declared.header.Header.{Header}
use Rattle.aiger_body.specs.Texts.{is_ended, is_feed, line_text}
use Rattle.aiger_body.specs.Files.{header_of, is_header, line_start}
use Rattle.aiger_body.specs.Outcomes.{Outcome, Refusal, refused, limit, fault, of_header, first_line, outcome}

-- at most 1,048,576 variables
abbrev pub variables_limit : Limit
variables_limit = record { kind = Variables; limit = 1048576 }

-- The error says what is found at fault; memory may run out at any time.
abbrev pub Tells : Option Refusal → AigerError → Type 0
Tells found (Bad kind byte) = found ≡ Some (fault kind byte)
Tells found (PastLimit l) = (found ≡ Some limit) × (l ≡ variables_limit)
Tells found Memory = Unit {0}

abbrev pub Refuses : Outcome → AigerError → Type 0
Refuses said (Bad kind byte) = said ≡ refused (fault kind byte)
Refuses said (PastLimit l) = (said ≡ refused limit) × (l ≡ variables_limit)
Refuses said Memory = Unit {0}

-- Each number of the header has at most ten digits.
pub record IsShort (h : Header) : Type 0 where
  pub top : h.top < 10 ^ 10
  pub inputs : h.inputs < 10 ^ 10
  pub latches : h.latches < 10 ^ 10
  pub outputs : h.outputs < 10 ^ 10
  pub ands : h.ands < 10 ^ 10
  pub bads : h.bads < 10 ^ 10
  pub constraints : h.constraints < 10 ^ 10
  pub justices : h.justices < 10 ^ 10
  pub fairs : h.fairs < 10 ^ 10

-- Its counts and its variables are within the limit.
pub record Fits (h : Header) : Type 0 where
  pub short : IsShort h
  pub top : h.top ≤ 1048576
  pub sum : h.inputs + h.latches + h.ands ≤ h.top

abbrev pub IsLargeEnough : Header → Type 0
IsLargeEnough h = IsTrue (is_header h)

-- what is wrong with the header that is there or not
abbrev pub of_found : Option Header → Option Refusal
of_found None = Some (fault HeaderFault 0)
of_found (Some h) = of_header h

abbrev pub IsJudged : Option Header → Result Header AigerError → Type 0
IsJudged found (Ok h) = (found ≡ Some h) × (of_header h ≡ None) × IsShort h
IsJudged found (Err e) = Tells (of_found found) e

-- This is the header, it is right, and the lines begin here.
pub record IsHeaderRead (bytes : List ℕ) (h : Header) (at : ℕ) : Type 0 where
  pub ended : is_ended is_feed (first_line bytes) ≡ true
  pub is : header_of (line_text (first_line bytes)) ≡ Some h
  pub clear : of_header h ≡ None
  pub fits : Fits h
  pub place : at ≡ line_start bytes 0
  pub within : at ≤ length bytes

abbrev pub IsHeaderAnswer : List ℕ → Result (Header × ℕ) AigerError → Type 0
IsHeaderAnswer bytes (Ok found) = IsHeaderRead bytes found.0 found.1
IsHeaderAnswer bytes (Err e) = Refuses (outcome bytes) e
