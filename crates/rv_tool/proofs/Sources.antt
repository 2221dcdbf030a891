-- What a source of events has left, and what comes next of it.
use Rattle.std.proofs.Common.{◌≡◌, ℕ, suc, ◌+◌, ◌<◌, ◌≤◌, ◌^◌, List, [], ◌∷◌, length, Option, Some, None, Result, Ok, Err, refl, sym, ap, ◌∙◌, arith}
use Rattle.std.proofs.lemmas.List.Splits.{length-slice_split}
use Rattle.std.proofs.lemmas.List.Sums.{count_by-le-length}
use Rattle.hy_base.specs.declared.reading.TheConstants.{BYTES_LIMIT}
use Rattle.hy_text.specs.Bytes.{is_line_feed}
use Rattle.hy_text.specs.Lines.{lines_of}
use denote.Ref.{Bor}
use Rattle.hy_finite.specs.declared.event.Event.TheVariants.{Whole}
use Rattle.hy_finite.specs.declared.event.Placed.{Placed}
use Rattle.hy_finite.specs.declared.lines.EventLines.{EventLines}
use Rattle.hy_text.specs.declared.line_error.LineError.{LineError}
use Rattle.hy_text.specs.declared.line_error.LineError.TheVariants.{Memory}
use Rattle.hy_finite.specs.NextEvents.{IsNextAnswer}
use Rattle.hy_finite.specs.Remaining.{remaining}
use Rattle.hy_finite.specs.Traces.{Trace}
use Rattle.hy_finite.proofs.Collecting.{next-more, next-fewer, next-good, next-checked, next-no_fault, silent-says}
use Rattle.hy_finite.proofs.OneAnswer.{good-say}
use Rattle.rv_tool.specs.Monitoring.{whole_traces}
use Rattle.rv_tool.specs.Watching.{AreLeft, AreNumbered, AreGood, AreRead, IsNext}
use Rattle.rv_tool.specs.declared.source.Source.{Source}
use Rattle.rv_tool.specs.declared.source.Source.TheVariants.{Lines, Made}

-- Some events are left.
pub some-left : (source : Source) → AreGood source → (events : List Placed) × AreLeft source events
some-left (Lines lines names) good = good-say names.now (remaining lines).first (remaining lines).lines good
some-left (Made first traces) good = (whole_traces first traces.now, refl)

-- A file that is not too long has few lines.
pub few-lines : (bytes : List ℕ) → length bytes ≤ BYTES_LIMIT → length (lines_of bytes) < 2 ^ 31
few-lines bytes short =
    omega (arith, short, length-slice_split is_line_feed bytes, count_by-le-length is_line_feed bytes)

pub next-of-lines : (old new : EventLines) (names : Bor (List (List ℕ))) (next : Option Placed)
    → IsNextAnswer names.now (remaining old) (remaining new) (Ok next) → IsNext (Lines old names) (Lines new names) next
next-of-lines old new names None (silent, none) = silent-says names.now (remaining old).first (remaining old).lines silent
next-of-lines old new names (Some placed) found = record {
  before = λ events left. next-more names.now (remaining old) (remaining new) placed events found left;
  fewer = next-fewer names.now (remaining old) (remaining new) placed found;
  numbered = tt;
  good = next-good names.now (remaining old) (remaining new) placed found;
}

pub lines-read : (old new : EventLines) (names : Bor (List (List ℕ))) (next : Option Placed)
    → IsNextAnswer names.now (remaining old) (remaining new) (Ok next) → AreRead (Lines old names) (Lines new names)
lines-read old new names next = next-checked names.now (remaining old) (remaining new) next

-- Where all lines are taken only memory is wanting.
pub lines-no_fault : (old new : EventLines) (names : Bor (List (List ℕ))) (fault : LineError)
    → IsNextAnswer names.now (remaining old) (remaining new) (Err fault) → AreGood (Lines old names) → fault ≡ Memory
lines-no_fault old new names fault found good = next-no_fault names.now (remaining old) (remaining new) fault good found

pub next-of-traces : (first : ℕ) (traces rest : Bor (List Trace)) (t : Trace) → traces.now ≡ t ∷ rest.now → AreNumbered (Made first traces)
    → IsNext (Made first traces) (Made (first + 1) rest) (Some (record { line = first; event = Whole t }))
next-of-traces first traces rest t e few =
    let long = ap length e in
    let one_more : first + 1 ≡ suc first = omega arith in
    record {
      before = λ events left.
          ap (λ es. record { line = first; event = Whole t } ∷ es) (left ∙ ap (λ k. whole_traces k rest.now) one_more)
          ∙ ap (whole_traces first) (sym e);
      fewer = omega (arith, long);
      numbered = omega (arith, long, few);
      good = λ e. e;
    }

pub no-traces : (first : ℕ) (traces : Bor (List Trace)) → traces.now ≡ [] → AreLeft (Made first traces) []
no-traces first traces e = ap (whole_traces first) (sym e)

-- A line that is taken is not at fault.
pub fault-untaken : (found : Result (Unit {0}) LineError) (fault : LineError) → found ≡ Err fault → found ≡ Ok tt → ⊥
fault-untaken found fault e f = cc
