-- Lines of runs and their traces, one after another.
use Rattle.std.proofs.Common.{◌≡◌, ◌≢◌, ◌↔◌, ℕ, zero, suc, ◌<◌, Bool, true, false, nat_eq, List, [], ◌∷◌, ◌++◌, length, get_or, refl, sym, ◌∙◌, ap, subst, arith, Result, Ok, Err, IfOk}
use Rattle.std.specs.Prelude.{IsTrue}
use Rattle.std.proofs.lemmas.Bool.{eqb-true}
use Rattle.hy_bits.specs.Letter.{Letter}
use Rattle.hy_formula.specs.Lassos.{Lasso}
use Rattle.hy_lasso.specs.Words.{no_lasso}
use Rattle.hy_text.specs.Lines.{lines_of}
use Rattle.aig_net.specs.declared.run.Run.{Run}
use Rattle.aig_net.specs.declared.signals.Signal.{Signal}
use Rattle.aig_net.specs.Nets.{Net}
use Rattle.wit_lasso.specs.Seeing.{IsTraceOf}
use Rattle.wit_lasso.specs.Unfoldings.{run_at}
use Rattle.cert_text.specs.Lines.{Line, Say}
use Rattle.cert_text.specs.RunLines.{SaysRun}
use Rattle.cert_text.proofs.Cutting.{piece_alone}
use Rattle.cert_text.proofs.Lists.{heads, tails}
use Rattle.cert_text.proofs.OneReading.{one_run}
use Rattle.run_judge.specs.Traced.{SaysTraced, SayTraced}

no_lines : (lines : List Line) → lines ++ [] ∷ [] ≢ []
no_lines [] e = cc
no_lines (line ∷ lines) e = cc

module _ (net : Net) (signals : List Signal) where
  -- ---- one line after another

  -- A line is of the first trace, and those behind it of the others.
  pub traced_step : (left rest : List ℕ) (line : Line) (trace : Lasso Letter)
      (traces : List (Lasso Letter)) → lines_of left ≡ line ∷ lines_of rest
      → SaysTraced net signals line trace
      → SayTraced net signals left (trace ∷ traces) ↔ SayTraced net signals rest traces
  traced_step left rest line trace traces cut says = (
    λ (lines, parts, said). behind lines parts said,
    λ (lines, parts, said). (line ∷ lines, cut ∙ ap (λ l. line ∷ l) parts, (says, said)),
  )
    where
      behind : (lines : List Line) → lines_of left ≡ lines ++ [] ∷ []
          → Say (SaysTraced net signals) lines (trace ∷ traces) → SayTraced net signals rest traces
      behind [] parts said = absurd said
      behind (l ∷ lines) parts (here, said) = (lines, tails (sym cut ∙ parts), said)

  pub untraced : (left : List ℕ) (line : Line) (more : List Line) (trace : Lasso Letter)
      (traces : List (Lasso Letter)) → lines_of left ≡ line ∷ more
      → ¬ SaysTraced net signals line trace → ¬ SayTraced net signals left (trace ∷ traces)
  untraced left line more trace traces cut silent ([], parts, said) = said
  untraced left line more trace traces cut silent (l ∷ lines, parts, (says, said)) =
      let P : Line → Type 0 = λ l. SaysTraced net signals l trace in
      silent (subst P (heads (sym parts ∙ cut)) says)

  -- The only line that is left has no line feed.
  pub unended : (left : List ℕ) (line : Line) (trace : Lasso Letter) (traces : List (Lasso Letter))
      → lines_of left ≡ line ∷ [] → ¬ SayTraced net signals left (trace ∷ traces)
  unended left line trace traces cut ([], parts, said) = said
  unended left line trace traces cut (l ∷ lines, parts, said) =
      no_lines lines (tails (sym parts ∙ cut))

  pub traced_end : (left : List ℕ) → SayTraced net signals left [] ↔ (lines_of left ≡ [] ∷ [])
  traced_end left = (λ (lines, parts, said). none lines parts said, λ e. ([], e, tt))
    where
      none : (lines : List Line) → lines_of left ≡ lines ++ [] ∷ []
          → Say (SaysTraced net signals) lines [] → lines_of left ≡ [] ∷ []
      none [] parts said = parts
      none (line ∷ lines) parts said = absurd said

  -- ---- a text line by line

  -- The line of the first trace that is left is none of it.
  pub bad_here : (text left : List ℕ) (all here rest : List (Lasso Letter)) (line : Line)
      (more : List Line) (trace : Lasso Letter) (b : Bool)
      → SayTraced net signals text all ↔ SayTraced net signals left here → here ≡ trace ∷ rest
      → lines_of left ≡ line ∷ more → IsTrue b ↔ SaysTraced net signals line trace → b ≡ false
      → IsTrue false ↔ SayTraced net signals text all
  bad_here text left all here rest line more trace b same first cut is none = (
    λ (yes : false ≡ true). absurd (cc),
    λ said.
        let P : List (Lasso Letter) → Type 0 = SayTraced net signals left in
        absurd (untraced left line more trace rest cut
        (λ says. let clash : false ≡ true = sym none ∙ is.1 says in cc)
        (subst P first (same.0 said))),
  )

  -- It is one of it.
  pub more_here : (text left behind : List ℕ) (all here rest : List (Lasso Letter)) (line : Line)
      (trace : Lasso Letter) (b : Bool)
      → SayTraced net signals text all ↔ SayTraced net signals left here → here ≡ trace ∷ rest
      → lines_of left ≡ line ∷ lines_of behind → IsTrue b ↔ SaysTraced net signals line trace
      → b ≡ true → SayTraced net signals text all ↔ SayTraced net signals behind rest
  more_here text left behind all here rest line trace b same first cut is holds =
      let P : List (Lasso Letter) → Type 0 = SayTraced net signals left in
      let step = traced_step left behind line trace rest cut (is.0 holds) in (
        λ said. step.0 (subst P first (same.0 said)),
        λ said. same.1 (subst P (sym first) (step.1 said)),
      )

  -- No trace is left.
  pub end_here : (text left : List ℕ) (all here : List (Lasso Letter)) (b : Bool)
      → SayTraced net signals text all ↔ SayTraced net signals left here → here ≡ []
      → b ≡ nat_eq (length left) 0 → IsTrue b ↔ SayTraced net signals text all
  end_here text left all here b same none is =
      let P : List (Lasso Letter) → Type 0 = SayTraced net signals left in
      let end = traced_end left in (
        λ yes. same.1 (subst P (sym none) (end.1 (no_text left (sym is ∙ yes)))),
        λ said. is ∙ some_line left (end.0 (subst P none (same.0 said))),
      )
    where
      no_text : (left : List ℕ) → nat_eq (length left) 0 ≡ true → lines_of left ≡ [] ∷ []
      no_text [] e = refl
      no_text (byte ∷ left) e =
          let long = eqb-true (length (byte ∷ left)) 0 e in absurd (omega (arith, long))

      some_line : (left : List ℕ) → lines_of left ≡ [] ∷ [] → nat_eq (length left) 0 ≡ true
      some_line left e = ap (λ t. nat_eq (length t) 0) (piece_alone 10 left [] e)

  -- The run that a line says has the trace.
  pub traced_answer : {E : Type 0} (line : Line) (run : Run) (trace : Lasso Letter)
      (r : Result Bool E) → SaysRun line run
      → IfOk r (λ good. IsTrue good ↔ IsTraceOf net signals run trace)
      → IfOk r (λ good. IsTrue good ↔ SaysTraced net signals line trace)
  traced_answer line run trace (Ok good) says is = (
    λ yes. (run, says, is.0 yes),
    λ (one, also, of).
        let P : Run → Type 0 = λ r. IsTraceOf net signals r trace in
        is.1 (subst P (one_run line one run also says) of),
  )
  traced_answer line run trace (Err e) says is = tt

  -- ---- the runs that are said, and their traces

  pub traced_long : (lines : List Line) (runs : List Run) (traces : List (Lasso Letter))
      → Say SaysRun lines runs → Say (SaysTraced net signals) lines traces
      → length runs ≡ length traces
  traced_long [] [] [] said traced = refl
  traced_long [] [] (trace ∷ traces) said traced = absurd traced
  traced_long [] (run ∷ runs) traces said traced = absurd said
  traced_long (line ∷ lines) [] traces said traced = absurd said
  traced_long (line ∷ lines) (run ∷ runs) [] said traced = absurd traced
  traced_long (line ∷ lines) (run ∷ runs) (trace ∷ traces) (says, said) (here, traced) =
      ap suc (traced_long lines runs traces said traced)

  pub traced_at : (lines : List Line) (runs : List Run) (traces : List (Lasso Letter))
      → Say SaysRun lines runs → Say (SaysTraced net signals) lines traces
      → (c : ℕ) → c < length runs
      → IsTraceOf net signals (run_at runs c) (get_or traces c no_lasso)
  traced_at lines [] traces said traced c lt = absurd (omega arith)
  traced_at [] (run ∷ runs) traces said traced c lt = absurd said
  traced_at (line ∷ lines) (run ∷ runs) [] said traced c lt = absurd traced
  traced_at (line ∷ lines) (run ∷ runs) (trace ∷ traces) (says, said) ((one, also, of), traced)
      zero lt =
      let P : Run → Type 0 = λ r. IsTraceOf net signals r trace in
      subst P (one_run line one run also says) of
  traced_at (line ∷ lines) (run ∷ runs) (trace ∷ traces) (says, said) (here, traced) (suc c) lt =
      traced_at lines runs traces said traced c (omega arith)

  pub traced_each : (lines : List Line) (runs : List Run) (traces : List (Lasso Letter))
      → Say SaysRun lines runs → length runs ≡ length traces
      → ((c : ℕ) → c < length runs
      → IsTraceOf net signals (run_at runs c) (get_or traces c no_lasso))
      → Say (SaysTraced net signals) lines traces
  traced_each [] [] [] said long each = tt
  traced_each [] [] (trace ∷ traces) said long each = absurd (omega arith)
  traced_each [] (run ∷ runs) traces said long each = absurd said
  traced_each (line ∷ lines) [] traces said long each = absurd said
  traced_each (line ∷ lines) (run ∷ runs) [] said long each = absurd (omega arith)
  traced_each (line ∷ lines) (run ∷ runs) (trace ∷ traces) (says, said) long each = (
    (run, says, each zero (omega arith)),
    traced_each lines runs traces said (omega arith) (λ c lt. each (suc c) (omega arith)),
  )
