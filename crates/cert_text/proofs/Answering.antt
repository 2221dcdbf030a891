-- What has passed of a text, and what it comes to at its end or at a line that is wrong.
use Rattle.std.proofs.Common.{◌≡◌, ◌≢◌, ℕ, suc, ◌+◌, ◌↔◌, Bool, true, false, not, cond, nat_eq, List, [], ◌∷◌, ◌++◌, length, inl, inr, refl, sym, ◌∙◌, ap, subst, arith, Some, None, append_assoc, append-nil, length-append}
use Rattle.std.specs.List.{list_all, onto_first}
use Rattle.std.proofs.lemmas.Bool.{and_parts, and_from, eqb-true}
use Rattle.std.proofs.lemmas.List.{same_from_push}
use Rattle.hy_formula.proofs.Each.{each-left}
use Rattle.hy_text.specs.Bytes.{is_line_feed, is_in_line}
use Rattle.hy_text.specs.Lines.{lines_of}
use Rattle.cert_text.specs.declared.question.Question.{Question}
use Rattle.cert_text.specs.declared.want.Want.{Want}
use Rattle.cert_text.specs.declared.want.Want.TheVariants.{Verdict}
use Rattle.cert_text.specs.Lines.{Line}
use Rattle.cert_text.specs.Certificates.{Certificate, Spells}
use Rattle.cert_text.specs.Wants.{Fills, IsTaken}
use Rattle.cert_text.specs.Texts.{IsText, ended, Begins, IsWrong, IsFaultAt}
use Rattle.cert_text.proofs.Cutting.{pieces_some}
use Rattle.cert_text.proofs.Filling.{fillable}
use Rattle.cert_text.proofs.Joining.{IsFree, AreFree}
use Rattle.cert_text.proofs.Lists.{front_of}

-- ---- lines and their bytes

in-line : (b : ℕ) (x : Bool) → nat_eq b 10 ≡ x → not x ≡ true → nat_eq b 10 ≡ false
in-line b true e some = absurd (cc)
in-line b false e some = e

-- a line, its feed, and what stands behind
line_first : (line rest : List ℕ) → list_all is_in_line line ≡ true
    → lines_of (line ++ 10 ∷ rest) ≡ line ∷ lines_of rest
line_first [] rest free = refl
line_first (b ∷ line) rest free =
    let (here, more) = and_parts (is_in_line b) (list_all is_in_line line) free in
    let apart : is_line_feed b ≡ false = in-line b (nat_eq b 10) refl here in
    rw apart (ap (onto_first b) (line_first line rest more))

pub lines_ended : (front : List Line) (rest : List ℕ) → AreFree front
    → lines_of (ended front ++ rest) ≡ front ++ lines_of rest
lines_ended [] rest free = refl
lines_ended (line ∷ front) rest (free, more) =
    let bytes : ended (line ∷ front) ++ rest ≡ line ++ 10 ∷ (ended front ++ rest) =
    append_assoc (line ++ 10 ∷ []) (ended front) rest
    ∙ append_assoc line (10 ∷ []) (ended front ++ rest) in
    ap lines_of bytes ∙ line_first line (ended front ++ rest) free
    ∙ ap (λ l. line ∷ l) (lines_ended front rest more)

free-onto : (b : ℕ) (lines : List Line) → nat_eq b 10 ≡ false → AreFree lines
    → AreFree (onto_first b lines)
free-onto b [] apart free = (and_from (is_in_line b) true (ap not apart) refl, tt)
free-onto b (line ∷ lines) apart (here, free) =
    (and_from (is_in_line b) (list_all is_in_line line) (ap not apart) here, free)

free-from : (b : ℕ) (x : Bool) (lines : List Line) → nat_eq b 10 ≡ x → AreFree lines
    → AreFree (cond x ([] ∷ lines) (onto_first b lines))
free-from b true lines e free = (refl, free)
free-from b false lines e free = free-onto b lines e free

free_lines : (bytes : List ℕ) → AreFree (lines_of bytes)
free_lines [] = (refl, tt)
free_lines (b ∷ bytes) = free-from b (nat_eq b 10) (lines_of bytes) refl (free_lines bytes)

-- ---- what has passed

-- Lines have passed, and behind them this is wanted.
pub record IsPassed (question : Question) (bytes : List ℕ) (want : Want) (left : List ℕ)
    (number : ℕ) : Type 0 where
  pub front : List Line
  pub parts : lines_of bytes ≡ front ++ lines_of left
  pub counted : number ≡ suc (length front)
  pub same : (rest : List Line) → Fills (Verdict question) (front ++ rest) ↔ Fills want rest

pub none_passed : (question : Question) (bytes : List ℕ) → IsPassed question bytes (Verdict question) bytes 1
none_passed question bytes = record {
  front = [];
  parts = refl;
  counted = refl;
  same = λ rest. (λ fill. fill, λ fill. fill);
}

pub passed_more : (question : Question) (bytes left rest line : List ℕ) (want next : Want) (number : ℕ)
    → IsPassed question bytes want left number → lines_of left ≡ line ∷ lines_of rest
    → IsTaken want line (Some next) → IsPassed question bytes next rest (number + 1)
passed_more question bytes left rest line want next number passed cut taken = record {
  front = passed.front ++ line ∷ [];
  parts =
      passed.parts ∙ ap (λ l. passed.front ++ l) cut
      ∙ sym (append_assoc passed.front (line ∷ []) (lines_of rest));
  counted = omega (arith, passed.counted, length-append passed.front (line ∷ []));
  same = λ more.
      let e = append_assoc passed.front (line ∷ []) more in
      let here = passed.same (line ∷ more) in
      let step = taken more in (
        λ fill. step.0 (here.0 (subst (Fills (Verdict question)) e fill)),
        λ fill. subst (Fills (Verdict question)) (sym e) (here.1 (step.1 fill)),
      );
}

-- Some text begins with the lines that have passed.
begins : (question : Question) (bytes left : List ℕ) (want : Want) (number : ℕ)
    (passed : IsPassed question bytes want left number) → Begins question passed.front
begins question bytes left want number passed =
    let free = each-left IsFree passed.front (lines_of left)
    (subst AreFree passed.parts (free_lines bytes)) in
    let more = fillable want in
    let (certificate, spelled) = (passed.same more.lines).1 more.fills in
    let last : lines_of (ended more.lines) ≡ more.lines ++ [] ∷ [] =
    ap lines_of (sym (append-nil (ended more.lines))) ∙ lines_ended more.lines [] more.free in (
      ended more.lines,
      certificate,
      record {
        lines = passed.front ++ more.lines;
        ended =
            lines_ended passed.front (ended more.lines) free
            ∙ ap (λ l. passed.front ++ l) last
            ∙ sym (append_assoc passed.front more.lines ([] ∷ []));
        spelled = spelled;
      },
    )

-- No text begins with these lines and one that is not as wanted.
stops : (question : Question) (bytes left line : List ℕ) (rest : List ℕ) (want : Want) (number : ℕ)
    (passed : IsPassed question bytes want left number) → lines_of left ≡ line ∷ lines_of rest
    → IsTaken want line None → ¬ Begins question (passed.front ++ line ∷ [])
stops question bytes left line rest want number passed cut none (more, certificate, text) =
    let whole : lines_of bytes ≡ (passed.front ++ line ∷ []) ++ lines_of rest =
    passed.parts ∙ ap (λ l. passed.front ++ l) cut
    ∙ sym (append_assoc passed.front (line ∷ []) (lines_of rest)) in
    let free = each-left IsFree (passed.front ++ line ∷ []) (lines_of rest)
    (subst AreFree whole (free_lines bytes)) in
    let both = sym (lines_ended (passed.front ++ line ∷ []) more free) ∙ text.ended in
    let (behind, parts) = front_of (passed.front ++ line ∷ []) (lines_of more) text.lines []
    (pieces_some 10 more) both in
    let P : List Line → Type 0 = λ l. Spells l question certificate in
    let spelled = subst P (parts ∙ append_assoc passed.front (line ∷ []) behind) text.spelled in
    none behind ((passed.same (line ∷ behind)).0 (certificate, spelled))

pub wrong_here : (question : Question) (bytes left rest line : List ℕ) (want : Want) (number : ℕ)
    → IsPassed question bytes want left number → lines_of left ≡ line ∷ lines_of rest
    → IsTaken want line None → IsFaultAt question bytes number
wrong_here question bytes left rest line want number passed cut none =
    (passed.front, passed.counted, inl (wrong (lines_of rest) refl))
  where
    wrong : (lines : List Line) → lines_of rest ≡ lines → IsWrong question bytes passed.front
    wrong [] e = absurd (pieces_some 10 rest e)
    wrong (next ∷ more) e = record {
      line = line;
      next = next;
      more = more;
      parts =
          passed.parts
          ∙ ap (λ l. passed.front ++ l) (cut ∙ ap (λ l. line ∷ l) e);
      begins = begins question bytes left want number passed;
      stops = stops question bytes left line rest want number passed cut none;
    }

pub cut_off : (question : Question) (bytes left line : List ℕ) (want : Want) (number : ℕ)
    → IsPassed question bytes want left number → lines_of left ≡ line ∷ [] → line ≢ []
    → IsFaultAt question bytes number
cut_off question bytes left line want number passed last some = (
  passed.front,
  passed.counted,
  inr (inl (record {
    line = line;
    parts = passed.parts ∙ ap (λ l. passed.front ++ l) last;
    some = some;
    begins = begins question bytes left want number passed;
  })),
)

pub too_short : (question : Question) (bytes left line : List ℕ) (want : Want) (number : ℕ)
    → IsPassed question bytes want left number → lines_of left ≡ line ∷ [] → line ≡ []
    → ¬ Fills want [] → IsFaultAt question bytes number
too_short question bytes left line want number passed last none wanted =
    let parts = passed.parts ∙ ap (λ l. passed.front ++ l) (last ∙ ap (λ l. l ∷ []) none) in (
      passed.front,
      passed.counted,
      inr (inr (record {
        parts = parts;
        begins = begins question bytes left want number passed;
        wanting = λ certificate text.
            let (same, _) = same_from_push text.lines passed.front [] [] (sym text.ended ∙ parts) in
            let P : List Line → Type 0 = λ l. Spells l question certificate in
            let spelled = subst P (same ∙ sym (append-nil passed.front)) text.spelled in
            wanted ((passed.same []).0 (certificate, spelled));
      })),
    )

pub text_read : (question : Question) (bytes left line : List ℕ) (want : Want) (number : ℕ)
    → IsPassed question bytes want left number → lines_of left ≡ line ∷ [] → line ≡ []
    → Fills want [] → (certificate : Certificate) × IsText question bytes certificate
text_read question bytes left line want number passed last none fill =
    let (certificate, spelled) = (passed.same []).1 fill in (
      certificate,
      record {
        lines = passed.front ++ [];
        ended =
            passed.parts ∙ ap (λ l. passed.front ++ l) (last ∙ ap (λ l. l ∷ []) none)
            ∙ ap (λ l. l ++ [] ∷ []) (sym (append-nil passed.front));
        spelled = spelled;
      },
    )

-- ---- empty lines

pub empty_line : (line : Line) → true ≡ nat_eq (length line) 0 → line ≡ []
empty_line [] e = refl
empty_line (b ∷ line) e = absurd (omega (arith, eqb-true (length (b ∷ line)) 0 (sym e)))
