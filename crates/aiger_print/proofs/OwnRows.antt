-- The rows of a net are right, and each number in them is short.
use Rattle.std.proofs.Common.{◌≡◌, ℕ, suc, ◌+◌, ◌*◌, ◌%◌, ◌<◌, ◌≤◌, ◌^◌, Bool, true, false, cond, nat_eq, ◌∷◌, length, refl, ap, arith}
use Rattle.std.specs.Prelude.{slice_index}
use Rattle.std.proofs.lemmas.Bool.{eq-eqb, le-leb, lt-ltb, and_from, or_right}
use Rattle.aig_net.specs.declared.parts.NetParts.{NetParts}
use Rattle.aig_net.specs.declared.parts.Reset.{Reset}
use Rattle.aig_net.specs.declared.parts.Reset.TheVariants.{Zero, One, Free}
use Rattle.aig_net.specs.Nets.{IsNet, Below, variables, first_and, latch_variable, literal_at, reset_at}
use Rattle.aiger_body.specs.declared.header.Header.{Header}
use Rattle.aiger_body.specs.declared.section.Section.{Section}
use Rattle.aiger_body.specs.declared.section.Section.TheVariants.{Inputs, Latches, Outputs, Bads, Constraints, Sizes, Justices, Fairs, Gates}
use Rattle.aiger_body.specs.Files.{number_in, before, with_own, is_literal, is_plain, is_right}
use Rattle.aiger_body.specs.Spelled.{AreShort}
use Rattle.aiger_print.specs.Printed.{reset_row, latch_row}
use Rattle.aiger_print.proofs.Forms.{own_header, printed, plan_of}

-- the rows have as many numbers as are counted, or fewer
pub none-left : (b : Bool) (n j : ℕ) → j < cond b 0 n → j < n
none-left true n j lt = absurd (omega arith)
none-left false n j lt = lt

module _ (b : Bool) (net : NetParts) (is : IsNet net) (few : net.inputs + length net.latches + length net.ands ≤ 1048576) where
  abbrev h : Header
  h = own_header b net

  in-range : (l : ℕ) → Below (variables net) l → l ≤ 2 * h.top + 1
  in-range l lt = omega (arith, lt)

  literal-right : (l : ℕ) → Below (variables net) l → is_literal h l ≡ true
  literal-right l lt = le-leb _ _ (in-range l lt)

  literal-short : (l : ℕ) → Below (variables net) l → l < 10 ^ 10
  literal-short l lt = omega (arith, in-range l lt)

  plain-right : (v : ℕ) → 0 < v → v ≤ h.top → is_plain h (2 * v) ≡ true
  plain-right v low high =
      and_from _ _ (le-leb (2 * v) (2 * h.top + 1) (omega arith))
      (and_from _ _ (lt-ltb 0 (2 * v) (omega arith)) (eq-eqb (2 * v % 2) 0 (omega arith)))

  -- ---- short

  reset-short : (own : ℕ) (r : Reset) → own < 10 ^ 10 → AreShort (reset_row own r)
  reset-short own Zero lt = tt
  reset-short own One lt = (omega arith, tt)
  reset-short own Free lt = (lt, tt)

  latch-short : (c : Bool) (j : ℕ) → j < length net.latches → AreShort (latch_row c net j)
  latch-short true j lt = (literal-short _ (is.latches j lt), reset-short (2 * latch_variable net j) (reset_at net.resets j) (omega arith))
  latch-short false j lt = (omega arith, (literal-short _ (is.latches j lt), reset-short (2 * latch_variable net j) (reset_at net.resets j) (omega arith)))

  pub short_printed : (s : Section) (j : ℕ) → j < slice_index (plan_of b net) (number_in s) → AreShort (printed b net s j)
  short_printed Inputs j lt = (omega (arith, none-left b net.inputs j lt), tt)
  short_printed Latches j lt = latch-short b j lt
  short_printed Outputs j lt = (literal-short _ (is.outputs j lt), tt)
  short_printed Bads j lt = tt
  short_printed Constraints j lt = (literal-short _ (is.constraints j lt), tt)
  short_printed Sizes j lt = tt
  short_printed Justices j lt = tt
  short_printed Fairs j lt = (literal-short _ (is.fairs j lt), tt)
  short_printed Gates j lt =
      let less = none-left b (length net.ands) j lt in
      let (l, r) = is.ordered j less in
      (omega arith, (literal-short _ (omega (arith, l, less)), (literal-short _ (omega (arith, r, less)), tt)))

  -- ---- right

  reset-right : (own : ℕ) (r : Reset) (next : ℕ) → is_plain h own ≡ true → is_literal h next ≡ true → is_right h Latches (own ∷ next ∷ reset_row own r) ≡ true
  reset-right own Zero next plain literal = and_from _ _ plain literal
  reset-right own One next plain literal = and_from _ _ plain (and_from _ _ literal refl)
  reset-right own Free next plain literal =
      and_from _ _ plain (and_from _ _ literal (or_right (nat_eq own 0) _ (or_right (nat_eq own 1) _ (eq-eqb own own refl))))

  pub right_printed : (s : Section) (j : ℕ) → j < slice_index (plan_of b net) (number_in s) → is_right h s (printed false net s j) ≡ true
  right_printed Inputs j lt = plain-right (suc j) (omega arith) (omega (arith, none-left b net.inputs j lt))
  right_printed Latches j lt = reset-right (2 * latch_variable net j) (reset_at net.resets j) (literal_at net.latches j) (plain-right (latch_variable net j) (omega arith) (omega arith)) (literal-right _ (is.latches j lt))
  right_printed Outputs j lt = literal-right _ (is.outputs j lt)
  right_printed Bads j lt = absurd (omega arith)
  right_printed Constraints j lt = literal-right _ (is.constraints j lt)
  right_printed Sizes j lt = absurd (omega arith)
  right_printed Justices j lt = absurd (omega arith)
  right_printed Fairs j lt = literal-right _ (is.fairs j lt)
  right_printed Gates j lt =
      let less = none-left b (length net.ands) j lt in
      let (l, r) = is.ordered j less in
      and_from _ _ (plain-right (first_and net + j) (omega arith) (omega arith)) (and_from _ _ (literal-right _ (omega (arith, l, less))) (literal-right _ (omega (arith, r, less))))

-- in the binary form a latch's own literal is put before its row
pub own_printed : (b : Bool) (net : NetParts) (s : Section) (j : ℕ) → with_own (own_header b net) (before (plan_of b net) s + j) s (printed b net s j) ≡ printed false net s j
own_printed b net Inputs j = refl
own_printed true net Latches j =
    let q : 2 * (1 + net.inputs + (before (plan_of true net) Latches + j)) ≡ 2 * latch_variable net j = omega arith in
    ap (λ n. n ∷ literal_at net.latches j ∷ reset_row (2 * latch_variable net j) (reset_at net.resets j)) q
own_printed false net Latches j = refl
own_printed b net Outputs j = refl
own_printed b net Bads j = refl
own_printed b net Constraints j = refl
own_printed b net Sizes j = refl
own_printed b net Justices j = refl
own_printed b net Fairs j = refl
own_printed b net Gates j = refl
