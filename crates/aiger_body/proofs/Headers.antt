-- Headers of at most nine numbers.
use Rattle.std.proofs.Common.{◌≡◌, ℕ, zero, suc, ◌+◌, ◌<◌, ◌≤◌, ◌^◌, Bool, true, false, cond, List, [], ◌∷◌, ◌++◌, length, get_or, take, drop, refl, sym, ◌∙◌, ap, subst, arith, Option, Some, None, min, inl, inr}
use Rattle.std.specs.Prelude.{not, nat_le, nat_lt, nat_eq, slice_index, IfSome}
use Rattle.std.specs.List.{slice_split}
use Rattle.std.proofs.lemmas.Bool.{leb-true, lt-ltb, eqb-true, cases_lt, cases_Bool, not-false}
use Rattle.std.proofs.lemmas.List.{take_all, drop_all}
use Rattle.aiger_body.specs.declared.header.Header.{Header}
use Rattle.aig_order.specs.Firsts.{when}
use Rattle.hy_text.specs.Numbers.{number_of}
use Rattle.aiger_body.specs.Texts.{is_space, with_number, all_numbers, or_empty, numbers_of}
use Rattle.aiger_body.specs.Files.{header_with, header_in, form_of, header_of, is_header}
use Rattle.aiger_body.specs.Outcomes.{of_header, fault}
use Rattle.aig_kind.specs.declared.kind.AigKind.TheVariants.{Header as HeaderFault}
use Rattle.aiger_body.specs.Answers.{IsShort, Fits}
use Rattle.hy_text.proofs.Digits.{number_small}
use Rattle.aig_order.proofs.Firsts.{when-none, none-both}

-- each number below 10 to the power of 10
pub AreSmall : List ℕ → Type 0
AreSmall ns = (k : ℕ) → get_or ns k 0 < 10 ^ 10

all-small : (words : List (List ℕ)) (ns : List ℕ) → all_numbers words ≡ Some ns → (k : ℕ) → get_or ns k 0 < 10 ^ 10
all-small [] ns e k = let none : [] ≡ ns = cc in subst (λ (l : List ℕ). get_or l k 0 < 10 ^ 10) none (omega arith)
all-small (word ∷ words) ns e k = step (number_of word) (all_numbers words) refl refl e (all-small words) k
  where
    step : (n : Option ℕ) (more : Option (List ℕ)) → number_of word ≡ n → all_numbers words ≡ more → with_number n more ≡ Some ns → ((ms : List ℕ) → all_numbers words ≡ Some ms → (k : ℕ) → get_or ms k 0 < 10 ^ 10) → (k : ℕ) → get_or ns k 0 < 10 ^ 10
    step None more is are e rest k = absurd (cc)
    step (Some n) None is are e rest k = absurd (cc)
    step (Some n) (Some ms) is are e rest zero = let same : n ∷ ms ≡ ns = cc in subst (λ (l : List ℕ). get_or l 0 0 < 10 ^ 10) same (number_small word n is)
    step (Some n) (Some ms) is are e rest (suc k) = let same : n ∷ ms ≡ ns = cc in subst (λ (l : List ℕ). get_or l (suc k) 0 < 10 ^ 10) same (rest ms are k)

pub numbers_small : (text : List ℕ) (k : ℕ) → get_or (numbers_of text) k 0 < 10 ^ 10
numbers_small text k = step (all_numbers (slice_split is_space text)) refl
  where
    step : (o : Option (List ℕ)) → all_numbers (slice_split is_space text) ≡ o → get_or (or_empty o) k 0 < 10 ^ 10
    step None e = omega arith
    step (Some ns) e = all-small (slice_split is_space text) ns e k

pub ten_enough : (form : Bool) (ns : List ℕ) → header_with form (take 10 ns) ≡ header_with form ns
ten_enough form [] = refl
ten_enough form (a ∷ []) = refl
ten_enough form (a ∷ b ∷ []) = refl
ten_enough form (a ∷ b ∷ c ∷ []) = refl
ten_enough form (a ∷ b ∷ c ∷ d ∷ []) = refl
ten_enough form (a ∷ b ∷ c ∷ d ∷ e ∷ []) = refl
ten_enough form (a ∷ b ∷ c ∷ d ∷ e ∷ f ∷ []) = refl
ten_enough form (a ∷ b ∷ c ∷ d ∷ e ∷ f ∷ g ∷ []) = refl
ten_enough form (a ∷ b ∷ c ∷ d ∷ e ∷ f ∷ g ∷ h ∷ []) = refl
ten_enough form (a ∷ b ∷ c ∷ d ∷ e ∷ f ∷ g ∷ h ∷ i ∷ []) = refl
ten_enough form (a ∷ b ∷ c ∷ d ∷ e ∷ f ∷ g ∷ h ∷ i ∷ j ∷ ns) =
    let mk : Option Header = Some (record { binary = form; top = a; inputs = b; latches = c; outputs = d; ands = e; bads = f; constraints = g; justices = h; fairs = i }) in
    let long : nat_le (length (f ∷ g ∷ h ∷ i ∷ j ∷ ns)) 4 ≡ false = too-long (length ns) in
    sym (ap (λ b. cond b mk None) long)
  where
    too-long : (n : ℕ) → nat_le (suc (suc (suc (suc (suc n))))) 4 ≡ false
    too-long n = step (nat_le (suc (suc (suc (suc (suc n))))) 4) refl
      where
        step : (b : Bool) → nat_le (suc (suc (suc (suc (suc n))))) 4 ≡ b → b ≡ false
        step true e = absurd (omega (arith, leb-true _ 4 e))
        step false e = refl

short-with : (form : Bool) (ns : List ℕ) → ((k : ℕ) → get_or ns k 0 < 10 ^ 10) → IfSome (header_with form ns) IsShort
short-with form [] small = tt
short-with form (a ∷ []) small = tt
short-with form (a ∷ b ∷ []) small = tt
short-with form (a ∷ b ∷ c ∷ []) small = tt
short-with form (a ∷ b ∷ c ∷ d ∷ []) small = tt
short-with form (m ∷ i ∷ l ∷ o ∷ a ∷ more) small = step (nat_le (length more) 4)
  where
    step : (b : Bool) → IfSome (cond b (Some (record { binary = form; top = m; inputs = i; latches = l; outputs = o; ands = a; bads = slice_index more 0; constraints = slice_index more 1; justices = slice_index more 2; fairs = slice_index more 3 })) None) IsShort
    step true = record { top = small 0; inputs = small 1; latches = small 2; outputs = small 3; ands = small 4; bads = small 5; constraints = small 6; justices = small 7; fairs = small 8 }
    step false = tt

pub header_said : (line word numbers row : List ℕ) (n : ℕ) (form : Bool) → n ≡ min (length line) 4 → word ≡ take n line → numbers ≡ drop n line → Some form ≡ form_of word → row ≡ [] ++ take 10 (numbers_of numbers) → header_with form row ≡ header_of line
header_said line word numbers row n form is front back said are =
    ap (header_with form) are
    ∙ ten_enough form (numbers_of numbers)
    ∙ ap (λ f. header_in f (numbers_of numbers)) (said ∙ ap form_of (front ∙ front-is))
    ∙ ap (λ t. header_in (form_of (take 4 line)) (numbers_of t)) (back ∙ back-is)
  where
    front-is : take n line ≡ take 4 line
    front-is = elim (cases_lt 4 (length line)) [
      | inl long ↦ let q : n ≡ 4 = omega arith in ap (λ m. take m line) q
      | inr le ↦ take_all n line (omega arith) ∙ sym (take_all 4 line le)
    ]

    back-is : drop n line ≡ drop 4 line
    back-is = elim (cases_lt 4 (length line)) [
      | inl long ↦ let q : n ≡ 4 = omega arith in ap (λ m. drop m line) q
      | inr le ↦ drop_all n line (omega arith) ∙ sym (drop_all 4 line le)
    ]

pub short_of : (line : List ℕ) → IfSome (header_of line) IsShort
short_of line = step (form_of (take 4 line))
  where
    step : (form : Option Bool) → IfSome (header_in form (numbers_of (drop 4 line))) IsShort
    step None = tt
    step (Some form) = short-with form (numbers_of (drop 4 line)) (numbers_small (drop 4 line))

-- a right header fits
pub fits_of : (h : Header) → of_header h ≡ None → IsShort h → Fits h
fits_of h clear short =
    let (right, low) = none-both (when (not (is_header h)) (fault HeaderFault 0)) _ clear in
    let top : h.top ≤ 1048576 = not-less-is 1048576 h.top (when-none _ _ low) in
    record { short = short; top = top; sum = sum-of h (not-false (is_header h) (when-none _ _ right)) }
  where
    not-less-is : (a b : ℕ) → nat_lt a b ≡ false → b ≤ a
    not-less-is a b e = elim (cases_lt a b) [ inl lt ↦ let yes_lt : nat_lt a b ≡ true = lt-ltb a b lt in absurd (cc) | inr le ↦ le ]

    sum-of : (h : Header) → is_header h ≡ true → h.inputs + h.latches + h.ands ≤ h.top
    sum-of h e = elim (cases_Bool h.binary) [
      | inl form ↦ omega (arith, eqb-true _ _ (sym (ap (λ b. cond b (nat_eq h.top (h.inputs + h.latches + h.ands)) (nat_le (h.inputs + h.latches + h.ands) h.top)) form) ∙ e))
      | inr form ↦ omega (arith, leb-true _ _ (sym (ap (λ b. cond b (nat_eq h.top (h.inputs + h.latches + h.ands)) (nat_le (h.inputs + h.latches + h.ands) h.top)) form) ∙ e))
    ]
