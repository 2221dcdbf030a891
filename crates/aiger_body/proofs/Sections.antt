-- Which section a counted line is of.
use Rattle.std.proofs.Common.{◌≡◌, ℕ, zero, suc, ◌+◌, ◌-◌, ◌<◌, ◌≤◌, true, false, cond, inl, inr, refl, sym, ◌∙◌, ap, subst, arith, List, [], ◌∷◌, length, take}
use Rattle.std.specs.Prelude.{nat_lt, slice_index, slice_index_or, sum}
use Rattle.std.proofs.lemmas.Bool.{lt-ltb, cases_lt, le-ltb}
use Rattle.std.proofs.lemmas.List.Sums.{sum_by-cons}
use Rattle.aiger_body.specs.declared.header.Header.{Header}
use Rattle.aiger_body.specs.declared.section.Section.{Section}
use Rattle.aiger_body.specs.declared.section.Section.TheVariants.{Inputs, Latches, Outputs, Bads, Constraints, Sizes, Justices, Fairs, Gates}
use Rattle.aiger_body.specs.Files.{all_sections, number_in, section_from, section, plan, counted, before}

pub section-at : (cs : List ℕ) (sections : List Section) (i j : ℕ) → i < length cs → i < length sections → j < slice_index cs i → section_from cs sections (sum (take i cs) + j) ≡ slice_index_or sections i Gates
section-at [] sections i j lt also less = absurd (omega arith)
section-at (n ∷ cs) [] i j lt also less = absurd (omega arith)
section-at (n ∷ cs) (s ∷ sections) zero j lt also less =
    let inside : nat_lt (0 + j) n ≡ true = lt-ltb (0 + j) n (omega (arith, less)) in
    ap (λ b. cond b s (section_from cs sections (0 + j - n))) inside
section-at (n ∷ cs) (s ∷ sections) (suc i) j lt also less =
    let head : sum (n ∷ take i cs) + j ≡ n + (sum (take i cs) + j) = omega (arith, sum_by-cons (λ x. x) n (take i cs)) in
    let outside : nat_lt (n + (sum (take i cs) + j)) n ≡ false = le-ltb _ _ (omega arith) in
    let rest : n + (sum (take i cs) + j) - n ≡ sum (take i cs) + j = omega arith in
    ap (section_from (n ∷ cs) (s ∷ sections)) head ∙ ap (λ b. cond b s (section_from cs sections (n + (sum (take i cs) + j) - n))) outside ∙ ap (section_from cs sections) rest ∙ section-at cs sections i j (omega arith) (omega arith) less

pub part-of : (cs : List ℕ) (i : ℕ) → i < length cs → sum (take i cs) + slice_index cs i ≤ sum cs
part-of [] i lt = absurd (omega arith)
part-of (n ∷ cs) zero lt = omega (arith, sum_by-cons (λ x. x) n cs)
part-of (n ∷ cs) (suc i) lt = omega (arith, part-of cs i (omega arith), sum_by-cons (λ x. x) n cs, sum_by-cons (λ x. x) n (take i cs))

pub named : (s : Section) → slice_index_or all_sections (number_in s) Gates ≡ s
named Inputs = refl
named Latches = refl
named Outputs = refl
named Bads = refl
named Constraints = refl
named Sizes = refl
named Justices = refl
named Fairs = refl
named Gates = refl

pub number-small : (s : Section) → number_in s < 9
number-small Inputs = omega arith
number-small Latches = omega arith
number-small Outputs = omega arith
number-small Bads = omega arith
number-small Constraints = omega arith
number-small Sizes = omega arith
number-small Justices = omega arith
number-small Fairs = omega arith
number-small Gates = omega arith

pub in-section : (cs : List ℕ) (s : Section) (j : ℕ) → length cs ≡ 9 → j < slice_index cs (number_in s) → (section_from cs all_sections (sum (take (number_in s) cs) + j) ≡ s) × (sum (take (number_in s) cs) + j < sum cs)
in-section cs s j nine lt =
    let small : number_in s < length cs = omega (arith, number-small s, nine) in
    (section-at cs all_sections (number_in s) j small (number-small s) lt ∙ named s, omega (arith, part-of cs (number_in s) small, lt))

-- ---- and the other way round: each counted line is of one

pub record IsIn (cs : List ℕ) (sections : List Section) (k : ℕ) : Type 0 where
  pub i : ℕ
  pub j : ℕ
  pub inside : i < length cs
  pub small : j < slice_index cs i
  pub place : k ≡ sum (take i cs) + j
  pub is : section_from cs sections k ≡ slice_index_or sections i Gates

pub line-in : (cs : List ℕ) (sections : List Section) (k : ℕ) → length cs ≡ length sections → k < sum cs → IsIn cs sections k
line-in [] sections k same lt = absurd (omega arith)
line-in (n ∷ cs) [] k same lt = absurd (omega arith)
line-in (n ∷ cs) (s ∷ sections) k same lt =
    elim (cases_lt k n) [
      | inl here ↦
          let inside : nat_lt k n ≡ true = lt-ltb k n here in
          record { i = 0; j = k; inside = omega arith; small = here; place = omega arith; is = ap (λ b. cond b s (section_from cs sections (k - n))) inside }
      | inr past ↦
          let outside : nat_lt k n ≡ false = le-ltb k n past in
          let more = line-in cs sections (k - n) (omega arith) (omega (arith, lt, past, sum_by-cons (λ x. x) n cs)) in
          record {
            i = suc more.i;
            j = more.j;
            inside = omega (arith, more.inside);
            small = more.small;
            place = omega (arith, more.place, past, sum_by-cons (λ x. x) n (take more.i cs));
            is = ap (λ b. cond b s (section_from cs sections (k - n))) outside ∙ more.is;
          }
    ]

pub number-of : (i : ℕ) → i < 9 → number_in (slice_index_or all_sections i Gates) ≡ i
number-of zero lt = refl
number-of (suc zero) lt = refl
number-of (suc (suc zero)) lt = refl
number-of (suc (suc (suc zero))) lt = refl
number-of (suc (suc (suc (suc zero)))) lt = refl
number-of (suc (suc (suc (suc (suc zero))))) lt = refl
number-of (suc (suc (suc (suc (suc (suc zero)))))) lt = refl
number-of (suc (suc (suc (suc (suc (suc (suc zero))))))) lt = refl
number-of (suc (suc (suc (suc (suc (suc (suc (suc zero)))))))) lt = refl
number-of (suc (suc (suc (suc (suc (suc (suc (suc (suc i))))))))) lt = absurd (omega arith)

-- a counted line by its section and its place there
pub record IsOf (h : Header) (bytes : List ℕ) (k : ℕ) : Type 0 where
  pub s : Section
  pub j : ℕ
  pub small : j < slice_index (plan h bytes) (number_in s)
  pub place : k ≡ before (plan h bytes) s + j
  pub is : section h bytes k ≡ s

pub line-of : (h : Header) (bytes : List ℕ) (k : ℕ) → k < counted h bytes → IsOf h bytes k
line-of h bytes k lt =
    let at = line-in (plan h bytes) all_sections k refl lt in
    let number : number_in (slice_index_or all_sections at.i Gates) ≡ at.i = number-of at.i at.inside in
    record {
      s = slice_index_or all_sections at.i Gates;
      j = at.j;
      small = (let P : ℕ → Type 0 = λ n. at.j < slice_index (plan h bytes) n in subst P (sym number) at.small);
      place = at.place ∙ ap (λ n. sum (take n (plan h bytes)) + at.j) (sym number);
      is = at.is;
    }
