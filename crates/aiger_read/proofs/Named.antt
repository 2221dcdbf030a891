-- The names that symbol lines without a fault give are names.
use Rattle.std.proofs.Common.{◌≡◌, ℕ, zero, suc, ◌+◌, ◌<◌, ◌≤◌, ◌⊎◌, Bool, true, false, not, ◌&&◌, ◌||◌, nat_eq, inl, inr, refl, sym, ◌∙◌, ap, subst, arith, cond, List, [], ◌∷◌, length, drop, Option, Some, None}
use Rattle.std.specs.Prelude.{IsTrue, nat_lt}
use Rattle.std.specs.List.{list_any, position_or_len, after_first, before_first}
use Rattle.std.proofs.lemmas.Bool.{eqb-true, eq-eqb, and_parts, and_from, not_from_false, cases_Bool, not-false}
use Rattle.std.proofs.lemmas.List.FromFn.{length-map-range_with_len, get_or-map-range_with_len}
use Rattle.aig_net.specs.Nets as nets
use Rattle.aig_net.specs.Nets.{AreNames, ends_in}
use Rattle.aig_order.specs.Firsts.{first_some}
use Rattle.aig_order.proofs.Firsts.{when-none, first-none}
use Rattle.aiger_body.specs.declared.header.Header.{Header}
use Rattle.hy_text.specs.Numbers.{number_of}
use Rattle.aiger_body.specs.Texts.{grown, pieces, piece_at, is_ended, is_feed, is_return, is_space, without_end, line_text}
use Rattle.aiger_body.specs.Files.{tail}
use Rattle.aiger_body.specs.Symbols.{Symbol, symbol_with, symbol_of, is_name, is_symbol, tail_lines, symbol, symbol_lines, is_good_symbol, name_in, name_below, name_of, count_of}
use Rattle.aiger_body.specs.Outcomes.{of_symbol, names_of}
use Rattle.aiger_body.proofs.Pieces.{Free}

-- ---- no line has a line feed but at its end

abbrev AllFree : List (List ℕ) → Type 0
AllFree ps = (k : ℕ) → Free is_feed (without_end is_feed (piece_at ps k))

one-free : (b : ℕ) → Free is_feed (without_end is_feed (b ∷ []))
one-free b = step (is_feed b) refl
  where
    step : (x : Bool) → is_feed b ≡ x → Free is_feed (cond x [] (b ∷ []))
    step true e = tt
    step false e = (e, tt)

more-free : (b : ℕ) (p : List ℕ) → is_feed b ≡ false → Free is_feed (without_end is_feed p) → Free is_feed (without_end is_feed (b ∷ p))
more-free b [] e free = one-free b
more-free b (c ∷ p) e free = (e, free)

grown-free : (x : Bool) (b : ℕ) (ps : List (List ℕ)) → is_feed b ≡ x → AllFree ps → AllFree (grown x b ps)
grown-free true b ps e free zero = one-free b
grown-free true b ps e free (suc k) = free k
grown-free false b [] e free zero = one-free b
grown-free false b [] e free (suc k) = tt
grown-free false b (p ∷ ps) e free zero = more-free b p e (free zero)
grown-free false b (p ∷ ps) e free (suc k) = free (suc k)

pieces-free : (bytes : List ℕ) → AllFree (pieces is_feed bytes)
pieces-free [] k = tt
pieces-free (b ∷ bytes) k = grown-free (is_feed b) b (pieces is_feed bytes) refl (pieces-free bytes) k

without-free : (ends : ℕ → Bool) (text : List ℕ) → Free is_feed text → Free is_feed (without_end ends text)
without-free ends [] free = tt
without-free ends (b ∷ []) free = step (ends b)
  where
    step : (x : Bool) → Free is_feed (cond x [] (b ∷ []))
    step true = tt
    step false = free
without-free ends (b ∷ c ∷ text) (here, free) = (here, without-free ends (c ∷ text) free)

drop-free : (n : ℕ) (text : List ℕ) → Free is_feed text → Free is_feed (drop n text)
drop-free zero text free = free
drop-free (suc n) [] free = tt
drop-free (suc n) (b ∷ text) (here, free) = drop-free n text free

free-none : (text : List ℕ) → Free is_feed text → list_any (nat_eq 10) text ≡ false
free-none [] free = refl
free-none (b ∷ text) (here, free) = ap (λ x. x || list_any (nat_eq 10) text) (turned (cases_Bool (nat_eq 10 b))) ∙ free-none text free
  where
    turned : (nat_eq 10 b ≡ true) ⊎ (nat_eq 10 b ≡ false) → nat_eq 10 b ≡ false
    turned (inl same) = absurd (let again : nat_eq b 10 ≡ true = eq-eqb b 10 (sym (eqb-true 10 b same)) in cc)
    turned (inr other) = other

pub ends-same : (text : List ℕ) → ends_in 13 text ≡ is_ended is_return text
ends-same [] = refl
ends-same (b ∷ []) = refl
ends-same (b ∷ c ∷ text) = ends-same (c ∷ text)

-- ---- the name of a symbol is one

text-free : (text : List ℕ) (s : Symbol) → Free is_feed text → symbol_of text ≡ Some s → Free is_feed s.name
text-free [] s free e = absurd (cc)
text-free (kind ∷ text) s (here, free) e = step (number_of (before_first is_space text)) e
  where
    step : (o : Option ℕ) → symbol_with kind o (after_first is_space text) ≡ Some s → Free is_feed s.name
    step None e = absurd (cc)
    step (Some n) e =
        let same : after_first is_space text ≡ s.name = cc in
        let P : List ℕ → Type 0 = λ l. Free is_feed l in
        subst P same (drop-free (position_or_len is_space text + 1) text free)

module _ (h : Header) (bytes : List ℕ) (clear : first_some (symbol_lines h bytes) (of_symbol h bytes) ≡ None) where
  line-good : (k : ℕ) → k < symbol_lines h bytes → is_symbol h (symbol h bytes k) ≡ true
  line-good k lt =
      let good : is_good_symbol h bytes k ≡ true = not-false _ (when-none _ _ (first-none (of_symbol h bytes) (symbol_lines h bytes) clear k lt)) in
      (and_parts (is_ended is_feed (piece_at (tail_lines h bytes) k)) _ (and_parts (is_ended is_feed (piece_at (tail_lines h bytes) k) && is_symbol h (symbol h bytes k)) _ good).0).1

  symbol-name : (k : ℕ) (o : Option Symbol) → k < symbol_lines h bytes → symbol h bytes k ≡ o → (letter n : ℕ) (other : List ℕ) → nets.is_name other ≡ true → nets.is_name (name_in letter n o other) ≡ true
  symbol-name k None lt is letter n other good = good
  symbol-name k (Some s) lt is letter n other good = step (nat_eq s.kind letter && nat_eq s.number n)
    where
      named : is_name s.name ≡ true
      named = (and_parts (nat_lt s.number (count_of h s.kind)) _ (ap (is_symbol h) (sym is) ∙ line-good k lt)).1

      free : Free is_feed s.name
      free = text-free (line_text (piece_at (tail_lines h bytes) k)) s (without-free is_return (without_end is_feed (piece_at (tail_lines h bytes) k)) (pieces-free (tail h bytes) k)) is

      step : (b : Bool) → nets.is_name (cond b s.name other) ≡ true
      step false = good
      step true =
          and_from _ _ (not_from_false _ (free-none s.name free))
          (ap not (ends-same s.name) ∙ (and_parts (nat_lt 0 (length s.name)) _ named).1)

  below-good : (letter n k : ℕ) → k ≤ symbol_lines h bytes → nets.is_name (name_below h bytes letter n k) ≡ true
  below-good letter n zero le = refl
  below-good letter n (suc k) le = symbol-name k (symbol h bytes k) (omega arith) refl letter n (name_below h bytes letter n k) (below-good letter n k (omega arith))

  pub names_good : (letter count : ℕ) → AreNames count (names_of h bytes letter count)
  names_good letter count = record {
    many = length-map-range_with_len (name_of h bytes letter) 0 count;
    good = λ n lt.
        let inside : n < count = omega (arith, lt, length-map-range_with_len (name_of h bytes letter) 0 count) in
        let P : List ℕ → Type 0 = λ l. IsTrue (nets.is_name l) in
        subst P (sym (get_or-map-range_with_len (name_of h bytes letter) 0 count n n [] inside (omega arith))) (below-good letter n (symbol_lines h bytes) (omega arith));
  }
