-- One symbol line after the other: what is named behind it.
use Rattle.std.proofs.Common.{◌≡◌, ℕ, zero, suc, ◌+◌, ◌<◌, ◌⊎◌, Bool, true, false, not, ◌&&◌, ◌||◌, nat_eq, inl, inr, refl, sym, ◌∙◌, ap, subst, arith, cond, List, [], length, Option, Some, None}
use Rattle.std.specs.Prelude.{slice_index_or, slice_set, nat_lt}
use Rattle.std.proofs.lemmas.Bool.{cases_eq, eqb-true, eq-eqb, ltb-true, and_parts, cases_Bool}
use Rattle.std.proofs.lemmas.List.{get_or-set_same, get_or-set_other, length-set}
use Rattle.aig_kind.specs.declared.kind.AigKind.TheVariants.{Symbol as SymbolFault}
use Rattle.aiger_body.specs.declared.header.Header.{Header}
use Rattle.aig_order.specs.Firsts.{when, first_some, any_below}
use Rattle.aig_order.proofs.Firsts.{first-here}
use Rattle.aiger_body.specs.Texts.{piece_at, place, is_ended, is_feed, line_text}
use Rattle.aiger_body.specs.Files.{tail_start}
use Rattle.aiger_body.specs.Symbols.{Symbol, symbol_of, is_symbol, is_name, names_same, tail_lines, symbol, is_repeated, is_good_symbol, name_in, name_below, begins_comment, count_of}
use Rattle.aiger_body.specs.Outcomes.{of_symbol, fault}
use Rattle.aiger_read.specs.declared.names.Names.{Names}
use Rattle.aiger_read.specs.declared.names.Reading.{Reading}
use Rattle.aiger_read.specs.Symbols.{start_of}
use Rattle.aiger_read.specs.Naming.{AreLong, IsNew, place_of, is_marked, is_kept, IsKept, with_one}
use Rattle.aiger_read.proofs.OwnPlaces.{letter_same, number_same, place_small}

-- symbol line k names number n of the kind with the letter
abbrev pub names_number : Header → List ℕ → ℕ → ℕ → ℕ → Bool
names_number h bytes letter n k = names_same (symbol h bytes k) (Some (record { kind = letter; number = n; name = [] }))

-- the names that the first k lines give
abbrev pub AreGiven : Header → List ℕ → ℕ → ℕ → ℕ → List (List ℕ) → Type 0
AreGiven h bytes letter count k names = (n : ℕ) → n < count → slice_index_or names n [] ≡ name_below h bytes letter n k

-- the first k lines
pub record AreRead (h : Header) (bytes : List ℕ) (k : ℕ) (r : Reading) : Type 0 where
  pub long : AreLong h r
  pub marks : (letter n : ℕ) → n < count_of h letter → slice_index_or r.named (start_of h letter + n) false ≡ any_below k (names_number h bytes letter n)
  pub inputs : AreGiven h bytes 105 h.inputs k r.names.inputs
  pub latches : AreGiven h bytes 108 h.latches k r.names.latches
  pub outputs : AreGiven h bytes 111 h.outputs k r.names.outputs
  pub clear : first_some k (of_symbol h bytes) ≡ None
  pub open_lines : (j : ℕ) → j < k → begins_comment (piece_at (tail_lines h bytes) j) ≡ false

pub none_read : (h : Header) (bytes : List ℕ) (r : Reading) → IsNew h r → AreRead h bytes 0 r
none_read h bytes r new = record {
  long = new.long;
  marks = λ letter n lt. new.named _;
  inputs = λ n lt. new.inputs n;
  latches = λ n lt. new.latches n;
  outputs = λ n lt. new.outputs n;
  clear = refl;
  open_lines = λ j lt. absurd (omega arith);
}

-- ---- whether a line is kept

any-same : (k : ℕ) (f g : ℕ → Bool) → ((j : ℕ) → f j ≡ g j) → any_below k f ≡ any_below k g
any-same zero f g same = refl
any-same (suc k) f g same = ap (λ b. b || f k) (any-same k f g same) ∙ ap (λ b. any_below k g || b) (same k)

same-number : (o : Option Symbol) (s : Symbol) → names_same o (Some (record { kind = s.kind; number = s.number; name = [] })) ≡ names_same o (Some s)
same-number None s = refl
same-number (Some t) s = refl

and-last : (a b c d : Bool) → (b ≡ true → c ≡ d) → (a && b && not c) ≡ (a && b && not d)
and-last false b c d same = refl
and-last true false c d same = refl
and-last true true c d same = ap not (same refl)

module _ (h : Header) (bytes : List ℕ) (k : ℕ) (r : Reading) (are : AreRead h bytes k r) where
  count-of : (o : Option Symbol) (s : Symbol) → o ≡ Some s → is_symbol h o ≡ true → (s.number < count_of h s.kind) × (is_name s.name ≡ true)
  count-of None s is e = absurd (cc)
  count-of (Some t) s is e =
      let same : t ≡ s = cc in
      let both = and_parts (nat_lt t.number (count_of h t.kind)) _ e in
      let P : Symbol → Type 0 = λ x. (x.number < count_of h x.kind) × (is_name x.name ≡ true) in
      subst P same (ltb-true _ _ both.0, both.1)

  marked-is : (o : Option Symbol) → symbol h bytes k ≡ o → is_symbol h o ≡ true → is_marked h r.named o ≡ is_repeated h bytes k
  marked-is None is e = absurd (cc)
  marked-is (Some s) is e =
      are.marks s.kind s.number (count-of (Some s) s refl e).0
      ∙ any-same k _ _ (λ j. same-number (symbol h bytes j) s)
      ∙ ap (λ o. any_below k (λ j. names_same (symbol h bytes j) o)) (sym is)

  -- the line is kept exactly where it is a good symbol line
  pub kept_good : (line : List ℕ) → line ≡ piece_at (tail_lines h bytes) k → is_kept h line r.named ≡ is_good_symbol h bytes k
  kept_good line is =
      ap (λ l. is_kept h l r.named) is
      ∙ and-last (is_ended is_feed (piece_at (tail_lines h bytes) k)) (is_symbol h (symbol h bytes k)) (is_marked h r.named (symbol h bytes k)) (is_repeated h bytes k) (λ e. marked-is (symbol h bytes k) refl e)

  pub fault_here : is_good_symbol h bytes k ≡ false → of_symbol h bytes k ≡ Some (fault SymbolFault (tail_start h bytes + place (tail_lines h bytes) k))
  fault_here e = ap (λ b. when (not b) (fault SymbolFault (tail_start h bytes + place (tail_lines h bytes) k))) e

  -- ---- and what is kept then

  module _ (new : Reading) (line : List ℕ) (is : line ≡ piece_at (tail_lines h bytes) k) (kept : IsKept h line r new) (plain : begins_comment line ≡ false) where
    abbrev s : Symbol
    s = kept.s

    here : symbol h bytes k ≡ Some s
    here = ap (λ l. symbol_of (line_text l)) (sym is) ∙ kept.said

    symbol-good : is_symbol h (symbol_of (line_text line)) ≡ true
    symbol-good = (and_parts (is_ended is_feed line) _ (and_parts (is_ended is_feed line && is_symbol h (symbol_of (line_text line))) _ kept.kept).0).1

    small : s.number < count_of h s.kind
    small = (count-of (symbol_of (line_text line)) s kept.said symbol-good).0

    mark-more : (letter n : ℕ) → n < count_of h letter → slice_index_or new.named (start_of h letter + n) false ≡ any_below (suc k) (names_number h bytes letter n)
    mark-more letter n lt =
        ap (λ l. slice_index_or l (start_of h letter + n) false) kept.named
        ∙ step (nat_eq s.kind letter && nat_eq s.number n) refl
        ∙ ap (λ o. any_below k (names_number h bytes letter n) || names_same o (Some (record { kind = letter; number = n; name = [] }))) (sym here)
      where
        step : (b : Bool) → (nat_eq s.kind letter && nat_eq s.number n) ≡ b → slice_index_or (slice_set r.named (place_of h s) true) (start_of h letter + n) false ≡ (any_below k (names_number h bytes letter n) || (nat_eq s.kind letter && nat_eq s.number n))
        step true e =
            let both = and_parts (nat_eq s.kind letter) _ e in
            let at : start_of h letter + n ≡ place_of h s = omega (arith, ap (start_of h) (eqb-true _ _ both.0), eqb-true _ _ both.1) in
            let inside : place_of h s < length r.named = omega (arith, place_small h s.kind s.number small, are.long.named) in
            ap (λ i. slice_index_or (slice_set r.named (place_of h s) true) i false) at
            ∙ get_or-set_same r.named (place_of h s) true false inside
            ∙ sym (ap (λ b. any_below k (names_number h bytes letter n) || b) e ∙ or-yes (any_below k (names_number h bytes letter n)))
          where
            or-yes : (b : Bool) → (b || true) ≡ true
            or-yes true = refl
            or-yes false = refl
        step false e =
            get_or-set_other r.named (place_of h s) (start_of h letter + n) true false apart
            ∙ are.marks letter n lt
            ∙ sym (ap (λ b. any_below k (names_number h bytes letter n) || b) e ∙ or-no (any_below k (names_number h bytes letter n)))
          where
            or-no : (b : Bool) → (b || false) ≡ b
            or-no true = refl
            or-no false = refl

            apart : start_of h letter + n ≡ place_of h s → ⊥
            apart same =
                let one : s.kind ≡ letter = letter_same h s.kind letter s.number n small lt (sym same) in
                let two : s.number ≡ n = number_same h s.kind letter s.number n small lt (sym same) in
                let yes_both : (nat_eq s.kind letter && nat_eq s.number n) ≡ true = ap (λ b. b && nat_eq s.number n) (eq-eqb _ _ one) ∙ eq-eqb _ _ two in
                cc

    given-more : (letter count : ℕ) (names : List (List ℕ)) → count_of h letter ≡ count → length names ≡ count → AreGiven h bytes letter count k names → AreGiven h bytes letter count (suc k) (with_one letter s.kind s.number s.name names)
    given-more letter count names is_count many before n lt =
        step (nat_eq s.kind letter) refl ∙ ap (λ o. name_in letter n o (name_below h bytes letter n k)) (sym here)
      where
        step : (b : Bool) → nat_eq s.kind letter ≡ b → slice_index_or (cond b (slice_set names s.number s.name) names) n [] ≡ cond (b && nat_eq s.number n) s.name (name_below h bytes letter n k)
        step false e = before n lt
        step true e = elim (cases_eq n s.number) [
          | inl same ↦
              let inside : s.number < length names = omega (arith, small, ap (count_of h) (eqb-true _ _ e), is_count, many) in
              ap (λ i. slice_index_or (slice_set names s.number s.name) i []) same
              ∙ get_or-set_same names s.number s.name [] inside
              ∙ sym (ap (λ b. cond b s.name (name_below h bytes letter n k)) (eq-eqb _ _ (sym same)))
          | inr other ↦
              get_or-set_other names s.number n s.name [] other
              ∙ before n lt
              ∙ sym (ap (λ b. cond b s.name (name_below h bytes letter n k)) (unequal s.number n (λ same. other (sym same))))
        ]
          where
            unequal : (a b : ℕ) → (a ≡ b → ⊥) → nat_eq a b ≡ false
            unequal a b apart = from (cases_Bool (nat_eq a b))
              where
                from : (nat_eq a b ≡ true) ⊎ (nat_eq a b ≡ false) → nat_eq a b ≡ false
                from (inl same) = absurd (apart (eqb-true a b same))
                from (inr no_one) = no_one

    one-long : (letter : ℕ) (names : List (List ℕ)) → length (with_one letter s.kind s.number s.name names) ≡ length names
    one-long letter names = step (nat_eq s.kind letter)
      where
        step : (b : Bool) → length (cond b (slice_set names s.number s.name) names) ≡ length names
        step true = length-set names s.number s.name
        step false = refl

    pub read_more : AreRead h bytes (suc k) new
    read_more = record {
      long = record {
        named = ap length kept.named ∙ length-set r.named (place_of h s) true ∙ are.long.named;
        inputs = ap (λ (x : Names). length x.inputs) kept.names ∙ one-long 105 r.names.inputs ∙ are.long.inputs;
        latches = ap (λ (x : Names). length x.latches) kept.names ∙ one-long 108 r.names.latches ∙ are.long.latches;
        outputs = ap (λ (x : Names). length x.outputs) kept.names ∙ one-long 111 r.names.outputs ∙ are.long.outputs;
      };
      marks = mark-more;
      inputs = λ n lt. ap (λ (x : Names). slice_index_or x.inputs n []) kept.names ∙ given-more 105 h.inputs r.names.inputs refl are.long.inputs are.inputs n lt;
      latches = λ n lt. ap (λ (x : Names). slice_index_or x.latches n []) kept.names ∙ given-more 108 h.latches r.names.latches refl are.long.latches are.latches n lt;
      outputs = λ n lt. ap (λ (x : Names). slice_index_or x.outputs n []) kept.names ∙ given-more 111 h.outputs r.names.outputs refl are.long.outputs are.outputs n lt;
      clear = first-here (of_symbol h bytes) k are.clear ∙ ap (λ b. when (not b) (fault SymbolFault (tail_start h bytes + place (tail_lines h bytes) k))) (sym (kept_good line is) ∙ kept.kept);
      open_lines = λ j lt. elim (cases_eq j k) [
        | inl same ↦ ap (λ i. begins_comment (piece_at (tail_lines h bytes) i)) same ∙ ap begins_comment (sym is) ∙ plain
        | inr other ↦ are.open_lines j (omega arith)
      ];
    }
