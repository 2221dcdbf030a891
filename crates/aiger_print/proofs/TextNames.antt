-- The names of a printed text are those of the net, and no symbol line is at fault.
use Rattle.std.proofs.Common.{◌≡◌, ℕ, zero, suc, ◌+◌, ◌*◌, ◌^◌, ◌<◌, ◌≤◌, ◌⊎◌, Bool, true, false, cond, not, ◌&&◌, nat_eq, inl, inr, sym, ◌∙◌, ap, arith, Some, None, List, [], ◌++◌, map, flat_map, length, get_or, length-append, append_assoc}
use Rattle.std.specs.Prelude.{nat_lt, unwrap_or}
use Rattle.std.proofs.lemmas.Bool.{cases_eq, eqb-true, eq-eqb, lt-ltb, and_parts, and_from, not_from_false, cases_Bool}
use Rattle.std.proofs.lemmas.List.{length-map, get_or-map, get_or_append_left, get_or-append-add}
use Rattle.std.proofs.lemmas.List.FromFn.{fill_by_all}
use Rattle.std.proofs.lemmas.Grind.{flat_map-append}
use Rattle.aig_net.specs.declared.parts.NetParts.{NetParts}
use Rattle.aig_net.specs.Nets as nets
use Rattle.aig_net.specs.Nets.{IsNet, AreNames}
use Rattle.aig_order.specs.Firsts.{when, first_some}
use Rattle.aig_order.proofs.Firsts.{any-some}
use Rattle.aig_order.proofs.Sorted.{first-empty}
use Rattle.aig_kind.specs.declared.kind.AigKind.TheVariants.{Symbol as SymbolFault}
use Rattle.aiger_body.specs.declared.header.Header.{Header}
use Rattle.aiger_body.specs.Texts.{pieces, piece_at, place, is_ended, is_feed, line_text}
use Rattle.aiger_body.specs.Files.{tail_start}
use Rattle.aiger_body.specs.Symbols.{Symbol, symbol_of, is_symbol, names_same, tail_lines, begins_comment, symbol, symbol_lines, is_repeated, is_good_symbol, name_in, name_below, name_of, count_of}
use Rattle.aiger_body.specs.Outcomes.{fault, of_symbol, names_of}
use Rattle.aiger_body.proofs.Known.{none-first}
use Rattle.aiger_body.proofs.Pieces.{Free}
use Rattle.aiger_print.specs.Printed.{symbols_text, names_text}
use Rattle.aiger_print.proofs.Forms.{own_header, text_of}
use Rattle.aiger_print.proofs.OwnSymbols.{Every, every_map, every_append, every_at, no_symbol, at, given, IsGiven, every_given, given_has, key, Rising, rising_append, rising_at, rising_given, words_of, line_of_symbol, symbols_are, lines_cut, IsOwn, words_free, said_back, no_comment, line_ended, name_right}
use Rattle.aiger_print.proofs.TextContent.{tail_is}
use Rattle.aiger_print.proofs.TextRows.{rows_few}

-- all symbols of a net
abbrev pub symbols_of : NetParts → List Symbol
symbols_of net = given 105 0 net.input_names ++ (given 108 0 net.latch_names ++ given 111 0 net.output_names)

text-is : (net : NetParts) → names_text net ≡ flat_map line_of_symbol (symbols_of net)
text-is net =
    let I = given 105 0 net.input_names in
    let L = given 108 0 net.latch_names in
    let O = given 111 0 net.output_names in
    ap (λ i. (i ++ symbols_text 108 net.latch_names) ++ symbols_text 111 net.output_names) (symbols_are 105 net.input_names)
    ∙ ap (λ l. (flat_map line_of_symbol I ++ l) ++ symbols_text 111 net.output_names) (symbols_are 108 net.latch_names)
    ∙ ap (λ o. (flat_map line_of_symbol I ++ flat_map line_of_symbol L) ++ o) (symbols_are 111 net.output_names)
    ∙ append_assoc (flat_map line_of_symbol I) (flat_map line_of_symbol L) (flat_map line_of_symbol O)
    ∙ ap (λ l. flat_map line_of_symbol I ++ l) (sym (flat_map-append line_of_symbol L O))
    ∙ sym (flat_map-append line_of_symbol I (L ++ O))

module _ (b : Bool) (net : NetParts) (is : IsNet net) (few : net.inputs + length net.latches + length net.ands ≤ 1048576) (bytes : List ℕ) (e : bytes ≡ text_of b net) (small : length bytes ≤ 67108864) where
  abbrev h : Header
  h = own_header b net

  abbrev all : List Symbol
  all = symbols_of net

  -- each is of one of the three lists
  abbrev IsOf : Symbol → Type 0
  IsOf s = IsGiven 105 0 net.input_names s ⊎ IsGiven 108 0 net.latch_names s ⊎ IsGiven 111 0 net.output_names s

  every-of : Every IsOf all
  every-of =
      every_append IsOf (given 105 0 net.input_names) (given 108 0 net.latch_names ++ given 111 0 net.output_names) (every_map (IsGiven 105 0 net.input_names) IsOf (given 105 0 net.input_names) (λ s g. inl g) (every_given 105 0 net.input_names))
      (every_append IsOf (given 108 0 net.latch_names) (given 111 0 net.output_names) (every_map (IsGiven 108 0 net.latch_names) IsOf (given 108 0 net.latch_names) (λ s g. inr (inl g)) (every_given 108 0 net.latch_names))
      (every_map (IsGiven 111 0 net.output_names) IsOf (given 111 0 net.output_names) (λ s g. inr (inr g)) (every_given 111 0 net.output_names)))

  outputs-few : length net.outputs ≤ 67108864
  outputs-few = omega (arith, rows_few b net is few bytes e small)

  named-of : (n letter : ℕ) (list : List (List ℕ)) (s : Symbol) → AreNames n list → IsGiven letter 0 list s → nets.is_name s.name ≡ true
  named-of n letter list s good g = ap nets.is_name g.name ∙ good.good g.j g.inside

  own-of : (s : Symbol) → IsOf s → IsOwn s
  own-of s (inl g) = record { kind = inl g.kind; small = omega (arith, g.number, g.inside, is.input_names.many); some = g.some; named = named-of net.inputs 105 net.input_names s is.input_names g }
  own-of s (inr (inl g)) = record { kind = inr (inl g.kind); small = omega (arith, g.number, g.inside, is.latch_names.many); some = g.some; named = named-of (length net.latches) 108 net.latch_names s is.latch_names g }
  own-of s (inr (inr g)) = record { kind = inr (inr g.kind); small = omega (arith, g.number, g.inside, is.output_names.many, outputs-few); some = g.some; named = named-of (length net.outputs) 111 net.output_names s is.output_names g }

  every-own : Every IsOwn all
  every-own = every_map IsOf IsOwn all own-of every-of

  -- ---- the lines

  tail-lines : tail_lines h bytes ≡ map line_of_symbol all
  tail-lines = ap (pieces is_feed) (tail_is b net is few bytes e small ∙ text-is net) ∙ lines_cut all (every_map IsOwn (λ s. Free is_feed (words_of s)) all words_free every-own)

  line-at : (k : ℕ) → k < length all → piece_at (tail_lines h bytes) k ≡ line_of_symbol (at all k)
  line-at k lt = ap (λ ls. piece_at ls k) tail-lines ∙ get_or-map line_of_symbol all k no_symbol [] lt

  lines-many : length (tail_lines h bytes) ≡ length all
  lines-many = ap length tail-lines ∙ length-map all line_of_symbol

  symbol-at : (k : ℕ) → k < length all → symbol h bytes k ≡ Some (at all k)
  symbol-at k lt = ap (λ l. symbol_of (line_text l)) (line-at k lt) ∙ said_back (at all k) (every_at IsOwn all k every-own lt)

  symbol-lines : symbol_lines h bytes ≡ length all
  symbol-lines =
      ap (λ o. unwrap_or o (length (tail_lines h bytes))) (first-empty (length (tail_lines h bytes)) (λ k. begins_comment (piece_at (tail_lines h bytes) k)) (λ k lt.
      let inside : k < length all = omega (arith, lt, lines-many) in
      ap begins_comment (line-at k inside) ∙ no_comment (at all k) (every_at IsOwn all k every-own inside)))
      ∙ lines-many

  -- ---- no two are alike

  low-keys : (letter bound : ℕ) (list : List (List ℕ)) → length list < 2 ^ 40 → letter * 2 ^ 40 + 2 ^ 40 ≤ bound → Every (λ s. key s < bound) (given letter 0 list)
  low-keys letter bound list short le = every_map (IsGiven letter 0 list) (λ s. key s < bound) (given letter 0 list) (λ s g. omega (arith, ap (λ k. k * 2 ^ 40) g.kind, g.number, g.inside, short, le)) (every_given letter 0 list)

  high-keys : (letter bound : ℕ) (list : List (List ℕ)) → bound ≤ letter * 2 ^ 40 → Every (λ s. bound ≤ key s) (given letter 0 list)
  high-keys letter bound list le = every_map (IsGiven letter 0 list) (λ s. bound ≤ key s) (given letter 0 list) (λ s g. omega (arith, ap (λ k. k * 2 ^ 40) g.kind, le)) (every_given letter 0 list)

  rising : Rising all
  rising =
      rising_append (given 105 0 net.input_names) (given 108 0 net.latch_names ++ given 111 0 net.output_names) (108 * 2 ^ 40) (rising_given 105 net.input_names)
      (rising_append (given 108 0 net.latch_names) (given 111 0 net.output_names) (111 * 2 ^ 40) (rising_given 108 net.latch_names) (rising_given 111 net.output_names)
      (low-keys 108 (111 * 2 ^ 40) net.latch_names (omega (arith, is.latch_names.many)) (omega arith)) (high-keys 111 (111 * 2 ^ 40) net.output_names (omega arith)))
      (low-keys 105 (108 * 2 ^ 40) net.input_names (omega (arith, is.input_names.many)) (omega arith))
      (every_append (λ s. 108 * 2 ^ 40 ≤ key s) (given 108 0 net.latch_names) (given 111 0 net.output_names) (high-keys 108 (108 * 2 ^ 40) net.latch_names (omega arith)) (high-keys 111 (108 * 2 ^ 40) net.output_names (omega arith)))

  fresh : (k : ℕ) → k < length all → is_repeated h bytes k ≡ false
  fresh k lt = step (cases_Bool (is_repeated h bytes k))
    where
      step : (is_repeated h bytes k ≡ true) ⊎ (is_repeated h bytes k ≡ false) → is_repeated h bytes k ≡ false
      step (inr other) = other
      step (inl again) =
          let (j, less, same) = any-some k (λ j. names_same (symbol h bytes j) (symbol h bytes k)) again in
          let both_known : names_same (Some (at all j)) (Some (at all k)) ≡ true = ap (λ o. names_same o (Some (at all k))) (sym (symbol-at j (omega arith))) ∙ ap (names_same (symbol h bytes j)) (sym (symbol-at k lt)) ∙ same in
          let both = and_parts (nat_eq (at all j).kind (at all k).kind) _ both_known in
          absurd (omega (arith, rising_at all j k rising less lt, ap (λ x. x * 2 ^ 40) (eqb-true _ _ both.0), eqb-true _ _ both.1))

  -- ---- each line is a symbol of what is there

  counted-of : (s : Symbol) → IsOf s → nat_lt s.number (count_of h s.kind) ≡ true
  counted-of s (inl g) = ap (λ k. nat_lt s.number (count_of h k)) g.kind ∙ lt-ltb _ _ (omega (arith, g.number, g.inside, is.input_names.many))
  counted-of s (inr (inl g)) = ap (λ k. nat_lt s.number (count_of h k)) g.kind ∙ lt-ltb _ _ (omega (arith, g.number, g.inside, is.latch_names.many))
  counted-of s (inr (inr g)) = ap (λ k. nat_lt s.number (count_of h k)) g.kind ∙ lt-ltb _ _ (omega (arith, g.number, g.inside, is.output_names.many))

  good-line : (k : ℕ) → k < length all → is_good_symbol h bytes k ≡ true
  good-line k lt =
      let own = every_at IsOwn all k every-own lt in
      and_from (is_ended is_feed (piece_at (tail_lines h bytes) k) && is_symbol h (symbol h bytes k)) _
      (and_from (is_ended is_feed (piece_at (tail_lines h bytes) k)) _ (ap (is_ended is_feed) (line-at k lt) ∙ line_ended (at all k) own)
      (ap (is_symbol h) (symbol-at k lt) ∙ and_from _ _ (counted-of (at all k) (every_at IsOf all k every-of lt)) (name_right (at all k) own)))
      (not_from_false _ (fresh k lt))

  pub symbols_clear : first_some (symbol_lines h bytes) (of_symbol h bytes) ≡ None
  symbols_clear =
      ap (λ n. first_some n (of_symbol h bytes)) symbol-lines
      ∙ none-first h bytes (length all) (of_symbol h bytes) (λ k lt. ap (λ x. when (not x) (fault SymbolFault (tail_start h bytes + place (tail_lines h bytes) k))) (good-line k lt))

  -- ---- the names

  below-value : (letter n : ℕ) (name : List ℕ) (K : ℕ) → K ≤ length all → ((k : ℕ) → k < K → (nat_eq (at all k).kind letter && nat_eq (at all k).number n) ≡ true → (at all k).name ≡ name) → (name ≡ []) ⊎ ((k : ℕ) × (k < K) × ((nat_eq (at all k).kind letter && nat_eq (at all k).number n) ≡ true)) → name_below h bytes letter n K ≡ name
  below-value letter n name zero le each (inl none) = sym none
  below-value letter n name zero le each (inr (k, lt, m)) = absurd (omega arith)
  below-value letter n name (suc K) le each some =
      ap (λ o. name_in letter n o (name_below h bytes letter n K)) (symbol-at K (omega arith))
      ∙ elim (cases_Bool (nat_eq (at all K).kind letter && nat_eq (at all K).number n)) [
        | inl here ↦ ap (λ x. cond x (at all K).name (name_below h bytes letter n K)) here ∙ each K (omega arith) here
        | inr other ↦ ap (λ x. cond x (at all K).name (name_below h bytes letter n K)) other ∙ below-value letter n name K (omega arith) (λ k lt. each k (omega arith)) (earlier other some)
      ]
    where
      earlier : (nat_eq (at all K).kind letter && nat_eq (at all K).number n) ≡ false → (name ≡ []) ⊎ ((k : ℕ) × (k < suc K) × ((nat_eq (at all k).kind letter && nat_eq (at all k).number n) ≡ true)) → (name ≡ []) ⊎ ((k : ℕ) × (k < K) × ((nat_eq (at all k).kind letter && nat_eq (at all k).number n) ≡ true))
      earlier other (inl none) = inl none
      earlier other (inr (k, lt, m)) = elim (cases_eq k K) [
        | inl same ↦ absurd (let clash : (nat_eq (at all k).kind letter && nat_eq (at all k).number n) ≡ false = ap (λ i. nat_eq (at all i).kind letter && nat_eq (at all i).number n) same ∙ other in cc)
        | inr apart ↦ inr (k, omega arith, m)
      ]

  -- the names of one kind, whose symbols stand behind so many others
  kind-names : (letter count : ℕ) (list : List (List ℕ)) (offset : ℕ) → AreNames count list → ((s : Symbol) → IsOf s → s.kind ≡ letter → IsGiven letter 0 list s)
      → ((k : ℕ) → k < length (given letter 0 list) → (offset + k < length all) × (at all (offset + k) ≡ at (given letter 0 list) k)) → names_of h bytes letter count ≡ list
  kind-names letter count list offset good only there =
      sym (fill_by_all (name_of h bytes letter) list count [] good.many (λ n lt. sym (ap (name_below h bytes letter n) symbol-lines ∙ below-value letter n (get_or list n []) (length all) (omega arith) (right n) (found n lt))))
    where
      right : (n k : ℕ) → k < length all → (nat_eq (at all k).kind letter && nat_eq (at all k).number n) ≡ true → (at all k).name ≡ get_or list n []
      right n k lt m =
          let both = and_parts (nat_eq (at all k).kind letter) _ m in
          let g = only (at all k) (every_at IsOf all k every-of lt) (eqb-true _ _ both.0) in
          let same : g.j ≡ n = omega (arith, g.number, eqb-true _ _ both.1) in
          g.name ∙ ap (λ j. get_or list j []) same

      found : (n : ℕ) → n < count → (get_or list n [] ≡ []) ⊎ ((k : ℕ) × (k < length all) × ((nat_eq (at all k).kind letter && nat_eq (at all k).number n) ≡ true))
      found n lt = elim (given_has letter 0 list n (omega (arith, lt, good.many))) [
        | inl none ↦ inl none
        | inr has ↦
            let (inside, same) = there has.k has.inside in
            inr (offset + has.k, inside, and_from _ _ (eq-eqb _ _ (ap (λ (s : Symbol). s.kind) same ∙ has.kind)) (eq-eqb _ _ (ap (λ (s : Symbol). s.number) same ∙ has.number ∙ (omega arith))))
      ]

  abbrev I : List Symbol
  I = given 105 0 net.input_names

  abbrev L : List Symbol
  L = given 108 0 net.latch_names

  abbrev O : List Symbol
  O = given 111 0 net.output_names

  all-long : length all ≡ length I + (length L + length O)
  all-long = omega (arith, length-append I (L ++ O), length-append L O)

  pub input_names_are : names_of h bytes 105 net.inputs ≡ net.input_names
  input_names_are = kind-names 105 net.inputs net.input_names 0 is.input_names only (λ k lt.
      let q : 0 + k ≡ k = omega arith in
      (omega (arith, lt, all-long), ap (at all) q ∙ get_or_append_left I (L ++ O) no_symbol k lt))
    where
      only : (s : Symbol) → IsOf s → s.kind ≡ 105 → IsGiven 105 0 net.input_names s
      only s (inl g) same = g
      only s (inr (inl g)) same = absurd (omega (arith, g.kind, same))
      only s (inr (inr g)) same = absurd (omega (arith, g.kind, same))

  pub latch_names_are : names_of h bytes 108 (length net.latches) ≡ net.latch_names
  latch_names_are = kind-names 108 (length net.latches) net.latch_names (length I) is.latch_names only (λ k lt.
      (omega (arith, lt, all-long), get_or-append-add I (L ++ O) k no_symbol ∙ get_or_append_left L O no_symbol k lt))
    where
      only : (s : Symbol) → IsOf s → s.kind ≡ 108 → IsGiven 108 0 net.latch_names s
      only s (inl g) same = absurd (omega (arith, g.kind, same))
      only s (inr (inl g)) same = g
      only s (inr (inr g)) same = absurd (omega (arith, g.kind, same))

  pub output_names_are : names_of h bytes 111 (length net.outputs) ≡ net.output_names
  output_names_are = kind-names 111 (length net.outputs) net.output_names (length I + length L) is.output_names only (λ k lt.
      let q : length I + length L + k ≡ length I + (length L + k) = omega arith in
      (omega (arith, lt, all-long), ap (at all) q ∙ get_or-append-add I (L ++ O) (length L + k) no_symbol ∙ get_or-append-add L O k no_symbol))
    where
      only : (s : Symbol) → IsOf s → s.kind ≡ 111 → IsGiven 111 0 net.output_names s
      only s (inl g) same = absurd (omega (arith, g.kind, same))
      only s (inr (inl g)) same = absurd (omega (arith, g.kind, same))
      only s (inr (inr g)) same = g
