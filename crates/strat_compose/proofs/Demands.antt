-- What the driven formula says of the outputs: the existential copies keep their constraints, are
-- fair, and the body holds.
use Rattle.std.proofs.Common.{append_assoc, ◌≡◌, ℕ, zero, suc, ◌+◌, ◌-◌, ◌*◌, ◌<◌, ◌≤◌, ◌↔◌, Bool, true, false, not, cond, nat_eq, nat_lt, List, [], ◌∷◌, ◌++◌, map, length, length-append, IsTrue, inl, inr, refl, sym, ap, ◌∙◌, subst, arith}
use Rattle.std.specs.List.{list_any}
use Rattle.std.proofs.lemmas.Bool.{and_from, and_parts, eqb-true, true_from_ne_false}
use Rattle.std.proofs.lemmas.List.{get_or_append_left, get_or-append-add, length-map}
use Rattle.hy_formula.specs.Trees.{Tree, always, and, atom, finally, globally}
use Rattle.hy_formula.specs.Temporal.{IsDecided, SatisfiesAt, Words, endless}
use Rattle.aig_net.specs.Nets.{AllTrue, IsRight, Net, Valuation, first_and, AreRight, literal_at, literal_value}
use Rattle.aig_net.specs.Executions.{IsFair, Word}
use Rattle.aig_net.specs.Wires.{Wire, all_of, both, literal, wire_value}
use Rattle.aig_net.proofs.Literals.{value-under}
use Rattle.aig_net.proofs.Wiring.{made-right}
use Rattle.aig_net.proofs.Copying.{copied-each, each-copied}
use Rattle.strat_compose.specs.declared.group.Group.{Group}
use Rattle.strat_compose.specs.declared.parts.Parts.{Parts}
use Rattle.hy_formula.specs.Atoms.{IndexedAtom, atoms_of, is_atom}
use Rattle.strat_compose.specs.AtomNumbers.{number_in, numbered}
use Rattle.strat_compose.specs.Completions.{AreRight as IsCompletionRight, shown_words}
use Rattle.strat_compose.specs.Driving.{atom_literal, conjunction, driven, driven_ands, driven_outputs, kept, owed_literals, parts_of}
use Rattle.strat_compose.specs.Formulas.{are_fair, demanded, driven_body, is_kept, kept_part, output_words}
use Rattle.strat_compose.specs.Groups.{literal_in, literals_in, part, placed}
use Rattle.strat_compose.proofs.Conjuncts.{gathered-right, globally-lasts}
use Rattle.strat_compose.proofs.Fitting.{many-driven_latches}
use Rattle.strat_compose.proofs.Numbering.{all-in, at-number, numbered-same}
use Rattle.strat_compose.proofs.Placing.{many-literals}

pub next-fair : (name n : ℕ) → 0 < n →
    and (globally (finally (atom name 0))) (are_fair (name + 1) (n - 1)) ≡ are_fair name n
next-fair name zero some = absurd (omega arith)
next-fair name (suc n) some =
    let up : name + 1 ≡ suc name = omega arith in
    let down : suc n - 1 ≡ n = omega arith in
    rw (up, down) refl

-- ---- G of a name, and G F of a name

module _ (words : Words) where
  abbrev S : Tree → ℕ → Type 0
  S f i = SatisfiesAt endless words f i

  kept-always : (name : ℕ) →
      S (is_kept name) 0 ↔ ((i : ℕ) → IsTrue (words name 0 i))
  kept-always name =
      let lasts = globally-lasts endless (S (atom name 0)) 0 in (
        λ h i. true_from_ne_false _ (λ not_there.
            lasts.0 h i (omega arith) tt (λ there. absurd (cc))),
        λ all. lasts.1 (λ j le there not_p. not_p (all j)),
      )

  -- The name is there again and again.
  abbrev pub Recurring : ℕ → Type 0
  Recurring name = (i : ℕ) → (k : ℕ) × (i ≤ k) × IsTrue (words name 0 k)

  again-always : IsDecided endless words → (name : ℕ) →
      S (globally (finally (atom name 0))) 0 ↔ Recurring name
  again-always decided name =
      let lasts = globally-lasts endless (S (finally (atom name 0))) 0 in (
        λ h i. elim (decided (finally (atom name 0)) i) [
          | inl (k, le, _, there, _) ↦ (k, le, there)
          | inr never ↦ absurd (lasts.0 h i (omega arith) tt never)
        ],
        λ all. lasts.1 (λ j le there not_p.
            let (k, from, is) = all j in not_p (k, from, tt, is, λ _ _ _. tt)),
      )

  fair-always : IsDecided endless words → (name n : ℕ) →
      S (are_fair name n) 0 ↔ ((k : ℕ) → k < n → Recurring (name + k))
  fair-always decided name zero = (λ _ k lt. absurd (omega arith), λ _. tt)
  fair-always decided name (suc n) =
      let here = again-always decided name in
      let rest = fair-always decided (suc name) n in (
        λ (first, later). at (here.0 first) (rest.0 later),
        λ all. (
          here.1 (let none : name + 0 ≡ name = omega arith in
              subst Recurring none (all 0 (omega arith))),
          rest.1 (λ k lt. let up : name + suc k ≡ suc name + k = omega arith in
              subst Recurring up (all (suc k) (omega arith))),
        ),
      )
    where
      at : Recurring name → ((k : ℕ) → k < n → Recurring (suc name + k)) → (k : ℕ) → k < suc n →
          Recurring (name + k)
      at first later zero lt =
          let none : name ≡ name + 0 = omega arith in subst Recurring none first
      at first later (suc k) lt =
          let up : suc name + k ≡ name + suc k = omega arith in
          subst Recurring up (later k (omega arith))

-- ---- conjunctions

all-of-true : (v : Valuation) (w : Wire) (literals : List ℕ) →
    (wire_value v (all_of w (map literal literals)) ≡ true)
    ↔ ((wire_value v w ≡ true) × AllTrue literals v)
all-of-true v w [] = (λ h. (h, λ j lt. absurd (omega arith)), λ h. h.0)
all-of-true v w (l ∷ literals) =
    let rest = all-of-true v (both w (literal l)) literals in (
      λ h. let (two, later) = rest.0 h in
          let (p, q) = and_parts (wire_value v w) (literal_value v l) two in (p, at q later),
      λ (p, all). rest.1 (
        and_from _ _ p (all 0 (omega arith)),
        λ j lt. all (suc j) (omega arith),
      ),
    )
  where
    at : literal_value v l ≡ true → AllTrue literals v → AllTrue (l ∷ literals) v
    at here later zero lt = here
    at here later (suc j) lt = later j (omega arith)

pub conjunction-true : (v : Valuation) → v 0 ≡ false → (literals : List ℕ) →
    (wire_value v (conjunction literals) ≡ true) ↔ AllTrue literals v
conjunction-true v constant [] = (λ _ j lt. absurd (omega arith), λ _. ap not constant)
conjunction-true v constant (l ∷ literals) =
    let all = all-of-true v (literal l) literals in (
      λ h. let (first, later) = all.0 h in at first later,
      λ h. all.1 (h 0 (omega arith), λ j lt. h (suc j) (omega arith)),
    )
  where
    at : literal_value v l ≡ true → AllTrue literals v → AllTrue (l ∷ literals) v
    at here later zero lt = here
    at here later (suc j) lt = later j (omega arith)

-- ---- literals in the copies of a group

module _ (net : Net) (group : Group) (word : Word) where
  pub copies-true : (literals : List ℕ) (i : ℕ) →
      AllTrue (literals_in net group literals) (word i)
      ↔ ((d : ℕ) → d < group.copies → AllTrue literals (part net group d word i))
  copies-true literals i = (
    λ all d few j row.
        sym (value-under (word i) (placed net group d) (literal_at literals j))
        ∙ copied-each group.copies (literal_in net group) literals 0 0
        (λ _ l. IsTrue (literal_value (word i) l)) all d j few row,
    λ all. each-copied group.copies (literal_in net group) literals 0 0
        (λ _ l. IsTrue (literal_value (word i) l))
        (λ d j few row. value-under (word i) (placed net group d) (literal_at literals j)
        ∙ all d few j row),
  )

  abbrev pub Again : ℕ → ℕ → Type 0
  Again _ l = (i : ℕ) → (k : ℕ) × (i ≤ k) × IsTrue (literal_value (word k) l)

  pub copies-fair : ((j : ℕ) → j < length (literals_in net group net.fairs) →
      Again j (literal_at (literals_in net group net.fairs) j))
      ↔ ((d : ℕ) → d < group.copies → IsFair net (part net group d word))
  copies-fair = (
    λ all d few j row i.
        let (k, from, is) = copied-each group.copies (literal_in net group) net.fairs 0 0 Again
        all d j few row i in
        (k, from, sym (value-under (word k) (placed net group d) (literal_at net.fairs j)) ∙ is),
    λ all. each-copied group.copies (literal_in net group) net.fairs 0 0 Again
        (λ d j few row i. let (k, from, is) = all d few j row i in
        (k, from, value-under (word k) (placed net group d) (literal_at net.fairs j) ∙ is)),
  )

-- ---- the outputs of the driven net

module _ (net strategy : Net) (m e : ℕ) (signal : ℕ → ℕ) (body : Tree) (word : Word) where
  abbrev parts : Parts
  parts = parts_of net strategy m e

  abbrev atoms : List IndexedAtom
  atoms = atoms_of body

  abbrev own : List ℕ
  own = map (atom_literal net parts signal) atoms

  abbrev ok : ℕ
  ok = (kept net strategy parts).literal

  abbrev fairs : List ℕ
  fairs = literals_in net parts.existential net.fairs

  abbrev outputs : List ℕ
  outputs = driven_outputs net strategy parts signal atoms

  abbrev words : Words
  words = output_words net strategy parts signal atoms word

  abbrev given : ℕ → Word
  given c = part net parts.universal c word

  abbrev copies : ℕ → Word
  copies d = part net parts.existential d word

  abbrev tuple : Words
  tuple = shown_words signal m given copies

  ok-at : literal_at outputs (length atoms) ≡ ok
  ok-at =
      let many = length-map atoms (atom_literal net parts signal) in
      let two = length-append own (ok ∷ []) in
      let here : length atoms ≡ length own + 0 = omega (arith, many) in
      get_or_append_left (own ++ ok ∷ []) fairs 0 (length atoms) (omega (arith, many, two))
      ∙ ap (literal_at (own ++ ok ∷ [])) here ∙ get_or-append-add own (ok ∷ []) 0 0

  fair-at : (k : ℕ) → literal_at outputs (suc (length atoms) + k) ≡ literal_at fairs k
  fair-at k =
      let many = length-map atoms (atom_literal net parts signal) in
      let two = length-append own (ok ∷ []) in
      let here : suc (length atoms) + k ≡ length (own ++ ok ∷ []) + k = omega (arith, many, two) in
      ap (literal_at outputs) here ∙ get_or-append-add (own ++ ok ∷ []) fairs k 0

  -- the literal of an atom says what its name says in its copy
  atom-shown : (name variable i : ℕ) →
      literal_value (word i)
      (atom_literal net parts signal (record { name = name; variable = variable }))
      ≡ tuple name variable i
  atom-shown name variable i = at (nat_lt variable m)
    where
      at : (b : Bool) → literal_value (word i)
          (cond b (literal_in net parts.universal variable (signal name))
          (literal_in net parts.existential (variable - m) (signal name)))
          ≡ literal_value (cond b (given variable) (copies (variable - m)) i) (signal name)
      at true = value-under (word i) (placed net parts.universal variable) (signal name)
      at false = value-under (word i) (placed net parts.existential (variable - m)) (signal name)

  atom-at : (name variable : ℕ) → list_any (is_atom name variable) atoms ≡ true →
      words (number_in atoms name variable) 0 ≡ tuple name variable
  atom-at name variable has =
      let number : literal_at outputs (number_in atoms name variable)
      ≡ atom_literal net parts signal (record { name = name; variable = variable }) =
      ap (λ l. literal_at l (number_in atoms name variable)) (append_assoc own (ok ∷ []) fairs)
      ∙ at-number (atom_literal net parts signal) 0 atoms (ok ∷ fairs) name variable has in
      let each : (i : ℕ) → words (number_in atoms name variable) 0 i ≡ tuple name variable i =
      λ i. ap (literal_value (word i)) number ∙ atom-shown name variable i in
      λ p i. each i p

  module _ (right : (i : ℕ) → IsRight (driven net strategy parts signal atoms) (word i))
      (decided : IsDecided endless words) where
    ok-true : (i : ℕ) → (literal_value (word i) ok ≡ true)
        ↔ ((d : ℕ) → d < e → AllTrue net.constraints (copies d i))
    ok-true i =
        let P : ℕ → Type 0 = λ first. AreRight first (kept net strategy parts).ands (word i) in
        let first : first_and (driven net strategy parts signal atoms) ≡ parts.universal.gate =
        ap (λ k. suc (net.inputs * m + k)) (many-driven_latches net strategy m e) in
        let (_, same) = made-right parts.universal.gate (driven_ands net strategy parts)
        (conjunction (owed_literals net parts)) (word i) (subst P first (right i).gates) in
        let all = conjunction-true (word i) (right i).constant (owed_literals net parts) in
        let each = copies-true net parts.existential word net.constraints i in (
          λ is. each.0 (all.0 (sym same ∙ is)),
          λ keep. same ∙ all.1 (each.1 keep),
        )

    kept-right : SatisfiesAt endless words (kept_part net (length atoms)) 0
        ↔ ((d i : ℕ) → d < e → AllTrue net.constraints (copies d i))
    kept-right = at (nat_eq (length net.constraints) 0) refl
      where
        at : (b : Bool) → nat_eq (length net.constraints) 0 ≡ b →
            SatisfiesAt endless words (cond b always (is_kept (length atoms))) 0
            ↔ ((d i : ℕ) → d < e → AllTrue net.constraints (copies d i))
        at true none =
            let no_constraint = eqb-true (length net.constraints) 0 none in
            (λ _ d i few j row. absurd (omega (arith, no_constraint, row)), λ _. tt)
        at false some =
            let always_kept = kept-always words (length atoms) in (
              λ h d i few. (ok-true i).0 (sym (ap (literal_value (word i)) ok-at)
                  ∙ always_kept.0 h i) d few,
              λ all. always_kept.1 (λ i. ap (literal_value (word i)) ok-at
                  ∙ (ok-true i).1 (λ d few. all d i few)),
            )

    fair-right : SatisfiesAt endless words (are_fair (suc (length atoms)) (e * length net.fairs)) 0
        ↔ ((d : ℕ) → d < e → IsFair net (copies d))
    fair-right =
        let each = fair-always words decided (suc (length atoms)) (e * length net.fairs) in
        let many = many-literals net parts.existential net.fairs in
        let all = copies-fair net parts.existential word in (
          λ h. all.0 (λ j lt i. let (k, from, is) = each.0 h j (omega (arith, lt, many)) i in
              (k, from, sym (ap (literal_value (word k)) (fair-at j)) ∙ is)),
          λ fair. each.1 (λ j lt i.
              let (k, from, is) = all.1 fair j (omega (arith, lt, many)) i in
              (k, from, ap (literal_value (word k)) (fair-at j) ∙ is)),
        )

    pub driven-right : SatisfiesAt endless words (driven_body net e body) 0
        ↔ (IsCompletionRight net e copies × SatisfiesAt endless tuple body 0)
    driven-right =
        let whole = gathered-right endless words (demanded net e atoms body) 0 in
        let same : SatisfiesAt endless words (numbered atoms body) 0
        ≡ SatisfiesAt endless tuple body 0 =
        ap (λ (P : ℕ → Type 0). P 0)
        (numbered-same endless words tuple atoms atom-at body (all-in body [])) in
        let Q : Type 0 → Type 0 = λ X. X in (
          λ h. let (keep, (fair, own)) = whole.0 h in (
            record { kept = kept-right.0 keep; fair = fair-right.0 fair },
            subst Q same own,
          ),
          λ (are, own). whole.1 (
            kept-right.1 are.kept,
            (fair-right.1 are.fair, subst Q (sym same) own),
          ),
        )
