-- The signals of the copies: that of a name and a copy.
use Rattle.std.proofs.Common.{◌≡◌, ℕ, zero, suc, ◌+◌, ◌<◌, ◌≤◌, Bool, true, false, ◌&&◌, cond, nat_eq, List, [], ◌∷◌, ◌++◌, Option, Some, None, unwrap_or, All, inl, inr, refl, sym, ap, ◌∙◌, subst, arith}
use Rattle.std.specs.Option.{option_map}
use Rattle.std.proofs.lemmas.Bool.{cases_eq, ne_eqb}
use Rattle.std.proofs.lemmas.Bool.Decides.{Decides-eqb}
use Rattle.hy_base.proofs.Truths.{and-false, and-true}
use Rattle.aig_net.specs.declared.signals.Signal.{Signal}
use Rattle.aig_net.specs.Nets.{Net, Below, variables}
use Rattle.aig_net.specs.Signals.{literal_of}
use Rattle.hy_base.specs.Rows.{listed}
use Rattle.aig_net.proofs.Copying.{each-copied}
use Rattle.self_compose.specs.Copies.{compose, copy_literal}
use Rattle.self_compose.proofs.Tuples.{copy-below}
use Rattle.sym_tableau.specs.Oracles.{signal_in}
use Rattle.sym_tableau.specs.Places.{AreWithin}
use Rattle.sym_tableau.proofs.Rooms.{signal-below}
use Rattle.wit_lasso.specs.FormulaNets.{AreOwn, copy_signal, copy_signals}

module _ (n name : ℕ) (s : Signal) (rest : List Signal) where
  abbrev own : ℕ → Signal
  own c = copy_signal n c s

  past : (m a c : ℕ) → c < a →
      literal_of (listed a m own ++ rest) name c ≡ literal_of rest name c
  past zero a c lt = refl
  past (suc m) a c lt =
      let no : nat_eq a c ≡ false = ne_eqb a c (λ e. omega (arith, e, lt)) in
      ap (λ b. cond (nat_eq s.name name && b) (Some (copy_literal n a s.literal))
      (literal_of (listed (suc a) m own ++ rest) name c)) no
      ∙ ap (λ b. cond b (Some (copy_literal n a s.literal))
      (literal_of (listed (suc a) m own ++ rest) name c)) (and-false (nat_eq s.name name))
      ∙ past m (suc a) c (omega arith)

  found : (m a c : ℕ) → a ≤ c → c < a + m →
      literal_of (listed a m own ++ rest) name c ≡ cond (nat_eq s.name name)
      (Some (copy_literal n c s.literal)) (literal_of rest name c)
  found zero a c le lt = absurd (omega arith)
  found (suc m) a c le lt =
      elim (cases_eq a c) [
        | inl e ↦
            let P : ℕ → Type 0 = λ a. literal_of (listed a (suc m) own ++ rest) name c
            ≡ cond (nat_eq s.name name) (Some (copy_literal n c s.literal))
            (literal_of rest name c) in
            let yes : nat_eq c c ≡ true = (Decides-eqb c c).1 refl in
            subst P (sym e) (
            ap (λ b. cond (nat_eq s.name name && b) (Some (copy_literal n c s.literal))
            (literal_of (listed (suc c) m own ++ rest) name c)) yes
            ∙ ap (λ b. cond b (Some (copy_literal n c s.literal))
            (literal_of (listed (suc c) m own ++ rest) name c)) (and-true (nat_eq s.name name))
            ∙ ap (λ o. cond (nat_eq s.name name) (Some (copy_literal n c s.literal)) o)
            (past m (suc c) c (omega arith)))
        | inr apart ↦
            let no : nat_eq a c ≡ false = ne_eqb a c apart in
            ap (λ b. cond (nat_eq s.name name && b) (Some (copy_literal n a s.literal))
            (literal_of (listed (suc a) m own ++ rest) name c)) no
            ∙ ap (λ b. cond b (Some (copy_literal n a s.literal))
            (literal_of (listed (suc a) m own ++ rest) name c)) (and-false (nat_eq s.name name))
            ∙ found m (suc a) c (omega (arith, le, apart)) (omega (arith, lt))
      ]

abbrev pub AreFirst : List Signal → Type 0
AreFirst signals = All (λ s. s.var ≡ 0) signals

pub literal-copied : (n name c : ℕ) → c < n → (signals : List Signal) → AreFirst signals →
    literal_of (copy_signals n signals) name c ≡ option_map (copy_literal n c)
    (literal_of signals name 0)
literal-copied n name c few [] own = refl
literal-copied n name c few (s ∷ signals) own =
    let rest = literal-copied n name c few signals (λ k d lt. own (suc k) d (omega arith)) in
    let none : s.var ≡ 0 = own 0 s (omega arith) in
    let yes : nat_eq s.var 0 ≡ true = (Decides-eqb s.var 0).1 none in
    found n name s (copy_signals n signals) n 0 c (omega arith) (omega (arith, few))
    ∙ ap (λ o. cond (nat_eq s.name name) (Some (copy_literal n c s.literal)) o) rest
    ∙ at (nat_eq s.name name)
    ∙ ap (λ b. option_map (copy_literal n c) (cond b (Some s.literal) (literal_of signals name 0)))
    (sym (and-true (nat_eq s.name name)) ∙ ap (λ b. nat_eq s.name name && b) (sym yes))
  where
    at : (b : Bool) → cond b (Some (copy_literal n c s.literal))
        (option_map (copy_literal n c) (literal_of signals name 0)) ≡ option_map (copy_literal n c)
        (cond b (Some s.literal) (literal_of signals name 0))
    at true = refl
    at false = refl

-- The literal of a name in copy c stands for that in the net.
pub signal-copied : (net : Net) (n name c : ℕ) → c < n → (signals : List Signal) →
    AreOwn net signals →
    signal_in (copy_signals n signals) name c ≡ copy_literal n c (signal_in signals name 0)
signal-copied net n name c few signals are =
    ap (λ o. unwrap_or o 0) (literal-copied n name c few signals are.own)
    ∙ at (literal_of signals name 0)
  where
    at : (o : Option ℕ) → unwrap_or (option_map (copy_literal n c) o) 0 ≡ copy_literal n c
        (unwrap_or o 0)
    at (Some l) = refl
    at None = refl

-- ---- they are in range

pub copies-within : (net : Net) (n : ℕ) → 0 < n → (signals : List Signal) → AreOwn net signals →
    AreWithin (variables (compose net n)) (copy_signals n signals)
copies-within net n some signals are k d lt =
    each-copied n (copy_signal n) signals d d
    (λ _ s. Below (variables (compose net n)) s.literal)
    (λ c j few row. copy-below net n some c _ few (are.within j d row)) k lt

pub copies-below : (net : Net) (n : ℕ) → 0 < n → (signals : List Signal) → AreOwn net signals →
    (name c : ℕ) → Below (variables (compose net n)) (signal_in (copy_signals n signals) name c)
copies-below net n some signals are name c =
    signal-below (variables (compose net n)) name c (copy_signals n signals) (omega arith)
    (copies-within net n some signals are)

pub own-below : (net : Net) (signals : List Signal) → AreOwn net signals → (name : ℕ) →
    Below (variables net) (signal_in signals name 0)
own-below net signals are name =
    signal-below (variables net) name 0 signals (omega arith) are.within
