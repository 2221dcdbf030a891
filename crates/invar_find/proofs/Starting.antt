-- The candidates, and those that are true at the start.
use Rattle.std.proofs.Common.{◌≡◌, ℕ, zero, suc, ◌+◌, ◌*◌, ◌<◌, ◌≤◌, ◌^◌, min, Bool, false, List, [], ◌∷◌, ◌++◌, length, inl, inr, refl, sym, ◌∙◌, subst, arith, length-append}
use Rattle.std.specs.Prelude.{Contains, ◌↔◌, Result, Ok, Err, IfErr, IfOk}
use Rattle.std.proofs.lemmas.List.Elements.{Contains-append_cases, Contains-get_or}
use Rattle.std.proofs.lemmas.List.Folds.{list_any_none}
use Rattle.hy_base.proofs.Members.{contains-none, contains-cases}
use Rattle.aig_net.specs.declared.parts.Reset.{Reset}
use Rattle.aig_net.specs.Nets.{Net, Valuation, IsStart, ResetTo, latch_variable}
use Rattle.live_safe.specs.declared.safe_net.SafeNet.{SafeNet}
use Rattle.cnf_frames.specs.declared.facts.Fact.{Fact}
use Rattle.cnf_frames.specs.declared.facts.Fact.TheVariants.{Zero, One, Same, Differ, AnyOf}
use Rattle.cnf_frames.specs.declared.queries.FrameError.{FrameError}
use Rattle.cnf_frames.specs.declared.queries.FrameError.TheVariants.{Limit, Memory}
use Rattle.cnf_frames.specs.Facts.{FactHolds, AllIn, AreAmong, IsIn, IsInductive, IsSafe, HoldsIn}
use Rattle.cnf_frames.specs.ProofTexts.{AreSimple, is_clause}
use Rattle.cnf_frames.proofs.DistinctChosen.{any-alike}
use Rattle.chain_check.specs.FewClauses.{for_each}
use Rattle.invar_find.specs.Candidates.{candidates, pairs_with, single_facts}
use Rattle.invar_find.specs.declared.kept.Kept.{Kept}
use Rattle.invar_find.specs.Kepts.{AreStarting, IsKeptOf, IsStoppedAt}
use Rattle.invar_find.specs.Parts.{IsSublist}
use Rattle.invar_find.specs.Searches.{IsSearching}
use Rattle.invar_find.specs.Standing.{AreLeft}
use Rattle.invar_find.proofs.Sublists.{sublist-among, sublist-length, sublist-trans}

pub if-ok-map : {T E : Type 0} (r : Result T E) (P Q : T → Type 0) → IfOk r P →
    ((v : T) → P v → Q v) → IfOk r Q
if-ok-map (Ok v) P Q h f = f v h
if-ok-map (Err e) P Q h f = tt

pub if-err-map : {T E : Type 0} (r : Result T E) (P Q : E → Type 0) → IfErr r P →
    ((e : E) → P e → Q e) → IfErr r Q
if-err-map (Ok v) P Q h f = tt
if-err-map (Err e) P Q h f = f e h

-- ---- which candidates there are

for_each-cases : (g : ℕ → List Fact) (n : ℕ) (f : Fact) → Contains (for_each g n) f →
    (i : ℕ) × (i < n) × Contains (g i) f
for_each-cases g zero f has = absurd (contains-none f has)
for_each-cases g (suc n) f has = elim (Contains-append_cases (for_each g n) (g n) f has) [
  | inl before ↦ let (i, lt, one) = for_each-cases g n f before in (i, omega arith, one)
  | inr here ↦ (n, omega arith, here)
]

pub for_each-all : (P : Fact → Type 0) (g : ℕ → List Fact) (n : ℕ) →
    ((i : ℕ) → i < n → (f : Fact) → Contains (g i) f → P f) → (f : Fact) →
    Contains (for_each g n) f → P f
for_each-all P g n each f has =
    let (i, lt, one) = for_each-cases g n f has in each i lt f one

pub two-all : (P : Fact → Type 0) (a b : Fact) → P a → P b → (f : Fact) →
    Contains (a ∷ b ∷ []) f → P f
two-all P a b first second f has = elim (contains-cases a f (b ∷ []) has) [
  | inl same ↦ subst P same first
  | inr later ↦ elim (contains-cases b f [] later) [
    | inl same ↦ subst P same second
    | inr never ↦ absurd (contains-none f never)
  ]
]

pub candidate-in : (n : ℕ) → AllIn n (candidates n)
candidate-in n f has =
    elim (Contains-append_cases (single_facts n) (for_each pairs_with (min n 512)) f has) [
      | inl single ↦
          for_each-all (IsIn n) (λ j. Zero j ∷ One j ∷ []) n
          (λ j lt. two-all (IsIn n) (Zero j) (One j) lt lt) f single
      | inr pair ↦
          for_each-all (IsIn n) pairs_with (min n 512)
          (λ j lt. for_each-all (IsIn n) (λ i. Same i j ∷ Differ i j ∷ []) j
          (λ i less. two-all (IsIn n) (Same i j) (Differ i j) (omega arith, omega arith)
          (omega arith, omega arith))) f pair
    ]

candidate-simple : (n : ℕ) (f : Fact) → Contains (candidates n) f → is_clause f ≡ false
candidate-simple n f has =
    let P : Fact → Type 0 = λ f. is_clause f ≡ false in
    elim (Contains-append_cases (single_facts n) (for_each pairs_with (min n 512)) f has) [
      | inl single ↦
          for_each-all P (λ j. Zero j ∷ One j ∷ []) n
          (λ j lt. two-all P (Zero j) (One j) refl refl) f single
      | inr pair ↦
          for_each-all P pairs_with (min n 512)
          (λ j lt. for_each-all P (λ i. Same i j ∷ Differ i j ∷ []) j
          (λ i less. two-all P (Same i j) (Differ i j) refl refl)) f pair
    ]

pub candidates-simple : (n : ℕ) (facts : List Fact) → IsSublist facts (candidates n) → AreSimple facts
candidates-simple n facts part =
    list_any_none is_clause facts (λ k d lt.
    candidate-simple n _ (sublist-among _ _ part _ (Contains-get_or facts k d lt)))

length-for_each : (g : ℕ → List Fact) (m n : ℕ) → ((i : ℕ) → i < n → length (g i) ≤ m) →
    length (for_each g n) ≤ n * m
length-for_each g m zero each = omega arith
length-for_each g m (suc n) each =
    let before : length (for_each g n) ≤ n * m =
    length-for_each g m n (λ i lt. each i (omega arith)) in
    let here : length (g n) ≤ m = each n (omega arith) in
    let e : length (for_each g n ++ g n) ≡ length (for_each g n) + length (g n) =
    length-append _ _ in
    omega (arith, before, here, e)

pub candidates-few : (n : ℕ) → n < 2 ^ 31 → length (candidates n) < 2 ^ 37
candidates-few n few =
    let single : length (single_facts n) ≤ n * 2 =
    length-for_each (λ j. Zero j ∷ One j ∷ []) 2 n (λ i lt. omega arith) in
    let pairs : length (for_each pairs_with (min n 512)) ≤ min n 512 * 1024 =
    length-for_each pairs_with 1024 (min n 512) (λ j lt.
    let two : length (pairs_with j) ≤ j * 2 =
    length-for_each (λ i. Same i j ∷ Differ i j ∷ []) 2 j (λ i less. omega arith) in
    omega (arith, two)) in
    let e : length (candidates n) ≡
    length (single_facts n) + length (for_each pairs_with (min n 512)) = length-append _ _ in
    omega (arith, few, single, pairs, e)

-- ---- facts in a state

pub holds-alike : (net : Net) (v : Valuation) (n : ℕ) (state : ℕ → Bool) →
    ((j : ℕ) → j < n → state j ≡ v (latch_variable net j)) → (f : Fact) → IsIn n f →
    HoldsIn state f ↔ FactHolds net v f
holds-alike net v n state same (Zero j) lt = (λ h. sym (same j lt) ∙ h, λ h. same j lt ∙ h)
holds-alike net v n state same (One j) lt = (λ h. sym (same j lt) ∙ h, λ h. same j lt ∙ h)
holds-alike net v n state same (Same i j) (li, lj) =
    (λ h. sym (same i li) ∙ h ∙ same j lj, λ h. same i li ∙ h ∙ sym (same j lj))
holds-alike net v n state same (Differ i j) (li, lj) =
    (λ h e. h (same i li ∙ e ∙ sym (same j lj)), λ h e. h (sym (same i li) ∙ e ∙ same j lj))
holds-alike net v n state same (AnyOf ls) (some, all) =
    let e = any-alike n state (λ j. v (latch_variable net j)) same ls all in
    (λ h. sym e ∙ h, λ h. e ∙ h)

-- ---- the start

further-starting : (safe : SafeNet) (tried facts some : List Fact) → IsSublist facts tried →
    AreStarting safe facts some → AreStarting safe tried some
further-starting safe tried facts some part was = record {
  sublist = sublist-trans was.sublist part;
  inside = was.inside;
  starts = was.starts;
}

start-false : (safe : SafeNet) → IsSafe safe → (v : Valuation) → IsStart safe.net v → (j : ℕ) →
    j < length safe.net.latches → v (latch_variable safe.net j) ≡ false
start-false safe is v start j lt =
    let P : Reset → Type 0 = λ r. ResetTo r (v (latch_variable safe.net j)) in
    subst P (is.zero j) (start j lt)

module _ (safe : SafeNet) (tried facts : List Fact) (state : ℕ → Bool) (is : IsSafe safe)
    (inside : AllIn (length safe.net.latches) tried)
    (zeros : (j : ℕ) → j < length safe.net.latches → state j ≡ false)
    (those : AreLeft safe.net tried state facts) where
  left-starting : AreStarting safe tried facts
  left-starting = record {
    sublist = those.sublist;
    inside = λ f has. inside f (sublist-among _ _ those.sublist f has);
    starts = λ v start f has.
        (holds-alike safe.net v (length safe.net.latches) state
        (λ j lt. zeros j lt ∙ sym (start-false safe is v start j lt)) f
        (inside f (sublist-among _ _ those.sublist f has))).0
        (those.right f has);
  }

  left-greatest : (some : List Fact) → IsInductive safe.net some →
      ((f : Fact) → Contains some f → Contains tried f) → AreAmong some facts
  left-greatest some inductive among =
      let v : Valuation = λ _. false in
      those.spared some inductive among (λ f has.
      (holds-alike safe.net v (length safe.net.latches) state zeros f
      (inside f (among f has))).1
      (inductive.starts v (λ j lt. let P : Reset → Type 0 = λ r. ResetTo r false in
      subst P (sym (is.zero j)) refl) f has))

pub started : (safe : SafeNet) (conflicts : ℕ) (tried facts : List Fact) (state : ℕ → Bool) →
    IsSafe safe → AllIn (length safe.net.latches) tried → length tried < 2 ^ 37 →
    ((j : ℕ) → j < length safe.net.latches → state j ≡ false) →
    AreLeft safe.net tried state facts → IsSearching safe tried conflicts facts []
started safe conflicts tried facts state is inside room zeros those = record {
  starting = left-starting safe tried facts state is inside zeros those;
  unspent = λ f has (s, among, _). contains-none s among;
  greatest = λ some inductive opens. left-greatest safe tried facts state is inside zeros those some
      inductive (λ f has. (opens f has).candidate);
  spent = λ s among. absurd (contains-none s among);
  few =
      let less = sublist-length those.sublist in
      omega (arith, less, room);
}

-- What is kept of candidates that are left of others is what is kept of these.
pub kept-further : (safe : SafeNet) (conflicts : ℕ) (tried facts : List Fact) (state : ℕ → Bool)
    (kept : Kept) → IsSafe safe → AllIn (length safe.net.latches) tried →
    ((j : ℕ) → j < length safe.net.latches → state j ≡ false) →
    AreLeft safe.net tried state facts → IsKeptOf safe facts conflicts kept →
    IsKeptOf safe tried conflicts kept
kept-further safe conflicts tried facts state kept is inside zeros those was = record {
  inside = was.inside;
  inductive = was.inductive;
  starting = further-starting safe tried facts kept.inv those.sublist was.starting;
  unspent = was.unspent;
  greatest = λ some inductive opens. was.greatest some inductive (λ f has. record {
    candidate = left-greatest safe tried facts state is inside zeros those some inductive
        (λ g there. (opens g there).candidate) f has;
    unspent = (opens f has).unspent;
  });
  logs = was.logs;
  within = was.within;
  spent = λ s has. let spent = was.spent s has in record {
    starting = further-starting safe tried facts s.facts those.sublist spent.starting;
    among = spent.among;
    group = spent.group;
    spent = spent.spent;
  };
}

pub stopped-further : (safe : SafeNet) (tried facts : List Fact) (e : FrameError) →
    IsSublist facts tried → IsStoppedAt safe facts e → IsStoppedAt safe tried e
stopped-further safe tried facts (Limit limit) part (some, group, starting, within, past, most) =
    (some, group, further-starting safe tried facts some part starting, within, past, most)
stopped-further safe tried facts Memory part stopped = tt
