-- What a monitor stands for after each change of what it holds.
use Rattle.std.proofs.Common.{◌≡◌, ℕ, zero, suc, ◌+◌, ◌<◌, Bool, List, [], ◌∷◌, ◌++◌, length, map, slice_get, Some, refl, sym, ap, ◌∙◌, subst, arith}
use Rattle.std.proofs.lemmas.List.{length-append, length-map}
use Rattle.std.proofs.lemmas.Option.{slice_get_within}
use Rattle.hy_formula.specs.Quantifiers.{Each}
use Rattle.hy_formula.proofs.Each.{each-append}
use Rattle.hy_finite.specs.declared.lengths.Lengths.{Lengths}
use Rattle.hy_finite.specs.Traces.{Trace}
use Rattle.fin_monitor.specs.Machines.{Machine}
use Rattle.trace_trie.specs.Numbered.{Numbered}
use Rattle.dominance.specs.Dominance.{IsTrace}
use Rattle.rv_core.specs.declared.saved.Saved.{Saved}
use Rattle.rv_core.specs.Histories.{Session, Present, History, with_trace, with_sessions}
use Rattle.rv_core.specs.Endings.{Spec, spec_at, ViolatesSpec, IsClean}
use Rattle.rv_core.specs.Opened.{Open}
use Rattle.rv_core.specs.Keeping.{IsKept, AreKept, AreBelow, kept_at}
use Rattle.rv_core.specs.Held.{Held, spec_of, specs_of, AreSessions, AreSaves, StandsFor, AreWithin}
use Rattle.tuple_walk.specs.Finds.{AreViolating}
use Rattle.rv_core.specs.Arrivals.{IsPassed, IsNext, AreNext, FirstFound}
use Rattle.rv_core.specs.Masks.{masked, masked_list}
use Rattle.rv_core.specs.Replies.{IsFound, IsViolatedBy}
use Rattle.rv_core.proofs.Arriving.{found-in, stays-clean}
use Rattle.rv_core.proofs.Leading.{next-kept}
use Rattle.rv_core.proofs.Masking.{masked-some, masked-all-some, masked-push, violates-masked, violates-unmasked, violated-unmasked}

-- ---- specs by their numbers

pub spec-there : (ms : List Machine) (k : ℕ) (m : Machine) → slice_get ms k ≡ Some m
    → spec_at (map spec_of ms) k ≡ spec_of m
spec-there [] k m at = absurd (cc)
spec-there (x ∷ xs) zero m at = let same : x ≡ m = cc in ap spec_of same
spec-there (x ∷ xs) (suc k) m at = spec-there xs k m at

pub spec-some : (ms : List Machine) (k : ℕ) → k < length (map spec_of ms)
    → (m : Machine) × (slice_get ms k ≡ Some m)
spec-some [] k lt = absurd (omega arith)
spec-some (x ∷ xs) zero lt = (x, refl)
spec-some (x ∷ xs) (suc k) lt = spec-some xs k (omega arith)

spec-below : (ms : List Machine) (k : ℕ) (m : Machine) → slice_get ms k ≡ Some m
    → k < length (map spec_of ms)
spec-below ms k m at = omega (arith, slice_get_within ms k m at, length-map ms spec_of)

-- ---- a list of traces, and what is kept of it

module _ (rule : Lengths) (drop : Bool) (ms : List Machine) (list : List Trace)
    (kept : List (List Numbered)) (are : AreKept rule drop (map spec_of ms) list kept)
    (t : Trace) where
  pub kept-of : (s : ℕ) (m : Machine) → slice_get ms s ≡ Some m
      → IsKept rule drop (spec_of m) (masked_list (spec_of m) list) (kept_at kept s)
  kept-of s m at =
      let P : Spec → Type 0 = λ q. IsKept rule drop q (masked_list q list) (kept_at kept s) in
      subst P (spec-there ms s m at) (are.right s (spec-below ms s m at))

  module _ (some : Each IsTrace list) (more : IsTrace t)
      (clean : IsClean rule (map spec_of ms) list) where
    passed-clean : (s : ℕ) (m : Machine) → slice_get ms s ≡ Some m
        → IsPassed rule m (masked (spec_of m) t) (kept_at kept s)
        → ¬ ViolatesSpec rule (list ++ t ∷ []) (spec_at (map spec_of ms) s)
    passed-clean s m at passed =
        let spec = spec_of m in
        let P : List Trace → Type 0 = λ us. ViolatesSpec rule us spec in
        let Q : Spec → Type 0 = λ q. ¬ ViolatesSpec rule list q in
        let R : Spec → Type 0 = λ q. ¬ ViolatesSpec rule (list ++ t ∷ []) q in
        let before = subst Q (spec-there ms s m at) (clean s (spec-below ms s m at)) in
        let after = stays-clean rule drop m (masked_list spec list) (masked spec t)
        (kept_at kept s) (kept-of s m at) (λ v. before (violates-unmasked rule spec list v))
        (masked-all-some spec list some) (masked-some spec t more) passed in
        subst R (sym (spec-there ms s m at)) (λ v.
        after (subst P (masked-push spec list t)
        (violates-masked rule spec (list ++ t ∷ []) v)))

    -- an arrival that each spec passes is clean
    pub all-clean : ((s : ℕ) (m : Machine) → slice_get ms s ≡ Some m
        → IsPassed rule m (masked (spec_of m) t) (kept_at kept s)) → IsClean rule (map spec_of ms) (list ++ t ∷ [])
    all-clean passed s lt =
        let (m, at) = spec-some ms s lt in passed-clean s m at (passed s m at)

    -- the first spec for which a tuple was found is the first that is violated
    pub found-first : (k : ℕ) (tuple : List ℕ) → FirstFound rule ms (length list) t kept k tuple
        → IsFound rule (map spec_of ms) (list ++ t ∷ []) k (length list) tuple
    found-first k tuple f =
        let spec = spec_of f.machine in
        let seen = masked spec t in
        let N : ℕ → Type 0 =
        λ n. AreViolating f.machine rule (kept_at kept k ++ (n, seen) ∷ []) tuple in
        let P : List Trace → Type 0 = λ us. IsViolatedBy rule spec us tuple in
        let Q : Spec → Type 0 = λ q. IsViolatedBy rule q (list ++ t ∷ []) tuple in
        let found = found-in rule drop f.machine (masked_list spec list) seen (kept_at kept k)
        (kept-of k f.machine f.there) tuple
        (subst N (sym (length-map list (masked spec))) f.violating) in
        let by_tuple : Q (spec_at (map spec_of ms) k) =
        subst Q (sym (spec-there ms k f.machine f.there))
        (violated-unmasked rule spec (list ++ t ∷ []) tuple
        (subst P (sym (masked-push spec list t)) found)) in
        let below = spec-below ms k f.machine f.there in
        let long = length-append list (t ∷ []) in
        record {
          first = record {
            there = below;
            violated = (_, by_tuple.violates);
            before = λ s lt.
                let (m, at) = spec-some ms s (omega arith) in
                passed-clean s m at (f.before s m lt at);
          };
          last = omega (arith, long);
          by_tuple = by_tuple;
        }

  -- what is kept with the trace is what is to be kept
  pub gained : (new : List (List Numbered)) → AreNext rule drop ms (length list) t kept new
      → AreKept rule drop (map spec_of ms) (list ++ t ∷ []) new
  gained new next = record {
    long = next.long ∙ sym (length-map ms spec_of);
    right = λ s lt.
        let (m, at) = spec-some ms s lt in
        let spec = spec_of m in
        let seen = masked spec t in
        let N : ℕ → Type 0 = λ n. IsNext rule drop m seen n (kept_at kept s) (kept_at new s) in
        let P : List Trace → Type 0 = λ us. IsKept rule drop spec us (kept_at new s) in
        let Q : Spec → Type 0 =
        λ q. IsKept rule drop q (masked_list q (list ++ t ∷ [])) (kept_at new s) in
        subst Q (sym (spec-there ms s m at))
        (subst P (sym (masked-push spec list t))
        (next-kept rule drop m seen (masked_list spec list) (kept_at kept s) (kept_at new s)
        (kept-of s m at) (subst N (sym (length-map list (masked spec))) (next.right s m at))));
  }

-- ---- saves

saves-more : (rule : Lengths) (drop : Bool) (specs : List Spec) (later : List Trace) (t : Trace)
    (saves : List Saved) (ps : List Present) → AreSaves rule drop specs later saves ps
    → AreSaves rule drop specs (later ++ t ∷ []) saves ps
saves-more rule drop specs later t [] [] a = tt
saves-more rule drop specs later t [] (p ∷ ps) a = absurd a
saves-more rule drop specs later t (x ∷ xs) [] a = absurd a
saves-more rule drop specs later t (x ∷ xs) (p ∷ ps) (is, rest) = (
  record {
    fewer = let long = length-append later (t ∷ []) in omega (arith, long, is.fewer);
    some = is.some;
    count = is.count;
    kept = is.kept;
    sessions = is.sessions;
  },
  rest,
)

-- ---- the monitor

-- what a monitor holds with these parts, the specs and the saves as before
abbrev pub changed : Held → List (List Numbered) → ℕ → Open → Bool → Held
changed m kept n os b = record m { arrived = n; kept = kept; sessions = os; clean = b }

pub arrival-stands : (m : Held) (kept : List (List Numbered)) (os : Open) (h : History) (t : Trace)
    (ss : List Session) → StandsFor m h → IsTrace t
    → AreNext m.rule m.drop m.machines m.arrived t m.kept kept → AreSessions os ss
    → StandsFor (changed m kept (m.arrived + 1) os m.clean) (with_trace h t ss)
arrival-stands m kept os h t ss s more gains sessions =
    let list = h.present.arrived in
    let long = length-append list (t ∷ []) in
    let Next : ℕ → Type 0 = λ n. AreNext m.rule m.drop m.machines n t m.kept kept in
    let next = subst Next s.count gains in
    record {
      clean = s.clean;
      some = each-append IsTrace list (t ∷ []) s.some (more, tt);
      count = omega (arith, long, s.count);
      kept = gained m.rule m.drop m.machines list m.kept s.kept t kept next;
      sessions = sessions;
      saves = saves-more m.rule m.drop (specs_of m) list t m.saves h.saves s.saves;
      quiet = record {
        now = all-clean m.rule m.drop m.machines list m.kept s.kept t s.some more s.quiet.now
            next.passed;
        saved = s.quiet.saved;
      };
    }

pub arrival-found : (m : Held) (h : History) (t : Trace) (k : ℕ) (tuple : List ℕ)
    → StandsFor m h → IsTrace t → FirstFound m.rule m.machines m.arrived t m.kept k tuple
    → IsFound m.rule (specs_of m) (h.present.arrived ++ t ∷ []) k m.arrived tuple
arrival-found m h t k tuple s more found =
    let list = h.present.arrived in
    let First : ℕ → Type 0 = λ n. FirstFound m.rule m.machines n t m.kept k tuple in
    let Found : ℕ → Type 0 = λ n. IsFound m.rule (specs_of m) (list ++ t ∷ []) k n tuple in
    subst Found (sym s.count)
    (found-first m.rule m.drop m.machines list m.kept s.kept t s.some more s.quiet.now k tuple
    (subst First s.count found))

pub letter-stands : (m : Held) (os : Open) (h : History) (ss : List Session) → StandsFor m h
    → AreSessions os ss
    → StandsFor (changed m m.kept m.arrived os m.clean) (with_sessions h ss)
letter-stands m os h ss s sessions = record {
  clean = s.clean;
  some = s.some;
  count = s.count;
  kept = s.kept;
  sessions = sessions;
  saves = s.saves;
  quiet = record { now = s.quiet.now; saved = s.quiet.saved };
}

-- what a monitor holds with these saves
abbrev pub with_saves : Held → List Saved → Held
with_saves m saves = record m { saves = saves }

abbrev pub saved_with : ℕ → List (List Numbered) → Open → Saved
saved_with n kept os = record { arrived = n; kept = kept; sessions = os }

-- what it puts aside
abbrev pub saved_of : Held → Saved
saved_of m = saved_with m.arrived m.kept m.sessions

pub save-stands : (m : Held) (h : History) → StandsFor m h
    → StandsFor (with_saves m (saved_of m ∷ m.saves))
    (record { present = h.present; saves = h.present ∷ h.saves })
save-stands m h s = record {
  clean = s.clean;
  some = s.some;
  count = s.count;
  kept = s.kept;
  sessions = s.sessions;
  saves = (
    record {
      fewer = omega arith;
      some = s.some;
      count = s.count;
      kept = s.kept;
      sessions = s.sessions;
    },
    s.saves,
  );
  quiet = record { now = s.quiet.now; saved = (s.quiet.now, s.quiet.saved) };
}

-- what a monitor holds that goes back to a save
abbrev pub back_to : Held → Saved → List Saved → Held
back_to m x xs =
    record m { arrived = x.arrived; kept = x.kept; sessions = x.sessions; saves = xs }

pub back-stands : (m : Held) (x : Saved) (xs : List Saved) (h : History)
    → StandsFor m h → m.saves ≡ x ∷ xs
    → (p : Present) × (ps : List Present) × (h.saves ≡ p ∷ ps) × StandsFor (back_to m x xs)
    (record { present = p; saves = ps })
back-stands m x xs h s e =
    let Saves : List Saved → Type 0 =
    λ q. AreSaves m.rule m.drop (specs_of m) h.present.arrived q h.saves in
    popped h.saves (subst Saves e s.saves) s.quiet.saved
  where
    popped : (saves : List Present)
        → AreSaves m.rule m.drop (specs_of m) h.present.arrived (x ∷ xs) saves
        → Each (λ (p : Present). IsClean m.rule (specs_of m) p.arrived) saves
        → (p : Present) × (ps : List Present) × (saves ≡ p ∷ ps) × StandsFor (back_to m x xs)
        (record { present = p; saves = ps })
    popped [] a q = absurd a
    popped (p ∷ ps) (is, later) (here, q) = (
      p,
      ps,
      refl,
      record {
        clean = s.clean;
        some = is.some;
        count = is.count;
        kept = is.kept;
        sessions = is.sessions;
        saves = later;
        quiet = record { now = here; saved = q };
      },
    )

-- no save, no pair
pub none-saved : (m : Held) (h : History) → StandsFor m h → m.saves ≡ [] → h.saves ≡ []
none-saved m h s e =
    let Saves : List Saved → Type 0 =
    λ q. AreSaves m.rule m.drop (specs_of m) h.present.arrived q h.saves in
    by h.saves (subst Saves e s.saves)
  where
    by : (saves : List Present) → AreSaves m.rule m.drop (specs_of m) h.present.arrived [] saves
        → saves ≡ []
    by [] a = refl
    by (p ∷ ps) a = absurd a

saves-long : (rule : Lengths) (drop : Bool) (specs : List Spec) (later : List Trace)
    (saves : List Saved) (ps : List Present) → AreSaves rule drop specs later saves ps
    → length saves ≡ length ps
saves-long rule drop specs later [] [] a = refl
saves-long rule drop specs later [] (p ∷ ps) a = absurd a
saves-long rule drop specs later (x ∷ xs) [] a = absurd a
saves-long rule drop specs later (x ∷ xs) (p ∷ ps) (is, rest) =
    ap suc (saves-long rule drop specs p.arrived xs ps rest)

pub saves-there : (m : Held) (h : History) → StandsFor m h → length m.saves ≡ length h.saves
saves-there m h s =
    saves-long m.rule m.drop (specs_of m) h.present.arrived m.saves h.saves s.saves

-- ---- what a monitor holds fits together

pub within-popped : (n : ℕ) (saves new : List Saved) (x : Saved) → saves ≡ new ++ x ∷ []
    → AreWithin n saves → AreBelow n x.arrived x.kept × AreWithin n new
within-popped n saves new x e w =
    let P : List Saved → Type 0 = AreWithin n in by new (subst P e w)
  where
    by : (xs : List Saved) → AreWithin n (xs ++ x ∷ [])
        → AreBelow n x.arrived x.kept × AreWithin n xs
    by [] (here, rest) = (here, tt)
    by (y ∷ ys) (here, rest) = let (last, front) = by ys rest in (last, (here, front))
