-- Formulas one after another, and their watches before all events.
use Rattle.std.proofs.Common.{◌≡◌, ℕ, zero, suc, ◌<◌, ◌≤◌, Bool, true, List, [], ◌∷◌, ◌++◌, length, map, replicate, Option, Some, None, inl, inr, refl, sym, ◌∙◌, subst, arith}
use Rattle.std.proofs.lemmas.List.{length-map, length-replicate}
use Rattle.hy_base.specs.declared.limit.Kind.{Kind}
use Rattle.hy_base.specs.declared.limit.Kind.TheVariants as kind
use Rattle.hy_base.proofs.Members.{contains-none}
use Rattle.hy_formula.specs.declared.formula.Formula.{Formula}
use Rattle.hy_formula.specs.Quantifiers.{Each}
use Rattle.hy_formula.specs.Trees.{Tree, tree_of}
use Rattle.hy_formula.proofs.Each.{each-like}
use Rattle.hy_finite.specs.declared.lengths.Lengths.{Lengths}
use Rattle.hy_finite.specs.Traces.{Violates}
use Rattle.fin_monitor.specs.declared.monitor_error.MonitorError.TheVariants as error
use Rattle.fin_monitor.specs.Limits.{HasLargeClosure, HasSmallClosure, HasManyAtoms, HasFewAtoms, HasLargeTable, IsTaken, IsRefusal}
use Rattle.fin_monitor.specs.Machines.{Machine}
use Rattle.trace_trie.specs.Numbered.{Numbered}
use Rattle.dominance.proofs.Leaderships.{none-kept}
use Rattle.rv_core.specs.Endings.{Spec, spec_at, IsClean}
use Rattle.rv_core.specs.Histories.{empty_history}
use Rattle.rv_core.specs.declared.saved.Saved.{Saved}
use Rattle.rv_core.specs.Opened.{Open}
use Rattle.rv_core.specs.Held.{Held, spec_of, StandsFor}
use Rattle.rv_core.specs.Keeping.{Covers, IsKept, AreKept, AreBelow, kept_at}
use Rattle.rv_core.specs.Built.{spec_of_formula, SomeBody, EachBody, IsCause, earlier, IsFresh, AreFresh}
use Rattle.rv_core.proofs.Keepings.{covers-itself, covers-through}
use Rattle.rv_core.proofs.Places.{each-push}

module _ (P : Tree → Type 0) where
  some-more : (fs : List Formula) (f : Formula) → SomeBody P fs → SomeBody P (fs ++ f ∷ [])
  some-more [] f s = absurd s
  some-more (x ∷ xs) f (inl p) = inl p
  some-more (x ∷ xs) f (inr s) = inr (some-more xs f s)

  some-last : (fs : List Formula) (f : Formula) → P (tree_of f.body) → SomeBody P (fs ++ f ∷ [])
  some-last [] f p = inl p
  some-last (x ∷ xs) f p = inr (some-last xs f p)

  each-last : (fs : List Formula) (f : Formula) → EachBody P fs → P (tree_of f.body)
      → EachBody P (fs ++ f ∷ [])
  each-last fs f e p = each-push (λ (g : Formula). P (tree_of g.body)) fs f e p

small-closures : (fs : List Formula) → EachBody IsTaken fs → EachBody HasSmallClosure fs
small-closures fs e =
    each-like (λ (g : Formula). IsTaken (tree_of g.body)) (λ (g : Formula). HasSmallClosure (tree_of g.body)) (λ g t. t.closure) fs e

few-atoms : (fs : List Formula) → EachBody IsTaken fs → EachBody HasFewAtoms fs
few-atoms fs e =
    each-like (λ (g : Formula). IsTaken (tree_of g.body)) (λ (g : Formula). HasFewAtoms (tree_of g.body)) (λ g t. t.atoms) fs e

-- a formula more that is taken
pub cause-taken : (fs : List Formula) (f : Formula) (r : Option Kind) → IsCause fs r
    → IsTaken (tree_of f.body)
    → IsCause (fs ++ f ∷ []) r
cause-taken fs f None c t = each-last IsTaken fs f c t
cause-taken fs f (Some kind.Closure) c t = some-more HasLargeClosure fs f c
cause-taken fs f (Some kind.Atoms) (small, many) t =
    (each-last HasSmallClosure fs f small t.closure, some-more HasManyAtoms fs f many)
cause-taken fs f (Some kind.Table) (small, few, large) t = (
  each-last HasSmallClosure fs f small t.closure,
  each-last HasFewAtoms fs f few t.atoms,
  some-more HasLargeTable fs f large,
)
cause-taken fs f (Some _) c t = absurd c

-- a formula more that is refused
pub cause-refused : (fs : List Formula) (f : Formula) (r : Option Kind) (k : Kind) → IsCause fs r
    → IsRefusal (tree_of f.body) (error.Limit k) → IsCause (fs ++ f ∷ []) (Some (earlier r k))
cause-refused fs f r kind.Closure c large = some-last HasLargeClosure fs f large
cause-refused fs f None kind.Atoms c (small, many) =
    (each-last HasSmallClosure fs f (small-closures fs c) small, some-last HasManyAtoms fs f many)
cause-refused fs f (Some kind.Closure) kind.Atoms c (small, many) = some-more HasLargeClosure fs f c
cause-refused fs f (Some kind.Atoms) kind.Atoms (smalls, manys) (small, many) =
    (each-last HasSmallClosure fs f smalls small, some-last HasManyAtoms fs f many)
cause-refused fs f (Some kind.Table) kind.Atoms (smalls, fews, larges) (small, many) =
    (each-last HasSmallClosure fs f smalls small, some-last HasManyAtoms fs f many)
cause-refused fs f (Some _) kind.Atoms c (small, many) = absurd c
cause-refused fs f None kind.Table c (small, few, large) = (
  each-last HasSmallClosure fs f (small-closures fs c) small,
  each-last HasFewAtoms fs f (few-atoms fs c) few,
  some-last HasLargeTable fs f large,
)
cause-refused fs f (Some kind.Closure) kind.Table c (small, few, large) =
    some-more HasLargeClosure fs f c
cause-refused fs f (Some kind.Atoms) kind.Table (smalls, manys) (small, few, large) =
    (each-last HasSmallClosure fs f smalls small, some-more HasManyAtoms fs f manys)
cause-refused fs f (Some kind.Table) kind.Table (smalls, fews, larges) (small, few, large) = (
  each-last HasSmallClosure fs f smalls small,
  each-last HasFewAtoms fs f fews few,
  some-more HasLargeTable fs f larges,
)
cause-refused fs f (Some _) kind.Table c (small, few, large) = absurd c
cause-refused fs f r _ c refused = absurd refused

-- ---- monitors before all events

pub fresh-specs : (fs : List Formula) (ms : List Machine) → AreFresh fs ms
    → map spec_of ms ≡ map spec_of_formula fs
fresh-specs [] [] a = refl
fresh-specs [] (m ∷ ms) a = absurd a
fresh-specs (f ∷ fs) [] a = absurd a
fresh-specs (f ∷ fs) (m ∷ ms) (is, a) = (λ i. is.spec i ∷ fresh-specs fs ms a i)

-- no traces, no tuple of them
none-violate : (rule : Lengths) (n : ℕ) (body : Tree) → 1 ≤ n → ¬ Violates rule n body []
none-violate rule n body some ([], (is, no_body)) = omega (arith, is.count)
none-violate rule n body some (t ∷ ts, (is, no_body)) = contains-none t is.members.0

fresh-clean : (rule : Lengths) (fs : List Formula) (ms : List Machine) → AreFresh fs ms
    → IsClean rule (map spec_of ms) []
fresh-clean rule [] [] a s lt = absurd (omega arith)
fresh-clean rule [] (m ∷ ms) a s lt = absurd a
fresh-clean rule (f ∷ fs) [] a s lt = absurd a
fresh-clean rule (f ∷ fs) (m ∷ ms) (is, a) zero lt = none-violate rule m.variables m.body is.some
fresh-clean rule (f ∷ fs) (m ∷ ms) (is, a) (suc s) lt = fresh-clean rule fs ms a s (omega arith)

pub fresh-push : (fs : List Formula) (ms : List Machine) (f : Formula) (m : Machine)
    → AreFresh fs ms → IsFresh f m → AreFresh (fs ++ f ∷ []) (ms ++ m ∷ [])
fresh-push [] [] f m a is = (is, tt)
fresh-push [] (v ∷ vs) f m a is = absurd a
fresh-push (g ∷ gs) [] f m a is = absurd a
fresh-push (g ∷ gs) (v ∷ vs) f m (here, a) is = (here, fresh-push gs vs f m a is)

-- nothing is kept of no traces
none-at : (n s : ℕ) → kept_at (replicate n []) s ≡ []
none-at zero s = refl
none-at (suc n) zero = refl
none-at (suc n) (suc s) = none-at n s

none-is_kept : (rule : Lengths) (drop : Bool) (spec : Spec) → IsKept rule drop spec [] []
none-is_kept rule drop spec =
    none-kept (Covers rule drop spec) (covers-itself rule drop spec) (covers-through rule drop spec)

none-are_kept : (rule : Lengths) (drop : Bool) (ms : List Machine)
    → AreKept rule drop (map spec_of ms) [] (replicate (length ms) [])
none-are_kept rule drop ms = record {
  long = length-replicate (length ms) [] ∙ sym (length-map ms spec_of);
  right = λ s lt.
      let P : List Numbered → Type 0 = IsKept rule drop (spec_at (map spec_of ms) s) [] in
      subst P (sym (none-at (length ms) s))
      (none-is_kept rule drop (spec_at (map spec_of ms) s));
}

pub none-below : (n bound : ℕ) → AreBelow n bound (replicate n [])
none-below n bound = (length-replicate n [], by n)
  where
    by : (k : ℕ)
        → Each (λ (list : List Numbered). Each (λ (p : Numbered). p.0 < bound) list)
        (replicate k [])
    by zero = tt
    by (suc k) = (tt, by k)

-- what a monitor holds before all events
abbrev pub fresh_held : Lengths → Bool → List Machine → List (List Numbered) → Open → List Saved
    → Held
fresh_held rule drop ms kept os saves =
    record {
      rule = rule;
      drop = drop;
      machines = ms;
      arrived = 0;
      kept = kept;
      sessions = os;
      saves = saves;
      clean = true;
    }

pub fresh-stands : (rule : Lengths) (drop : Bool) (fs : List Formula) (ms : List Machine)
    → AreFresh fs ms
    → StandsFor (fresh_held rule drop ms (replicate (length ms) []) [] []) empty_history
fresh-stands rule drop fs ms a = record {
  clean = refl;
  some = tt;
  count = refl;
  kept = none-are_kept rule drop ms;
  sessions = record { letters = λ n. refl; count = refl; apart = tt };
  saves = tt;
  quiet = record { now = fresh-clean rule fs ms a; saved = tt };
}
