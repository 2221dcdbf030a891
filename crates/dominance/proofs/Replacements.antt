-- A list of traces violates a body where what dominates it does: place by place in a failing tuple.
use Rattle.std.proofs.Common.{◌≡◌, ℕ, ◌+◌, ◌↔◌, Bool, List, [], ◌∷◌, ◌++◌, length, sym, subst, arith, length-append, append_assoc, append-nil}
use Rattle.std.specs.List.{Contains}
use Rattle.hy_formula.specs.Trees.{Tree}
use Rattle.hy_formula.specs.Quantifiers.{Each, IsTuple}
use Rattle.hy_formula.proofs.Each.{each-from, each-at, each-append}
use Rattle.hy_finite.specs.Traces.{Trace, Meets, Violates}
use Rattle.hy_finite.specs.declared.lengths.Lengths.{Lengths}
use Rattle.dominance.specs.Leaders.{Numbered, numbered, items, AreLeaders, kept_by, TestKept, leaders, Tests}
use Rattle.dominance.specs.Dominance.{IsTrace, Dominates}
use Rattle.dominance.proofs.Items.{items-from, items-of}
use Rattle.dominance.proofs.Leaderships.{are-leaders, kept-apart, kept-step}

module _ (lengths : Lengths) (n : ℕ) (body : Tree) where
  abbrev Over : Trace → Trace → Type 0
  Over = Dominates lengths n body

  pub over-itself : (t : Trace) → Dominates lengths n body t t
  over-itself t before after b a count fails = fails

  pub over-through : (t u v : Trace) → Dominates lengths n body t u → Dominates lengths n body u v
      → Dominates lengths n body t v
  over-through t u v p q before after b a count fails =
      p before after b a count (q before after b a count fails)

  -- each trace is dominated by one of the kept
  abbrev pub Covers : List Trace → List Trace → Type 0
  Covers kept list = (t : Trace) → Contains list t → (u : Trace) × Contains kept u
      × Dominates lengths n body u t

  module _ (kept list : List Trace) (traces : Each IsTrace list) (among : Each (Contains list) kept)
      (covers : Covers kept list) where
    members-traces : (tuple : List Trace) → Each (Contains list) tuple → Each IsTrace tuple
    members-traces [] m = tt
    members-traces (x ∷ xs) (here, m) = (each-at IsTrace list x traces here, members-traces xs m)

    members-among : (tuple : List Trace) → Each (Contains kept) tuple → Each (Contains list) tuple
    members-among [] m = tt
    members-among (x ∷ xs) (here, m) =
        (each-at (Contains list) kept x among here, members-among xs m)

    -- the places from `before` on are still to be replaced
    replaced : (before tuple : List Trace) → Each (Contains kept) before
        → Each (Contains list) tuple → length before + length tuple ≡ n
        → ¬ Meets lengths body (before ++ tuple)
        → (new : List Trace) × IsTuple (Contains kept) n new × (¬ Meets lengths body new)
    replaced before [] b m count fails =
        let P : List Trace → Type 0 = λ q. ¬ Meets lengths body q in
        (before, record { count = omega arith; members = b }, subst P (append-nil before) fails)
    replaced before (t ∷ ts) b (here, m) count fails =
        let (u, c, o) = covers t here in
        let now : ¬ Meets lengths body (before ++ u ∷ ts) =
        o before ts (members-traces before (members-among before b))
        (members-traces ts m) count fails in
        let P : List Trace → Type 0 = λ q. ¬ Meets lengths body q in
        let l = length-append before (u ∷ []) in
        let count' : length (before ++ u ∷ []) + length ts ≡ n = omega (arith, l) in
        replaced (before ++ u ∷ []) ts
        (each-append (Contains kept) before (u ∷ []) b (c, tt)) m count'
        (subst P (sym (append_assoc before (u ∷ []) ts)) now)

    pub violates-kept : Violates lengths n body list ↔ Violates lengths n body kept
    violates-kept = (
      λ (tuple, (i, fails)). let (new, j, f) =
          replaced [] tuple tt i.members (let e : 0 + length tuple ≡ n = omega (arith, i.count) in
          e) fails in (new, (j, f)),
      λ (tuple, (i, fails)). (
        tuple,
        (record { count = i.count; members = members-among tuple i.members }, fails),
      ),
    )

  -- ---- the leaders

  module _ (list : List Trace) (kept : List (Numbered Trace))
      (are : AreLeaders (Dominates lengths n body) list kept) where
    pub trace-apart : (x y : Numbered Trace) → Contains kept x → Contains kept y
        → Dominates lengths n body x.item y.item → x ≡ y
    trace-apart = kept-apart Over over-itself over-through list kept are

    pub leaders-among : Each (Contains list) (items kept)
    leaders-among = each-from (Contains list) (items kept)
        (λ t c. let (k, d) = items-from kept t c in let l = (are.exact k t).0 d in let (lt, e) =
        l.there in (k, lt, e))

    pub leaders-cover : Covers (items kept) list
    leaders-cover t (k, lt, e) = let (x, c, o) = are.covers k t (lt, e) in
        (x.item, items-of kept x c, o)

    pub violates-leaders : Each IsTrace list → Violates lengths n body list
        ↔ Violates lengths n body (items kept)
    violates-leaders traces = violates-kept (items kept) list traces leaders-among leaders-cover

    pub leaders-step : (t : Trace) (above under : Numbered Trace → Bool)
        → TestKept (Dominates lengths n body) kept t above under
        → AreLeaders (Dominates lengths n body) (list ++ t ∷ [])
        (kept_by above under kept (numbered (length list) t))
    leaders-step t above under tests =
        kept-step Over over-itself over-through list t kept are above under tests

  pub trace-leaders : (over : Trace → Trace → Bool) → Tests over (Dominates lengths n body)
      → (list : List Trace) → AreLeaders (Dominates lengths n body) list (leaders over list)
  trace-leaders over tests list = are-leaders Over over-itself over-through over tests list
