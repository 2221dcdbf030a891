-- Each branch once: which ones there are.
use Rattle.std.proofs.Common.{◌≡◌, zero, suc, ◌⊎◌, ◌↔◌, Bool, true, false, ◌&&◌, ◌||◌, cond, List, [], ◌∷◌, ◌++◌, length, inl, inr, refl, sym, ap, ◌∙◌, subst, arith}
use Rattle.std.specs.List.{Contains, list_any}
use Rattle.std.specs.Cmp.{nat_cmp_total}
use Rattle.std.specs.FinSet.{empty, contains, is_subset, is_subset-contains, contains-is_subset, same_set, nat_cmp-IsAntisymmetric}
use Rattle.std.proofs.lemmas.List.Elements.{Contains-append_left, Contains-append_right, Contains-append_cases, Contains-push, Contains-push_cases}
use Rattle.std.proofs.lemmas.Bool.{and_parts, or_cases}
use Rattle.hy_base.proofs.Truths.{same-truth}
use Rattle.ltl_closure.specs.Nodes.{Node}
use Rattle.ltl_tableau.specs.Branches.{Members, Branch, same_branch, with_branch, with_all, branches_below, IsBranch}

same-members : (s t : Members) → (is_subset s t && is_subset t s) ≡ true → s ≡ t
same-members s t e =
    let (there, back) = and_parts (is_subset s t) (is_subset t s) e in
    same_set nat_cmp_total nat_cmp-IsAntisymmetric s t
    (λ q. same-truth (contains s q) (contains t q) (is_subset-contains nat_cmp_total s t there q)
    (is_subset-contains nat_cmp_total t s back q))

pub equal-branch : (a b : Branch) → same_branch a b ≡ true → a ≡ b
equal-branch a b e =
    let (now, later) = and_parts (is_subset a.now b.now && is_subset b.now a.now)
    (is_subset a.later b.later && is_subset b.later a.later) e in
    let n : a.now ≡ b.now = same-members a.now b.now now in
    let l : a.later ≡ b.later = same-members a.later b.later later in
    ap (λ x. let made : Branch = record { now = x; later = a.later } in made) n
    ∙ ap (λ x. let made : Branch = record { now = b.now; later = x } in made) l

-- a set is part of itself
subset-itself : (s : Members) → is_subset s s ≡ true
subset-itself s = contains-is_subset nat_cmp_total s s (λ q h. h)

pub same-branch_itself : (a b : Branch) → a ≡ b → same_branch a b ≡ true
same-branch_itself a b e =
    let P : Branch → Type 0 = λ x. same_branch a x ≡ true in
    subst P e (same_all (is_subset a.now a.now) (is_subset a.later a.later) (subset-itself a.now)
    (subset-itself a.later))
  where
    same_all : (x y : Bool) → x ≡ true → y ≡ true → ((x && x) && (y && y)) ≡ true
    same_all true true p q = refl
    same_all true false p q = absurd (cc)
    same_all false y p q = absurd (cc)

known-there : (b : Branch) (list : List Branch) → list_any (same_branch b) list ≡ true
    → Contains list b
known-there b [] e = absurd (cc)
known-there b (x ∷ xs) e =
    elim (or_cases (same_branch b x) (list_any (same_branch b) xs) e) [
      | inl here ↦ (0, omega arith, sym (equal-branch b x here))
      | inr more ↦ Contains-append_right (x ∷ []) xs b (known-there b xs more)
    ]

pub there-known : (b : Branch) (list : List Branch) → Contains list b
    → list_any (same_branch b) list ≡ true
there-known b [] (k, lt, e) = absurd (omega arith)
there-known b (x ∷ xs) (zero, lt, e) =
    let here : same_branch b x ≡ true = same-branch_itself b x (sym e) in
    ap (λ c. c || list_any (same_branch b) xs) here
there-known b (x ∷ xs) (suc k, lt, e) =
    later (same_branch b x) (there-known b xs (k, omega arith, e))
  where
    later : (c : Bool) → list_any (same_branch b) xs ≡ true
        → (c || list_any (same_branch b) xs) ≡ true
    later true t = refl
    later false t = t

one : (list : List Branch) (x b : Branch)
    → Contains (with_branch list x) b ↔ (Contains list b ⊎ (x ≡ b))
one list x b = (there (list_any (same_branch x) list), back (list_any (same_branch x) list) refl)
  where
    there : (c : Bool) → Contains (cond c list (list ++ x ∷ [])) b → Contains list b ⊎ (x ≡ b)
    there true h = inl h
    there false h = Contains-push_cases list x b h

    back : (c : Bool) → list_any (same_branch x) list ≡ c → Contains list b ⊎ (x ≡ b)
        → Contains (cond c list (list ++ x ∷ [])) b
    back true known (inl h) = h
    back true known (inr e) = let P : Branch → Type 0 =
        Contains list in subst P e (known-there x list known)
    back false known (inl h) = Contains-append_left list (x ∷ []) b h
    back false known (inr e) = let P : Branch → Type 0 =
        Contains (list ++ x ∷ []) in subst P e (Contains-push list x)

all-from : (list bs : List Branch) (b : Branch) → Contains (with_all list bs) b
    → Contains list b ⊎ Contains bs b
all-from list [] b h = inl h
all-from list (x ∷ xs) b h =
    elim (all-from (with_branch list x) xs b h) [
      | inr later ↦ inr (Contains-append_right (x ∷ []) xs b later)
      | inl early ↦ elim ((one list x b).0 early) [
        | inl old ↦ inl old
        | inr e ↦
            inr (0, omega arith, e)
      ]
    ]

pub all-of : (list bs : List Branch) (b : Branch) → Contains list b ⊎ Contains bs b
    → Contains (with_all list bs) b
all-of list [] b (inl h) = h
all-of list [] b (inr (k, lt, e)) = absurd (omega arith)
all-of list (x ∷ xs) b (inl h) = all-of (with_branch list x) xs b (inl ((one list x b).1 (inl h)))
all-of list (x ∷ xs) b (inr h) =
    elim (Contains-append_cases (x ∷ []) xs b h) [
      | inr later ↦ all-of (with_branch list x) xs b (inr later)
      | inl (zero, lt, e) ↦ all-of (with_branch list x) xs b (inl ((one list x b).1 (inr e)))
      | inl (suc k, lt, e) ↦ absurd (omega arith)
    ]

pub branch-from : (nodes : List Node) (set : Members) (b : Branch) → IsBranch nodes set b
    → Contains (branches_below nodes (length nodes) set empty empty) b
branch-from nodes set b is = elim (all-from [] _ b is) [
  | inl (k, lt, e) ↦
      absurd (omega arith)
  | inr h ↦ h
]

pub branch-of : (nodes : List Node) (set : Members) (b : Branch)
    → Contains (branches_below nodes (length nodes) set empty empty) b → IsBranch nodes set b
branch-of nodes set b h = all-of [] _ b (inr h)
