-- Down a trie by letters: what stands behind a letter stood before it, with the letter first.
use Rattle.std.proofs.Common.{◌≡◌, ◌↔◌, ℕ, Bool, true, false, cond, List, [], ◌∷◌, map, inl, inr, refl, sym, ap, ◌∙◌, subst}
use Rattle.std.specs.List.{Contains, filter}
use Rattle.hy_base.proofs.Members.{contains-here, contains-later, contains-cases, contains-none}
use Rattle.hy_bits.specs.Letter.{Letter}
use Rattle.trace_trie.specs.Numbered.{Numbered, same_letter, begins, tail, under, in_order, IsHeld}
use Rattle.trace_trie.specs.Kids.{Kid, AreKids, behind}
use Rattle.trace_trie.specs.Forests.{passing}
use Rattle.trace_trie.proofs.Lettering.{equal-letter, letter-itself}
use Rattle.trace_trie.proofs.Ordering.{in-order-under}
use Rattle.trace_trie.proofs.Rests.{under-passing}

-- ---- behind a letter

module _ (a : Letter) where
  abbrev rests_of : List Numbered → List Numbered
  rests_of ps = map (λ (p : Numbered). (p.0, tail p.1)) ps

  abbrev begun : List Numbered → List Numbered
  begun ps = filter (λ (p : Numbered). begins a p.1) ps

  under-from : (list : List Numbered) (n : ℕ) (t : List Letter) → Contains (under a list) (n, t)
      → Contains list (n, a ∷ t)
  under-from [] n t c = absurd (contains-none (n, t) c)
  under-from ((k, []) ∷ ps) n t c =
      contains-later (k, []) (n, a ∷ t) ps (under-from ps n t c)
  under-from ((k, b ∷ u) ∷ ps) n t c = by (same_letter a b) refl c (under-from ps n t)
    where
      by : (e : Bool) → same_letter a b ≡ e
          → Contains (rests_of (cond e ((k, b ∷ u) ∷ begun ps) (begun ps))) (n, t)
          → (Contains (under a ps) (n, t) → Contains ps (n, a ∷ t))
          → Contains ((k, b ∷ u) ∷ ps) (n, a ∷ t)
      by true e d go =
          elim (contains-cases (k, u) (n, t) (under a ps) d) [
            | inl same ↦
                let P : Numbered → Type 0 = λ q. Contains ((k, b ∷ u) ∷ ps) (q.0, a ∷ q.1) in
                let Q : Letter → Type 0 = λ q. Contains ((k, b ∷ u) ∷ ps) (k, q ∷ u) in
                subst P same (subst Q (sym (equal-letter a b e)) (contains-here (k, b ∷ u) ps))
            | inr later ↦ contains-later (k, b ∷ u) (n, a ∷ t) ps (go later)
          ]
      by false e d go = contains-later (k, b ∷ u) (n, a ∷ t) ps (go d)

  under-of : (list : List Numbered) (n : ℕ) (t : List Letter) → Contains list (n, a ∷ t)
      → Contains (under a list) (n, t)
  under-of [] n t c = absurd (contains-none (n, a ∷ t) c)
  under-of (p ∷ ps) n t c =
      elim (contains-cases p (n, a ∷ t) ps c) [
        | inl same ↦
            let P : Numbered → Type 0 = λ q. Contains (under a (q ∷ ps)) (n, t) in
            let Q : Bool → Type 0 =
            λ e. Contains (rests_of (cond e ((n, a ∷ t) ∷ begun ps) (begun ps))) (n, t) in
            subst P (sym same) (subst Q (sym (letter-itself a)) (contains-here (n, t) (under a ps)))
        | inr later ↦ by p (under-of ps n t later)
      ]
    where
      after : (e : Bool) (k : ℕ) (b : Letter) (u : List Letter) → Contains (under a ps) (n, t)
          → Contains (rests_of (cond e ((k, b ∷ u) ∷ begun ps) (begun ps))) (n, t)
      after true k b u d = contains-later (k, u) (n, t) (under a ps) d
      after false k b u d = d

      by : (q : Numbered) → Contains (under a ps) (n, t) → Contains (under a (q ∷ ps)) (n, t)
      by (k, []) d = d
      by (k, b ∷ u) d = after (same_letter a b) k b u d

-- ---- the child of a letter

module _ (a : Letter) (ends : List Numbered) (kids : List Kid) (h : AreKids kids) where
  pub child-some : (held : List Numbered) → behind a kids ≡ held
      → in_order held ≡ under a (in_order (passing ends kids))
  child-some held e =
      ap in_order (sym e ∙ sym (under-passing a ends kids h))
      ∙ in-order-under a (passing ends kids)

  pub child-none : behind a kids ≡ [] → under a (in_order (passing ends kids)) ≡ []
  child-none e = sym (child-some [] e)

-- ---- which traces are held

pub under-held : (a : Letter) (list : List Numbered) (t : List Letter)
    → IsHeld (a ∷ t) list ↔ IsHeld t (under a list)
under-held a list t = (
  λ (n, c). (n, under-of a list n t c),
  λ (n, c). (n, under-from a list n t c),
)
