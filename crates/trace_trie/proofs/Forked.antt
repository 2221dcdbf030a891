-- What is known of children that are in two parts.
use Rattle.std.proofs.Common.{◌≡◌, ℕ, ◌+◌, ◌^◌, ◌<◌, true, false, List, [], ◌∷◌, ◌++◌, length, sym, ap, ◌∙◌, subst}
use Rattle.std.specs.FinSet.{contains}
use Rattle.hy_bits.specs.Letter.{Letter}
use Rattle.hy_formula.specs.Quantifiers.{Each}
use Rattle.trace_trie.specs.Numbered.{Numbered}
use Rattle.trace_trie.specs.Kids.{Kid, AreKids, IsSwapped, behind}
use Rattle.trace_trie.specs.Forests.{passing, kids_of, IsForked, IsForest}
use Rattle.trace_trie.specs.declared.forest.Branch.{Branch}
use Rattle.trace_trie.specs.declared.forest.Branch.TheVariants.{Child, Fork}
use Rattle.trace_trie.proofs.Kids.{behind-first, behind-second, lacking, having, swapped-first, swapped-second}

pub record AtFork (list : List Kid) (name : ℕ) (l r : List Kid) : Type 0 where
  pub is : list ≡ l ++ r
  pub below : name < 64
  pub lack : Each (λ (k : Kid). contains k.0 name ≡ false) l
  pub have : Each (λ (k : Kid). contains k.0 name ≡ true) r
  pub first : 0 < length l
  pub second : 0 < length r
  pub kids : AreKids (l ++ r)

pub at_fork : {tree : Branch} {list : List Kid} {name count : ℕ} {l r : _} → kids_of tree ≡ list → IsForest tree → tree ≡ Fork name count l r
    → AtFork list name l.value r.value
at_fork {tree} {list} {name} {count} {l} {r} view_is h is =
    let s : IsForked (Fork name count l r) = subst IsForked is h.forked in
    let P : Branch → Type 0 = λ (q : Branch). AreKids (kids_of q) in
    record {
      is = sym view_is ∙ ap kids_of is;
      below = s.0;
      lack = s.4;
      have = s.5;
      first = s.1;
      second = s.2;
      kids = subst P is h.kids;
    }

-- a fork of such parts
pub fork_is : {tree : Branch} {name count : ℕ} {l r : _} → tree ≡ Fork name count l r → AtFork (l.value ++ r.value) name l.value r.value
    → count ≡ length (l.value ++ r.value) → count + 1 < 2 ^ 64 → IsForest tree
fork_is {tree} {name} {count} {l} {r} is at e lt =
    subst IsForest (sym is) record {
      forked = (at.below, at.first, at.second, e, at.lack, at.have, lt);
      kids = at.kids;
    }

-- and of one child
pub record AtChild (list : List Kid) (a : Letter) (held : List Numbered) : Type 0 where
  pub is : list ≡ (a, held) ∷ []
  pub some : 0 < length held

pub at_child : {tree : Branch} {list : List Kid} {a : Letter} {ends : List Numbered} {children : _} → kids_of tree ≡ list → IsForest tree → tree ≡ Child a ends children
    → AtChild list a (passing ends children.value)
at_child {tree} {list} {a} {ends} {children} view_is h is =
    let P : Branch → Type 0 = λ (q : Branch). AreKids (kids_of q) in
    let s : AreKids (kids_of (Child a ends children)) = subst P is h.kids in
    record { is = sym view_is ∙ ap kids_of is; some = s.0 }

module _ {list l r : List Kid} {name : ℕ} (a : Letter) (at : AtFork list name l r) where
  pub behind-have : contains a name ≡ true → behind a list ≡ behind a r
  behind-have e = ap (behind a) at.is ∙ behind-second a l r (lacking a name l e at.lack)

  pub behind-lack : contains a name ≡ false → behind a list ≡ behind a l
  behind-lack e = ap (behind a) at.is ∙ behind-first a l r (having a name r e at.have)

  pub swapped-have : {held : List Numbered} {new : List Kid} → contains a name ≡ true → IsSwapped a held r new → IsSwapped a held list (l ++ new)
  swapped-have {held} {new} e s =
      let P : List Kid → Type 0 = λ (q : List Kid). IsSwapped a held q (l ++ new) in
      subst P (sym at.is) (swapped-second l (lacking a name l e at.lack) s)

  pub swapped-lack : {held : List Numbered} {new : List Kid} → contains a name ≡ false → IsSwapped a held l new → IsSwapped a held list (new ++ r)
  swapped-lack {held} {new} e s =
      let P : List Kid → Type 0 = λ (q : List Kid). IsSwapped a held q (new ++ r) in
      subst P (sym at.is) (swapped-first r (having a name r e at.have) s)
