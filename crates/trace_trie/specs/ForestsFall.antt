-- Behind each child, and in each part of a fork, fewer letters are left.
use Rattle.std.specs.Prelude.{◌≡◌, ◌+◌, ◌<◌, ◌≤◌, max, List, [], ◌∷◌, ◌++◌, length}
use Rattle.std.proofs.Common.{arith}
use Rattle.hy_bits.specs.Letter.{Letter}
use Rattle.trace_trie.specs.declared.forest.Branch.{Branch}
use Rattle.trace_trie.specs.declared.forest.Branch.TheVariants.{Bare, Child, Tail, Fork}
use Rattle.trace_trie.specs.declared.forest.Forest.TheDeep.{deep-Branch}
use Rattle.trace_trie.specs.Numbered.{Numbered, letters_in, led_by, ended}
use Rattle.trace_trie.specs.Kids.{Kid, spread, AreKids}
use Rattle.trace_trie.specs.Forests.{passing, kids_of, IsForest}

pub letters-append : (xs ys : List Numbered) → letters_in (xs ++ ys) ≡ letters_in xs + letters_in ys
letters-append [] ys = omega arith
letters-append (p ∷ ps) ys = omega (arith, letters-append ps ys)

pub letters-led : (a : Letter) (ps : List Numbered)
    → letters_in (led_by a ps) ≡ length ps + letters_in ps
letters-led a [] = omega arith
letters-led a (p ∷ ps) = omega (arith, letters-led a ps)

pub letters-ended : (ps : List Numbered) → letters_in (ended ps) ≡ 0
letters-ended [] = omega arith
letters-ended (p ∷ ps) = omega (arith, letters-ended ps)

pub letters-spread : (xs ys : List Kid)
    → letters_in (spread (xs ++ ys)) ≡ letters_in (spread xs) + letters_in (spread ys)
letters-spread [] ys = omega arith
letters-spread (k ∷ ks) ys =
    omega (
      arith,
      letters-spread ks ys,
      letters-append (led_by k.0 k.1) (spread (ks ++ ys)),
      letters-append (led_by k.0 k.1) (spread ks),
    )

pub some-left : (xs ys : List Kid) → AreKids (xs ++ ys) → 0 < length xs → 0 < letters_in (spread xs)
some-left [] ys h lt = absurd (omega arith)
some-left (k ∷ ks) ys h lt =
    omega (arith, h.0, letters-append (led_by k.0 k.1) (spread ks), letters-led k.0 k.1)

pub some-right : (xs ys : List Kid) → AreKids (xs ++ ys) → 0 < length ys → 0 < letters_in (spread ys)
some-right [] ys h lt = some-all ys h lt
  where
    some-all : (ys : List Kid) → AreKids ys → 0 < length ys → 0 < letters_in (spread ys)
    some-all [] h lt = absurd (omega arith)
    some-all (k ∷ ks) h lt =
        omega (arith, h.0, letters-append (led_by k.0 k.1) (spread ks), letters-led k.0 k.1)
some-right (k ∷ ks) ys h lt = some-right ks ys h.2 lt

-- no part is deeper than letters are left
pub depth_le-letters : (t : Branch) → IsForest t
    → max (deep-Branch t) 0 ≤ letters_in (spread (kids_of t))
depth_le-letters Bare h = omega arith
depth_le-letters (Child a ends children) h =
    let held : List Numbered = passing ends children.value in
    omega (
      arith,
      h.kids.0,
      letters-append (led_by a held) [],
      letters-led a held,
      letters-append (ended ends) (spread children.value),
      letters-ended ends,
    )
depth_le-letters (Tail n t at) h = omega arith
depth_le-letters (Fork name count l r) h =
    omega (
      arith,
      letters-spread l.value r.value,
      some-left l.value r.value h.kids h.forked.1,
      some-right l.value r.value h.kids h.forked.2,
    )
