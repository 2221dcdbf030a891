-- A body as a plain tree, without where its parts lie in memory. Meanings and grammars speak of these trees.
use Rattle.std.specs.Prelude.{ℕ, suc, max, Bool, true, ◌&&◌, nat_lt}
use Rattle.hy_formula.specs.declared.body.Body.{Body, True, False, Atom, Not', Next', Finally', Globally', And', Or', Implies', Iff', Until', Release', Weak'}

pub data Tree : Type 0 where
  always : Tree
  never : Tree
  -- the number of a name, and that of a variable
  atom : ℕ → ℕ → Tree
  not : Tree → Tree
  next : Tree → Tree
  finally : Tree → Tree
  globally : Tree → Tree
  and : Tree → Tree → Tree
  or : Tree → Tree → Tree
  implies : Tree → Tree → Tree
  iff : Tree → Tree → Tree
  until : Tree → Tree → Tree
  release : Tree → Tree → Tree
  weak : Tree → Tree → Tree

-- the tree of a body
abbrev pub tree_of : Body → Tree
tree_of True = always
tree_of False = never
tree_of (Atom a) = atom a.name a.var
tree_of (Not' p f) = not (tree_of f)
tree_of (Next' p f) = next (tree_of f)
tree_of (Finally' p f) = finally (tree_of f)
tree_of (Globally' p f) = globally (tree_of f)
tree_of (And' p f q g) = and (tree_of f) (tree_of g)
tree_of (Or' p f q g) = or (tree_of f) (tree_of g)
tree_of (Implies' p f q g) = implies (tree_of f) (tree_of g)
tree_of (Iff' p f q g) = iff (tree_of f) (tree_of g)
tree_of (Until' p f q g) = until (tree_of f) (tree_of g)
tree_of (Release' p f q g) = release (tree_of f) (tree_of g)
tree_of (Weak' p f q g) = weak (tree_of f) (tree_of g)

-- the height of a tree; a leaf has height 1
abbrev pub height : Tree → ℕ
height always = 1
height never = 1
height (atom n v) = 1
height (not f) = suc (height f)
height (next f) = suc (height f)
height (finally f) = suc (height f)
height (globally f) = suc (height f)
height (and f g) = suc (max (height f) (height g))
height (or f g) = suc (max (height f) (height g))
height (implies f g) = suc (max (height f) (height g))
height (iff f g) = suc (max (height f) (height g))
height (until f g) = suc (max (height f) (height g))
height (release f g) = suc (max (height f) (height g))
height (weak f g) = suc (max (height f) (height g))

-- whether every variable is below a number
abbrev pub vars_below : ℕ → Tree → Bool
vars_below n always = true
vars_below n never = true
vars_below n (atom a v) = nat_lt v n
vars_below n (not f) = vars_below n f
vars_below n (next f) = vars_below n f
vars_below n (finally f) = vars_below n f
vars_below n (globally f) = vars_below n f
vars_below n (and f g) = vars_below n f && vars_below n g
vars_below n (or f g) = vars_below n f && vars_below n g
vars_below n (implies f g) = vars_below n f && vars_below n g
vars_below n (iff f g) = vars_below n f && vars_below n g
vars_below n (until f g) = vars_below n f && vars_below n g
vars_below n (release f g) = vars_below n f && vars_below n g
vars_below n (weak f g) = vars_below n f && vars_below n g
