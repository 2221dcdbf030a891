-- A loop that makes one wire of a list after the other: there is room for the next, and it is made.
use Rattle.std.proofs.Common.{◌≡◌, ℕ, ◌+◌, ◌<◌, List, [], ◌∷◌, ◌++◌, sym, subst}
use Rattle.aig_net.specs.declared.parts.And.{And}
use Rattle.aig_net.specs.Wires.{Wire, Fits, FitsAll, Makes, MakesAll}
use Rattle.hy_base.specs.Rows.{listed}
use Rattle.aig_net.proofs.Making.{fits_next, next_made}

pub room-next : (first other : ℕ) (old ands : List And) (f : ℕ → Wire) (j n : ℕ) (ls : List ℕ)
    (w : Wire) → j < n → FitsAll first old (listed 0 n f) →
    MakesAll first old (listed 0 j f) ands ls → other ≡ first → w ≡ f j → Fits other ands w
room-next first other old ands f j n ls w lt room all e same =
    let P : ℕ → Type 0 = λ first. Fits first ands w in
    let Q : Wire → Type 0 = λ w. Fits first ands w in
    subst P (sym e) (subst Q (sym same) (fits_next first old ands f j n ls lt room all))

pub made-next : (first other : ℕ) (old ands new : List And) (f : ℕ → Wire) (j : ℕ)
    (ls more : List ℕ) (l : ℕ) (w : Wire) → MakesAll first old (listed 0 j f) ands ls →
    other ≡ first → w ≡ f j → Makes other ands w new l → more ≡ ls ++ l ∷ [] →
    MakesAll first old (listed 0 (j + 1) f) new more
made-next first other old ands new f j ls more l w all e same one added =
    let P : ℕ → Type 0 = λ first. Makes first ands w new l in
    let Q : Wire → Type 0 = λ w. Makes first ands w new l in
    let R : List ℕ → Type 0 = λ ls. MakesAll first old (listed 0 (j + 1) f) new ls in
    subst R (sym added) (next_made first old ands new f j ls l all (subst Q same (subst P e one)))
