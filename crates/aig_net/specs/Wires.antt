-- Literals made of others by new ands: a small language of wires, and the ands that a wire needs.
use Rattle.std.specs.Prelude.{◌≡◌, ◌≤◌, ◌^◌, ℕ, zero, suc, ◌+◌, ◌*◌, Bool, not, ◌&&◌, max, min, List, [], ◌∷◌, ◌++◌, length, slice_index_or}
use Rattle.aig_net.specs.declared.parts.And.{And}
use Rattle.aig_net.specs.Nets.{Valuation, literal_value, literal_at, opposite, Below}

pub data Wire : Type 0 where
  literal : ℕ → Wire
  opposed : Wire → Wire
  both : Wire → Wire → Wire

abbrev pub either : Wire → Wire → Wire
either x y = opposed (both (opposed x) (opposed y))

abbrev pub equal : Wire → Wire → Wire
equal x y = opposed (either (both x (opposed y)) (both (opposed x) y))

abbrev pub wire_value : Valuation → Wire → Bool
wire_value v (literal l) = literal_value v l
wire_value v (opposed w) = not (wire_value v w)
wire_value v (both x y) = wire_value v x && wire_value v y

-- the conjunction of wires, from the left
abbrev pub all_of : Wire → List Wire → Wire
all_of w [] = w
all_of w (x ∷ xs) = all_of (both w x) xs

abbrev pub wire_at : List Wire → ℕ → Wire
wire_at wires j = slice_index_or wires j (literal 0)

-- Its literals are below a number.
abbrev pub WireBelow : ℕ → Wire → Type 0
WireBelow n (literal l) = Below n l
WireBelow n (opposed w) = WireBelow n w
WireBelow n (both x y) = WireBelow n x × WireBelow n y

-- the ands of a net, and a literal
pub record Made : Type 0 where
  pub ands : List And
  pub literal : ℕ

-- the and of two literals, the larger first
abbrev pub and_of : ℕ → ℕ → And
and_of a b = record { left = max a b; right = min a b }

-- a new and after the others, where the first one's variable is given
abbrev pub with_and : ℕ → List And → ℕ → ℕ → Made
with_and first ands a b = record {
  ands = ands ++ and_of a b ∷ [];
  literal =
      2 * (first + length ands);
}

-- the ands that a wire needs after the others, left before right, and its literal
abbrev pub made : ℕ → List And → Wire → Made
made first ands (literal l) = record { ands = ands; literal = l }
made first ands (opposed w) = record {
  ands = (made first ands w).ands;
  literal =
      opposite (made first ands w).literal;
}
made first ands (both x y) =
    with_and first (made first (made first ands x).ands y).ands (made first ands x).literal
    (made first (made first ands x).ands y).literal

-- There is room for the ands of the wire: fewer than 2^31 variables in all.
abbrev pub Fits : ℕ → List And → Wire → Type 0
Fits first ands w = first + length (made first ands w).ands ≤ 2 ^ 31

-- the wire was made after the old ands: the new ones, and its literal
pub record Makes (first : ℕ) (old : List And) (w : Wire) (new : List And) (l : ℕ) : Type 0 where
  pub ands : new ≡ (made first old w).ands
  pub literal : l ≡ (made first old w).literal

-- The old ands stand there, and behind them no more than the first of those that the wire needs.
abbrev pub Begins : ℕ → List And → Wire → List And → Type 0
Begins first old w new =
    (more : List And) × (left : List And) × (new ≡ old ++ more)
    × ((made first old w).ands ≡ new ++ left)

-- a literal where the test is true, another where it is false
abbrev pub choice : ℕ → ℕ → ℕ → Wire
choice test a b =
    either (both (literal test) (literal a)) (both (opposed (literal test)) (literal b))

-- the ands of a net, and literals
pub record MadeAll : Type 0 where
  pub ands : List And
  pub literals : List ℕ

-- wires one after the other
abbrev pub made_all : ℕ → List And → List Wire → MadeAll
made_all first ands [] = record { ands = ands; literals = [] }
made_all first ands (w ∷ ws) =
    record {
      ands = (made_all first (made first ands w).ands ws).ands;
      literals =
          (made first ands w).literal ∷ (made_all first (made first ands w).ands ws).literals;
    }

-- There is room for the ands of the wires.
abbrev pub FitsAll : ℕ → List And → List Wire → Type 0
FitsAll first ands ws = first + length (made_all first ands ws).ands ≤ 2 ^ 31

-- the wires were made after the old ands: the new ones, and the literals
pub record MakesAll (first : ℕ) (old : List And) (ws : List Wire) (new : List And)
    (ls : List ℕ) : Type 0 where
  pub ands : new ≡ (made_all first old ws).ands
  pub literals : ls ≡ (made_all first old ws).literals

-- n wires one after the other, each with the literals of those before
abbrev pub made_each : ℕ → List And → ((ℕ → ℕ) → ℕ → Wire) → ℕ → MadeAll
made_each first ands wire zero = record { ands = ands; literals = [] }
made_each first ands wire (suc k) = record {
  ands = (made first (made_each first ands wire k).ands
      (wire (literal_at (made_each first ands wire k).literals) k)).ands;
  literals = (made_each first ands wire k).literals
      ++ (made first (made_each first ands wire k).ands
      (wire (literal_at (made_each first ands wire k).literals) k)).literal ∷ [];
}
