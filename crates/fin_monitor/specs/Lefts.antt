-- Families of duties, and what is kept of what members leave after a letter.
use Rattle.std.specs.Prelude.{◌≡◌, ℕ, ◌<◌, ◌≤◌, Bool, true, false, ◌&&◌, ◌||◌, nat_eq, nat_lt, List, [], ◌∷◌, ◌++◌, length, map, filter, not, slice_index, slice_index_or, Vec, vec_items}
use Rattle.std.specs.List.{Contains, AllWithin}
use Rattle.std.specs.FinSet.{contains}
use Rattle.std.specs.Int.RustNames.{bit_and}
use Rattle.hy_bits.specs.Binary.{number}
use Rattle.hy_bits.specs.Sets.{NumberSet}
use Rattle.hy_formula.specs.Quantifiers.{Each}
use Rattle.ltl_closure.specs.Nodes.{Node, literal, and, or, until, release}
use Rattle.hy_formula.specs.Atoms.{IndexedAtom}
use Rattle.fin_monitor.specs.Codes.{letter_of}
use Rattle.fin_monitor.specs.Duties.{Duty, within, joined, after, after_members, after_each, AreAlike}

-- the order in which duties stand
abbrev pub precedes : Duty → Duty → Bool
precedes d e =
    nat_lt (number d.strong) (number e.strong)
    || (nat_eq (number d.strong) (number e.strong) && nat_lt (number d.weak) (number e.weak))

abbrev pub IsAscending : List Duty → Type 0
IsAscending [] = Unit {0}
IsAscending (d ∷ ds) = Each (λ e. precedes d e ≡ true) ds × IsAscending ds

-- Duties in their order, none within another.
pub record IsFamily (list : List Duty) : Type 0 where
  pub ascending : IsAscending list
  pub apart : (d e : Duty) → Contains list d → Contains list e → within d e ≡ true → d ≡ e

-- A family that says what the duties say.
pub record IsFamilyOf (list ds : List Duty) : Type 0 where
  pub family : IsFamily list
  pub alike : AreAlike list ds

-- the duties of the list that d is not within
abbrev pub kept : List Duty → Duty → List Duty
kept list d = filter (λ (e : Duty). not (within d e)) list

-- d precedes the duties from the place on, and none before it.
pub record IsPlaceFor (list : List Duty) (d : Duty) (place : ℕ) : Type 0 where
  pub inside : place ≤ length list
  pub before : AllWithin (λ e. precedes d e ≡ false) list 0 place
  pub behind : AllWithin (λ e. precedes d e ≡ true) list place (length list)

-- the lists in the buffers
abbrev pub kept_lists : {A : Type 0} → List (Vec Duty A) → List (List Duty)
kept_lists buffers = map (λ b. vec_items b) buffers

abbrev pub list_at : List (List Duty) → ℕ → List Duty
list_at lists k = slice_index_or lists k []

-- The list is a family that says what member k leaves after the joint letter of a code.
abbrev pub IsLeft : List Node → List IndexedAtom → ℕ → ℕ → List Duty → Type 0
IsLeft nodes atoms code k list = IsFamilyOf list (after nodes (letter_of atoms code) k)

-- The lists say it of the members below n.
abbrev pub AreLefts : List Node → List IndexedAtom → ℕ → List (List Duty) → ℕ → Type 0
AreLefts nodes atoms code lists n = (k : ℕ) → k < n → IsLeft nodes atoms code k (list_at lists k)

-- What member k leaves is the same after codes that agree on the mask.
abbrev pub IsAsked : List Node → List IndexedAtom → ℕ → ℕ → Type 0
IsAsked nodes atoms k mask =
    (code other : ℕ) → bit_and code mask ≡ bit_and other mask
    → after nodes (letter_of atoms code) k ≡ after nodes (letter_of atoms other) k

-- The masks are such for the members below n.
abbrev pub AreAsked : List Node → List IndexedAtom → List ℕ → ℕ → Type 0
AreAsked nodes atoms masks n = (k : ℕ) → k < n → IsAsked nodes atoms k (slice_index masks k)

-- of all members
pub record AreMasks (nodes : List Node) (atoms : List IndexedAtom) (masks : List ℕ) : Type 0 where
  pub long : length masks ≡ length nodes
  pub asked : AreAsked nodes atoms masks (length nodes)

-- Codes that agree on the mask say the same of the atom.
abbrev pub IsAtomMask : List IndexedAtom → ℕ → ℕ → ℕ → Type 0
IsAtomMask atoms name variable mask =
    (code other : ℕ) → bit_and code mask ≡ bit_and other mask
    → letter_of atoms code name variable ≡ letter_of atoms other name variable

-- the bits of the mask are among those of the other
abbrev pub IsPart : ℕ → ℕ → Type 0
IsPart mask whole = bit_and mask whole ≡ mask

-- The mask asks what the node does, by the masks of its parts.
abbrev pub IsAskedNode : List IndexedAtom → List ℕ → Node → ℕ → Type 0
IsAskedNode atoms masks (literal b name variable) mask = IsAtomMask atoms name variable mask
IsAskedNode atoms masks (and g h) mask = IsPart (slice_index masks g) mask × IsPart (slice_index masks h) mask
IsAskedNode atoms masks (or g h) mask = IsPart (slice_index masks g) mask × IsPart (slice_index masks h) mask
IsAskedNode atoms masks (until g h) mask = IsPart (slice_index masks g) mask × IsPart (slice_index masks h) mask
IsAskedNode atoms masks (release g h) mask = IsPart (slice_index masks g) mask × IsPart (slice_index masks h) mask
IsAskedNode atoms masks _ mask = Unit {0}

-- The masks of the obligations below k are part of the mask.
abbrev pub IsAskedBelow : List ℕ → Duty → ℕ → ℕ → Type 0
IsAskedBelow masks d n mask =
    (k : ℕ) → k < n → (contains d.strong k || contains d.weak k) ≡ true → IsPart (slice_index masks k) mask

-- The masks of all obligations are.
abbrev pub IsAskedAll : List ℕ → List Duty → ℕ → Type 0
IsAskedAll masks residual mask = Each (λ (d : Duty). IsAskedBelow masks d (length masks) mask) residual

-- The list is alike the unions that take a duty for each member of the set below j.
abbrev pub IsUnionsBelow : List (List Duty) → ℕ → NumberSet → ℕ → List Duty → Type 0
IsUnionsBelow lists code set j made =
    (nodes : List Node) (atoms : List IndexedAtom) → length nodes ≡ length lists
    → AreLefts nodes atoms code lists (length lists)
    → AreAlike made (after_members nodes (letter_of atoms code) set j)

-- The list is alike what the duties leave.
abbrev pub IsStepOf : List (List Duty) → ℕ → List Duty → List Duty → Type 0
IsStepOf lists code residual made =
    (nodes : List Node) (atoms : List IndexedAtom) → length nodes ≡ length lists
    → AreLefts nodes atoms code lists (length lists)
    → AreAlike made (after_each nodes (letter_of atoms code) residual)

-- The list is alike those that are done and each union of a strong one and one that the set leaves.
abbrev pub IsJoinedWith : List (List Duty) → ℕ → List Duty → List Duty → NumberSet → List Duty → Type 0
IsJoinedWith lists code done strong weak made =
    (nodes : List Node) (atoms : List IndexedAtom) → length nodes ≡ length lists
    → AreLefts nodes atoms code lists (length lists)
    → AreAlike made (done ++ joined strong (after_members nodes (letter_of atoms code) weak (length lists)))

-- Those that are done and these unions are alike what the duties leave.
abbrev pub IsPartialStep : List (List Duty) → ℕ → List Duty → List Duty → List Duty → NumberSet → Type 0
IsPartialStep lists code residual done strong weak =
    (nodes : List Node) (atoms : List IndexedAtom) → length nodes ≡ length lists
    → AreLefts nodes atoms code lists (length lists)
    → AreAlike (done ++ joined strong (after_members nodes (letter_of atoms code) weak (length lists)))
    (after_each nodes (letter_of atoms code) residual)
