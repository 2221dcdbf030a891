-- Four places as a list, and what may still come at the first ones.
use Rattle.std.specs.Prelude.{◌≡◌, ℕ, zero, suc, List, [], ◌∷◌, map, take, set}
use Rattle.hy_bits.specs.Letter.{Letter}
use Rattle.trace_trie.specs.Numbered.{Numbered}
use Rattle.tuple_walk.specs.declared.place.Place.{Place}
use Rattle.tuple_walk.specs.declared.places.Places.{Places}
use Rattle.tuple_walk.specs.Places.{whole_of, rests_of, letters_at}

abbrev pub four : Places → List Place
four p = p.first ∷ p.second ∷ p.third ∷ p.fourth ∷ []

abbrev pub first_places : ℕ → Places → List Place
first_places n places = take n (four places)

abbrev pub wholes : ℕ → Places → List (List Numbered)
wholes n places = map whole_of (first_places n places)

abbrev pub rests : ℕ → Places → List (List Numbered)
rests n places = map (λ (p : Place). rests_of p.spot) (first_places n places)

-- the letters that may come next at a place
abbrev pub letters_in : ℕ → List Place → List Letter
letters_in i [] = []
letters_in zero (p ∷ places) = letters_at p.spot
letters_in (suc i) (p ∷ places) = letters_in i places

-- the places with one of them put anew
abbrev pub placed : Places → ℕ → Place → List Place
placed places i place = set (four places) i place

-- They differ at most at this place.
abbrev pub AreKept : ℕ → Places → Places → Type 0
AreKept i old new = (place : Place) → placed new i place ≡ placed old i place
