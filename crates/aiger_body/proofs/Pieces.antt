-- The pieces of a text.
use Rattle.std.proofs.Common.{◌≡◌, ℕ, Bool, true, false, List, [], ◌∷◌, ◌++◌, refl, ◌∙◌, ap}
use Rattle.std.specs.List.{concat}
use Rattle.aiger_body.specs.Texts.{grown, pieces, is_ended}

grown-concat : (b : Bool) (x : ℕ) (parts : List (List ℕ)) → concat (grown b x parts) ≡ x ∷ concat parts
grown-concat true x parts = refl
grown-concat false x [] = refl
grown-concat false x (p ∷ ps) = refl

pub pieces-concat : (ends : ℕ → Bool) (bytes : List ℕ) → concat (pieces ends bytes) ≡ bytes
pieces-concat ends [] = refl
pieces-concat ends (b ∷ bytes) = grown-concat (ends b) b (pieces ends bytes) ∙ ap (λ l. b ∷ l) (pieces-concat ends bytes)

-- no byte of the list ends a piece
abbrev pub Free : (ℕ → Bool) → List ℕ → Type 0
Free ends [] = Unit {0}
Free ends (b ∷ bytes) = (ends b ≡ false) × Free ends bytes

grown-by : (ends : ℕ → Bool) (b : ℕ) (text : List ℕ) (x : Bool) (rest : List (List ℕ)) → x ≡ false → grown x b (text ∷ rest) ≡ (b ∷ text) ∷ rest
grown-by ends b text true rest e = absurd (cc)
grown-by ends b text false rest e = refl

grown-end : (b : ℕ) (x : Bool) (rest : List (List ℕ)) → x ≡ true → grown x b rest ≡ (b ∷ []) ∷ rest
grown-end b true rest e = refl
grown-end b false rest e = absurd (cc)

-- a piece, its end and what comes behind it
pub pieces-cons : (ends : ℕ → Bool) (text : List ℕ) (e : ℕ) (rest : List ℕ) → Free ends text → ends e ≡ true → pieces ends (text ++ e ∷ rest) ≡ (text ++ e ∷ []) ∷ pieces ends rest
pieces-cons ends [] e rest free end = grown-end e (ends e) (pieces ends rest) end
pieces-cons ends (b ∷ text) e rest (here, free) end =
    ap (grown (ends b) b) (pieces-cons ends text e rest free end) ∙ grown-by ends b (text ++ e ∷ []) (ends b) (pieces ends rest) here

pub ended : (ends : ℕ → Bool) (text : List ℕ) (e : ℕ) → ends e ≡ true → is_ended ends (text ++ e ∷ []) ≡ true
ended ends [] e end = end
ended ends (b ∷ []) e end = end
ended ends (b ∷ c ∷ text) e end = ended ends (c ∷ text) e end
