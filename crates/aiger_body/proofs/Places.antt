-- What stands from the place of a piece on is cut into the pieces from there on.
use Rattle.std.proofs.Common.{◌≡◌, ℕ, zero, suc, Bool, true, false, List, [], ◌∷◌, ◌++◌, length, take, drop, refl, sym, ◌∙◌, ap}
use Rattle.std.specs.List.{concat}
use Rattle.aiger_body.specs.Texts.{grown, pieces, place}

-- the first piece, and what is behind it
pub record Split (ends : ℕ → Bool) (bytes : List ℕ) (p : List ℕ) (rest : List (List ℕ)) : Type 0 where
  pub behind : List ℕ
  pub whole : bytes ≡ p ++ behind
  pub cut : pieces ends behind ≡ rest

pub split : (ends : ℕ → Bool) (bytes : List ℕ) (p : List ℕ) (rest : List (List ℕ)) → pieces ends bytes ≡ p ∷ rest → Split ends bytes p rest
split ends [] p rest e = absurd (cc)
split ends (b ∷ bytes) p rest e = step (ends b) (pieces ends bytes) refl (split ends bytes) e
  where
    step : (x : Bool) (ps : List (List ℕ)) → pieces ends bytes ≡ ps → ((q : List ℕ) (qs : List (List ℕ)) → pieces ends bytes ≡ q ∷ qs → Split ends bytes q qs) → grown x b ps ≡ p ∷ rest → Split ends (b ∷ bytes) p rest
    step true ps is more e =
        let first : b ∷ [] ≡ p = cc in
        let others : ps ≡ rest = cc in
        record { behind = bytes; whole = ap (λ q. q ++ bytes) first; cut = is ∙ others }
    step false [] is more e =
        let first : b ∷ [] ≡ p = cc in
        let others : [] ≡ rest = cc in
        record { behind = bytes; whole = ap (λ q. q ++ bytes) first; cut = is ∙ others }
    step false (q ∷ qs) is more e =
        let first : b ∷ q ≡ p = cc in
        let others : qs ≡ rest = cc in
        let s = more q qs is in
        record { behind = s.behind; whole = ap (λ l. b ∷ l) s.whole ∙ ap (λ l. l ++ s.behind) first; cut = s.cut ∙ others }

drop-past : (xs ys zs : List ℕ) → drop (length (xs ++ ys)) (xs ++ zs) ≡ drop (length ys) zs
drop-past [] ys zs = refl
drop-past (x ∷ xs) ys zs = drop-past xs ys zs

pub pieces-from : (ends : ℕ → Bool) (k : ℕ) (bytes : List ℕ) → pieces ends (drop (place (pieces ends bytes) k) bytes) ≡ drop k (pieces ends bytes)
pieces-from ends zero bytes = refl
pieces-from ends (suc k) bytes = step (pieces ends bytes) refl (pieces-from ends k)
  where
    step : (ps : List (List ℕ)) → pieces ends bytes ≡ ps → ((b : List ℕ) → pieces ends (drop (place (pieces ends b) k) b) ≡ drop k (pieces ends b)) → pieces ends (drop (place ps (suc k)) bytes) ≡ drop (suc k) ps
    step [] is more = is
    step (p ∷ ps) is more =
        let s = split ends bytes p ps is in
        ap (λ b. pieces ends (drop (length (p ++ concat (take k ps))) b)) s.whole
        ∙ ap (pieces ends) (drop-past p (concat (take k ps)) s.behind)
        ∙ ap (λ qs. pieces ends (drop (place qs k) s.behind)) (sym s.cut)
        ∙ more s.behind
        ∙ ap (drop k) s.cut
