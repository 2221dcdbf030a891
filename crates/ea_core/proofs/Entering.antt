-- The entries of a proof, branch by branch.
use Rattle.std.proofs.Common.{◌≡◌, ℕ, ◌+◌, ◌<◌, ◌≤◌, List, [], ◌∷◌, ◌++◌, length, take, get_or, Some, slice_get, inl, inr, refl, sym, ap, ◌∙◌, subst, arith, length-append}
use Rattle.std.specs.List.{All}
use Rattle.std.proofs.Math.Seq.{get_or-append_seam}
use Rattle.std.proofs.lemmas.Bool.{cases_lt}
use Rattle.std.proofs.lemmas.List.{map-append, take_more, length-map, length-take-le, get_or_append_left, take_all}
use Rattle.std.proofs.lemmas.List.Elements.{All-push, All-nil, All-more, All-weaker, All-get_or}
use Rattle.std.proofs.lemmas.Option.{slice_get_within, get_or_from_slice_get}
use Rattle.rank_check.specs.declared.ranks.Ranks.{Ranks}
use Rattle.rank_check.specs.Ranking.{rank_of}
use Rattle.ltl_tableau.specs.Branches.{Branch}
use Rattle.rank_proofs.specs.declared.rank_proof.ProofBranch.{ProofBranch}
use Rattle.rank_proofs.specs.Proofs.{branch_of, IsAscending}
use Rattle.ea_core.specs.Shown.{AreEntries}

pub entries-none : (list : List Branch) (ranks : Ranks) → AreEntries (take 0 list) ranks []
entries-none list ranks = record { branches = refl; ranked = λ v d lt. absurd (omega arith); ascending = All-nil IsAscending }

pub entries-more : (list : List Branch) (ranks : Ranks) (entries new : List ProofBranch) (i : ℕ) (b : Branch) (e : ProofBranch)
    → slice_get list i ≡ Some b → branch_of e ≡ b → rank_of ranks i ≡ Some e.rank → IsAscending e
    → AreEntries (take i list) ranks entries → new ≡ entries ++ e ∷ [] → AreEntries (take (i + 1) list) ranks new
entries-more list ranks entries new i b e at same rank ascends are made =
    let lt = slice_get_within list i b at in
    let front : length (take i list) ≡ i = length-take-le i list (omega arith) in
    let count : length entries ≡ i = sym (length-map entries branch_of) ∙ ap length are.branches ∙ front in
    let grown : take (i + 1) list ≡ take i list ++ b ∷ [] = take_more list i b lt ∙ ap (λ x. take i list ++ x ∷ []) (get_or_from_slice_get list i b b at) in
    let R : List ProofBranch → Type 0 = λ es. AreEntries (take (i + 1) list) ranks es in
    subst R (sym made) (record {
      branches = map-append branch_of entries (e ∷ []) ∙ ap (λ bs. bs ++ branch_of e ∷ []) are.branches ∙ ap (λ x. take i list ++ x ∷ []) same ∙ sym grown;
      ranked = λ v d lt'.
          let below : v < i + 1 = omega (arith, ap length grown, length-append (take i list) (b ∷ []), front) in
          elim (cases_lt v i) [
            | inl old ↦
                are.ranked v d (omega (arith, front)) ∙ ap (λ (x : ProofBranch). Some x.rank) (sym (get_or_append_left entries (e ∷ []) d v (omega (arith, count))))
            | inr past ↦
                let here : v ≡ i = omega arith in
                ap (rank_of ranks) here ∙ rank
                ∙ ap (λ (x : ProofBranch). Some x.rank) (sym (ap (λ k. get_or (entries ++ e ∷ []) k d) (here ∙ sym count) ∙ get_or-append_seam entries e [] d))
          ];
      ascending = All-push IsAscending entries e are.ascending ascends;
    })

pub entries-all : (list : List Branch) (ranks : Ranks) (entries : List ProofBranch) (i : ℕ) → length list ≤ i → AreEntries (take i list) ranks entries → AreEntries list ranks entries
entries-all list ranks entries i le are =
    let R : List Branch → Type 0 = λ bs. AreEntries bs ranks entries in subst R (take_all i list le) are

-- all ranks are below one number more
pub ranks-more : (entries : List ProofBranch) (i count new : ℕ) (e : ProofBranch) → i < length entries → e ≡ get_or entries i e
    → All (λ b. b.rank < count) (take i entries) → count ≤ new → e.rank < new → All (λ b. b.rank < new) (take (i + 1) entries)
ranks-more entries i count new e lt at below le here =
    let P : ProofBranch → Type 0 = λ b. b.rank < count in
    let Q : ProofBranch → Type 0 = λ b. b.rank < new in
    All-more Q entries i e lt (All-weaker P Q (λ b h. omega arith) (take i entries) below)
    (subst Q at here)

pub ranks-all : (entries : List ProofBranch) (i count : ℕ) → length entries ≤ i → All (λ b. b.rank < count) (take i entries) → All (λ b. b.rank < count) entries
ranks-all entries i count le below = let R : List ProofBranch → Type 0 = All (λ b. b.rank < count) in subst R (take_all i entries le) below

-- a number that all ranks are below is above each of them
pub rank-below : (entries : List ProofBranch) (i n : ℕ) (e : ProofBranch) → i < length entries → e ≡ get_or entries i e
    → All (λ b. b.rank < n) entries → e.rank < n
rank-below entries i n e lt at all =
    let Q : ProofBranch → Type 0 = λ b. b.rank < n in
    subst Q (sym at) (All-get_or Q entries i e lt all)
