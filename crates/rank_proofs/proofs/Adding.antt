-- One entry more, where it is new.
use Rattle.std.proofs.Common.{◌≡◌, ◌↔◌, ◌⊎◌, Bool, true, ◌&&◌, nat_eq, if◌then◌else◌, List, [], ◌∷◌, ◌++◌, ap}
use Rattle.std.specs.List.{Contains, list_any}
use Rattle.std.proofs.lemmas.Bool.{eqb-true, eq-eqb, and_parts, and_from}
use Rattle.ltl_tableau.specs.Ranks.{Ranked}
use Rattle.ltl_tableau.proofs.Collecting.{equal, equal-same, equal-itself}
use Rattle.ltl_tableau.proofs.Exploring.{put-holds}

abbrev pub equal_entries : Ranked → Ranked → Bool
equal_entries d e = equal d.branch e.branch && nat_eq d.rank e.rank

entries-same : (d e : Ranked) → equal_entries d e ≡ true → d ≡ e
entries-same d e is =
    let (branch, rank) = and_parts _ _ is in
    let same = equal-same d.branch e.branch branch in
    let also : d.rank ≡ e.rank = eqb-true _ _ rank in
    λ i. record { branch = same i; rank = also i }

entries-itself : (d e : Ranked) → d ≡ e → equal_entries d e ≡ true
entries-itself d e is =
    and_from _ _ (equal-itself d.branch e.branch (ap (λ (x : Ranked). x.branch) is))
    (eq-eqb d.rank e.rank (ap (λ (x : Ranked). x.rank) is))

pub entry-added : (old new : List Ranked) (d : Ranked)
    → new ≡ (if list_any (λ e. equal_entries d e) old then old else old ++ d ∷ [])
    → (e : Ranked) → Contains new e ↔ (Contains old e ⊎ (d ≡ e))
entry-added old new d put = put-holds equal_entries entries-itself entries-same old new d put
