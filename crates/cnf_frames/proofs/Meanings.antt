-- What a literal of the net says in a frame.
use Rattle.std.proofs.Common.{◌≡◌, ℕ, suc, ◌+◌, ◌*◌, ◌/◌, ◌%◌, Bool, ap, ◌∙◌, inl, inr, refl, sym, subst}
use Rattle.hy_base.proofs.Truths.{not-not}
use Rattle.aig_net.specs.Nets.{Net, literal_value, latch_variable, variables}
use Rattle.aig_net.specs.Executions.{Word}
use Rattle.aig_net.proofs.Literals.{parity, twice-half, odd-half, even-rest, odd-rest, renumbered, value-under, value-same, value-even}
use Rattle.chain_check.specs.Values.{Assignment, Means}
use Rattle.cnf_frames.specs.Queries.{in_frame, latch_literal, literal_in}

abbrev pub path_of : ℕ → Assignment → Word
path_of V a j v = a (j * V + v)

pub frame-means : (a : Assignment) (V j l : ℕ) →
    Means a (in_frame V j l) (literal_value (path_of V a j) l)
frame-means a V j l =
    let P : ℕ → Type 0 = λ l. Means a (in_frame V j l) (literal_value (path_of V a j) l) in
    elim (parity l) [ inl (x, e) ↦ subst P (sym e) (even x) | inr (x, e) ↦ subst P (sym e) (odd x) ]
  where
    even : (x : ℕ) → Means a (in_frame V j (2 * x)) (literal_value (path_of V a j) (2 * x))
    even x = rw (even-rest x, twice-half x) (record { is = refl; other = refl })

    odd : (x : ℕ) → Means a (in_frame V j (suc (2 * x)))
        (literal_value (path_of V a j) (suc (2 * x)))
    odd x = rw (odd-rest x, odd-half x) (record { is = refl; other = sym (not-not _) })

-- a literal of latches
pub literal-means : (net : Net) (a : Assignment) (j l : ℕ) → Means a (literal_in net j l)
    (literal_value (λ i. path_of (variables net) a j (latch_variable net i)) l)
literal-means net a j l =
    let w : ℕ → Bool = path_of (variables net) a j in
    let p : ℕ → ℕ = latch_variable net in
    let n : ℕ = latch_literal net (l / 2) + l % 2 in
    let e : literal_value w n ≡ literal_value (λ i. w (p i)) l =
    ap (literal_value w) (sym (renumbered p l)) ∙ value-under w (λ i. 2 * p i) l
    ∙ value-same (λ i. literal_value w (2 * p i)) (λ i. w (p i)) l (value-even w (p (l / 2))) in
    let P : Bool → Type 0 = Means a (literal_in net j l) in
    subst P e (frame-means a (variables net) j n)
