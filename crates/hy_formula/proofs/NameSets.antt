-- Sets of names.
use Rattle.std.proofs.Common.{◌≡◌, ℕ, Bool, false, ◌||◌, nat_eq, inl, inr, refl, sym, ap, ◌∙◌, subst}
use Rattle.std.proofs.lemmas.Bool.{cases_eq, false_from_ne_true}
use Rattle.std.proofs.lemmas.Bool.Decides.{Decides-eqb}
use Rattle.std.specs.Cmp.{nat_cmp_total}
use Rattle.std.specs.FinSet.{contains, contains-empty, contains-union, empty, insert, union}
use Rattle.std.specs.Ordering.{nat_cmp}
use Rattle.hy_bits.specs.BinaryLaws.{contains-insert_other, contains-insert_same}
use Rattle.hy_bits.specs.Letter.{Letter}

pub no_name : (k : ℕ) → contains (empty {R = nat_cmp}) k ≡ false
no_name k = contains-empty nat_cmp k

pub one_name : (s t : Letter) (a b k : ℕ) → s ≡ insert t b → t ≡ empty → b ≡ a →
    contains s k ≡ nat_eq a k
one_name s t a b k made e same =
    let P : ℕ → Type 0 = λ k. contains (insert (empty {R = nat_cmp}) a) k ≡ nat_eq a k in
    ap (λ s. contains s k) (made ∙ ap (λ t. insert t b) e ∙ ap (insert empty) same)
    ∙ elim (cases_eq k a) [
      | inl is ↦ subst P (sym is) (contains-insert_same empty a
          ∙ sym ((Decides-eqb a a).1 refl))
      | inr apart ↦ contains-insert_other empty a k apart ∙ contains-empty nat_cmp k
          ∙ sym (false_from_ne_true _ (λ h. apart (sym ((Decides-eqb a k).0 h))))
    ]

pub either_name : (s t u : Letter) (k : ℕ) (x y : Bool) → u ≡ union s t → contains s k ≡ x →
    contains t k ≡ y → contains u k ≡ (x || y)
either_name s t u k x y made e h =
    ap (λ u. contains u k) made ∙ contains-union nat_cmp_total s t k ∙ ap (λ x. x || contains t k) e
    ∙ ap (λ y. x || y) h
