-- A number that was read is the only one.
use Rattle.std.proofs.Common.{◌≡◌, ◌≢◌, ℕ, ◌<◌, ◌^◌, false, not, List, [], ◌∷◌, Option, Some, None, Result, Ok, decimal, sym, ap, ◌∙◌, arith}
use Rattle.std.specs.Result.{result_ok}
use Rattle.std.specs.Str.{bytes_eq}
use Rattle.std.proofs.lemmas.Fmt.{decimal_injective}
use Rattle.hy_base.proofs.Truths.{bytes-themselves}
use Rattle.hy_words.specs.Words.{Text}
use Rattle.hy_words.specs.Numbers.{IsNumber, IsNumberOr}

pub no_number : {E : Type 0} (r : Result ℕ E) (o : Option ℕ) (n : ℕ) → r ≡ Ok n → o ≡ result_ok r → o ≢ None
no_number r o n back k v = some-none (sym (k ∙ ap result_ok back) ∙ v)
  where
    some-none : Some n ≡ None → ⊥
    some-none e = cc

pub that_number : {E : Type 0} (r : Result ℕ E) (o : Option ℕ) (n m : ℕ) → r ≡ Ok n → o ≡ result_ok r → o ≡ Some m → m ≡ n
that_number {E} r o n m back k v = let both : Some m ≡ Some n = sym v ∙ k ∙ ap result_ok back in cc

pub text_same : (text printed : Text) (n m : ℕ) → text ≡ decimal n → printed ≡ decimal m → m ≡ n → not (bytes_eq printed text) ≡ false
text_same text printed n m e f g = ap (λ t. not (bytes_eq t text)) (f ∙ ap decimal g ∙ sym e) ∙ ap not (bytes-themselves text)

pub same-number : (text : Text) (least most n m : ℕ) → most < 2 ^ 32 → IsNumber text least most n → IsNumber text least most m → n ≡ m
same-number text least most n m small (e, from, to) (f, also, too) = decimal_injective n m (omega arith) (omega arith) (sym e ∙ f)

pub same-number-or : (usual : ℕ) (given : List Text) (least most n m : ℕ) → most < 2 ^ 32 → IsNumberOr usual given least most n
    → IsNumberOr usual given least most m → n ≡ m
same-number-or usual [] least most n m small e f = e ∙ sym f
same-number-or usual (v ∷ vs) least most n m small one two = same-number v least most n m small one two
