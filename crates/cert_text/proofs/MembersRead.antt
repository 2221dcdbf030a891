-- Members that are read, their numbers one after another.
use Rattle.std.proofs.Common.{◌≡◌, ◌≢◌, ℕ, List, [], ◌∷◌, ◌++◌, refl, sym, ◌∙◌, ap, subst, append_assoc, append-nil}
use Rattle.hy_text.specs.Cuts.{cut_at}
use Rattle.hy_text.specs.Numbers.{SaysNumber}
use Rattle.cert_text.specs.LineParts.{SaysAscending}
use Rattle.cert_text.specs.Lines.{Say, Speaks}
use Rattle.cert_text.specs.Numbers.{SaysMembers}
use Rattle.cert_text.proofs.Cutting.{pieces_some}
use Rattle.cert_text.proofs.NumbersRead.{same_number}
use Rattle.cert_text.proofs.OneReading.{say_once}

-- ---- numbers one after another

say-more : {A : Type 0} (Says : List ℕ → A → Type 0) (texts : List (List ℕ)) (xs : List A)
    (text : List ℕ) (x : A) → Say Says texts xs → Says text x
    → Say Says (texts ++ text ∷ []) (xs ++ x ∷ [])
say-more Says [] [] text x said says = (says, tt)
say-more Says [] (y ∷ ys) text x said says = absurd said
say-more Says (t ∷ ts) [] text x said says = absurd said
say-more Says (t ∷ ts) (y ∷ ys) text x (here, said) says =
    (here, say-more Says ts ys text x said says)

-- The words before those that are left say the values.
pub record AreRead (words : List (List ℕ)) (values : List ℕ) (left : List (List ℕ)) : Type 0 where
  pub front : List (List ℕ)
  pub parts : words ≡ front ++ left
  pub said : Say SaysNumber front values

pub none_read : (words : List (List ℕ)) → AreRead words [] words
none_read words = record { front = []; parts = refl; said = tt }

pub one_read : (words left rest : List (List ℕ)) (word values all : List ℕ) (n : ℕ)
    → AreRead words values left → left ≡ word ∷ rest → SaysNumber word n
    → all ≡ values ++ n ∷ [] → AreRead words all rest
one_read words left rest word values all n read cut says whole =
    let more = say-more SaysNumber read.front values word n read.said says in
    let P : List ℕ → Type 0 = λ v. Say SaysNumber (read.front ++ word ∷ []) v in
    record {
      front = read.front ++ word ∷ [];
      parts =
          read.parts ∙ ap (λ l. read.front ++ l) cut
          ∙ sym (append_assoc read.front (word ∷ []) rest);
      said = subst P (sym whole) more;
    }

pub all_read : (text values : List ℕ) → AreRead (cut_at 44 text) values []
    → Speaks SaysAscending text → SaysAscending text values
all_read text values read (ks, (said, rising)) =
    let whole : read.front ≡ cut_at 44 text = sym (read.parts ∙ append-nil read.front) in
    let P : List (List ℕ) → Type 0 = λ words. Say SaysNumber words values in
    let same = say_once SaysNumber same_number (cut_at 44 text) ks values said
    (subst P whole read.said) in
    subst (SaysAscending text) same (said, rising)

-- ---- members

none-said : (words : List (List ℕ)) → words ≢ [] → ¬ Say SaysNumber words []
none-said [] some said = some refl
none-said (word ∷ words) some said = said

pub ascending_members : (word ks : List ℕ) → SaysAscending word ks → SaysMembers word ks
ascending_members word [] (said, rising) =
    absurd (none-said (cut_at 44 word) (pieces_some 44 word) said)
ascending_members word (k ∷ ks) (said, rising) = (said, rising)
