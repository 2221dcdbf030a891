-- Lines that say values, one after another.
use Rattle.std.proofs.Common.{◌≡◌, ℕ, ◌+◌, ◌<◌, List, [], ◌∷◌, ◌++◌, length, refl, sym, ◌∙◌, ap, subst, arith, append_assoc, length-append, Option}
use Rattle.std.specs.Option.{option_copied}
use denote.Ref.{Bor}
use Rattle.hy_text.specs.Lines.{left_lines, lines_of}
use Rattle.cert_text.specs.Lines.{Line, Say}
use Rattle.cert_text.proofs.Lists.{heads, tails}
use Rattle.induction_judge.specs.Reading.{AreLines, AreSaid}

-- A line is cut off what is left.
pub cut_line : {lines : List Line} {line : Line} {end behind : Option (Bor (List ℕ))}
    → lines ≡ line ∷ left_lines (option_copied end) → end ≡ behind
    → lines ≡ line ∷ left_lines (option_copied behind)
cut_line {line = line} cut is = cut ∙ ap (λ o. line ∷ left_lines (option_copied o)) is

-- The line says the first value, and the lines of the text behind it the others.
pub record IsStepped {A : Type 0} (Says : Line → A → Type 0) (line : Line) (text : List ℕ) (n : ℕ)
    (values : List A) (rest : List Line) : Type 0 where
  pub first : A
  pub more : List A
  pub parts : values ≡ first ∷ more
  pub says : Says line first
  pub behind : AreSaid Says text n more rest

pub stepped : {A : Type 0} (Says : Line → A → Type 0) (text next : List ℕ) (line : Line) (n m : ℕ)
    (values : List A) (rest : List Line) → n ≡ m + 1 → AreSaid Says text n values rest
    → lines_of text ≡ line ∷ lines_of next → IsStepped Says line next m values rest
stepped Says text next line n m [] rest one said cut = absurd (omega (arith, said.many))
stepped {A} Says text next line n m (x ∷ more) rest one said cut =
    from said.front said.said said.parts
  where
    from : (front : List Line) → Say Says front (x ∷ more) → AreLines text (front ++ rest)
        → IsStepped Says line next m (x ∷ more) rest
    from [] none parts = absurd none
    from (l ∷ front) (says, behind) parts =
        let both : line ∷ lines_of next ≡ l ∷ ((front ++ rest) ++ [] ∷ []) = sym cut ∙ parts in
        let P : Line → Type 0 = λ t. Says t x in
        record {
          first = x;
          more = more;
          parts = refl;
          says = subst P (sym (heads both)) says;
          behind = record {
            front = front;
            parts = tails both;
            said = behind;
            many = omega (arith, said.many, one);
          };
        }

-- The last line, which has no line feed, says no value.
pub not_last : {A : Type 0} (Says : Line → A → Type 0) (text : List ℕ) (line : Line) (n : ℕ)
    (values : List A) (rest : List Line) → 0 < n → lines_of text ≡ line ∷ []
    → ¬ AreSaid Says text n values rest
not_last Says text line n [] rest some cut said = omega (arith, said.many)
not_last Says text line n (x ∷ more) rest some cut said = from said.front said.said said.parts
  where
    from : (front : List Line) → Say Says front (x ∷ more) → ¬ AreLines text (front ++ rest)
    from [] none parts = none
    from (l ∷ front) says parts =
        let both : line ∷ [] ≡ l ∷ ((front ++ rest) ++ [] ∷ []) = sym cut ∙ parts in
        omega (arith, ap length (tails both), length-append (front ++ rest) ([] ∷ []))

pub over : {A : Type 0} (Says : Line → A → Type 0) (text : List ℕ) (n : ℕ) (values : List A)
    (rest : List Line) → n ≡ 0 → AreSaid Says text n values rest
    → (values ≡ []) × AreLines text rest
over Says text n (x ∷ more) rest none said = absurd (omega (arith, said.many))
over Says text n [] rest none said = (refl, from said.front said.said said.parts)
  where
    from : (front : List Line) → Say Says front [] → AreLines text (front ++ rest)
        → AreLines text rest
    from [] says parts = parts
    from (l ∷ front) says parts = absurd says

-- ---- values that are taken as they are read

-- What the lines say are the values taken and those that the lines left say.
abbrev pub AreLeft : {A : Type 0} → (Line → A → Type 0) → List ℕ → ℕ → List ℕ → ℕ → List A
    → Type 0
AreLeft {A} Says text n left k taken =
    (values : List A) (rest : List Line) → AreSaid Says text n values rest
    → (more : List A) × (values ≡ taken ++ more) × AreSaid Says left k more rest

-- The next line says this value.
pub one_taken : {A : Type 0} (Says : Line → A → Type 0)
    → ((line : Line) (x y : A) → Says line x → Says line y → x ≡ y)
    → (text left next : List ℕ) (line : Line) (n k m : ℕ) (taken now : List A) (x : A)
    → k ≡ m + 1 → AreLeft Says text n left k taken → lines_of left ≡ line ∷ lines_of next
    → Says line x → now ≡ taken ++ x ∷ [] → AreLeft Says text n next m now
one_taken Says once text left next line n k m taken now x one before cut says is values rest said =
    let (more, parts, here) = before values rest said in
    let step = stepped Says left next line k m more rest one here cut in
    let same = once line step.first x step.says says in (
      step.more,
      parts ∙ ap (λ l. taken ++ l) (step.parts ∙ ap (λ y. y ∷ step.more) same)
          ∙ sym (append_assoc taken (x ∷ []) step.more) ∙ ap (λ l. l ++ step.more) (sym is),
      step.behind,
    )
