-- What makes the answers of a tool one: facts of its rules, each of which is a law of the crates that it stands on.
use Rattle.std.specs.Prelude.{◌≡◌, ◌⊎◌, ℕ, List, [], ◌∷◌, ◌++◌, length, Err}
use Rattle.hy_files.specs.declared.fault.FileFault.{FileFault}
use Rattle.hy_run.specs.Names.{Text}
use Rattle.hy_run.specs.Rules.{Rules}
use Rattle.hy_run.specs.Runs.{Answer}
use Rattle.hy_run.specs.declared.refusal.Refusal.TheVariants.{Memory}

module _ {Q V F : Type 0} (rules : Rules Q V F) where
  -- Memory ran out for one of two answers, or they say the same.
  abbrev pub AgreeOrShort : Answer V F → Answer V F → Type 0
  AgreeOrShort a b = (a ≡ Err Memory) ⊎ (b ≡ Err Memory) ⊎ rules.agrees a b

  pub record AreSettled : Type 0 where
    -- Words are one command.
    pub command : (words files others : List Text) (question other : Q) → rules.asks words question files
        → rules.asks words other others → (question ≡ other) × (files ≡ others)
    -- A file is one text, or is refused by one fault, and never both.
    pub text : (question : Q) (k : ℕ) (old : List Text) (bytes : List ℕ) (new later : List Text)
        → rules.is_text question k old bytes new → rules.is_text question k old bytes later → new ≡ later
    pub fault : (question : Q) (k : ℕ) (old : List Text) (bytes : List ℕ) (a b : FileFault)
        → rules.is_refused question k old bytes a → rules.is_refused question k old bytes b → a ≡ b
    pub apart : (question : Q) (k : ℕ) (old : List Text) (bytes : List ℕ) (new : List Text) (fault : FileFault)
        → rules.is_text question k old bytes new → ¬ rules.is_refused question k old bytes fault
    -- A question comes to one answer.
    pub answer : (question : Q) (files : List (List ℕ)) (names : List Text) (a b : Answer V F)
        → rules.comes question files names a → rules.comes question files names b → AgreeOrShort a b
    pub same : (a : Answer V F) → rules.agrees a a

  -- The bytes of the files behind those that are done are texts, one after another: `old` are the names before, and `new`
  -- those then.
  abbrev pub AreTextsBehind : Q → List (List ℕ) → List Text → List (List ℕ) → List Text → Type 0
  AreTextsBehind question done old [] new = new ≡ old
  AreTextsBehind question done old (bytes ∷ files) new =
      (names : List Text) × rules.is_text question (length done) old bytes names
      × AreTextsBehind question (done ++ bytes ∷ []) names files new

  -- The bytes of files are texts, one after another, and these are the names then.
  abbrev pub AreTexts : Q → List (List ℕ) → List Text → Type 0
  AreTexts question files names = AreTextsBehind question [] [] files names
